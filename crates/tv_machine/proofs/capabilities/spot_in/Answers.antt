use Rattle.std.proofs.Common.{ap, sym, ◌∙◌, length, refl}
use Rattle.tv_machine.proofs.Spots.{in-ranges, in-disk, in-output, in-input, past-input}
use Rattle.tv_machine.proofs.capabilities.spot_in.Goals as goal

pub returns-then-at-ranges : goal.returns-then-at-ranges
returns-then-at-ranges c slot = in-ranges slot c.args.device.now c.args.at _ _ _ _ (ap length c.as_slice-ranges.ensures) refl refl refl c.if-at-ranges.true

pub returns-then-at_disk-disks : goal.returns-then-at_disk-disks
returns-then-at_disk-disks c slot =
    in-disk slot c.args.device.now c.args.at _ _ _ _ (ap length c.as_slice-ranges.ensures) c.files-disks.ensures refl refl c.if-at-ranges.false
    c.if-at_disk-disks.true

pub returns-then-at_output-outputs : goal.returns-then-at_output-outputs
returns-then-at_output-outputs c slot =
    in-output slot c.args.device.now c.args.at _ _ _ _ (ap length c.as_slice-ranges.ensures) c.files-disks.ensures c.files-outputs.ensures refl
    c.if-at-ranges.false c.if-at_disk-disks.false c.if-at_output-outputs.true

pub returns-then-at_input-inputs : goal.returns-then-at_input-inputs
returns-then-at_input-inputs c slot =
    in-input slot c.args.device.now c.args.at _ _ _ _ (ap length c.as_slice-ranges.ensures) c.files-disks.ensures c.files-outputs.ensures c.files-inputs.ensures
    c.if-at-ranges.false c.if-at_disk-disks.false c.if-at_output-outputs.false c.if-at_input-inputs.true

pub returns : goal.returns
returns c slot =
    c.source_spot.ensures slot ∙ sym (past-input slot c.args.device.now c.args.at _ _ _ _ (ap length c.as_slice-ranges.ensures) c.files-disks.ensures c.files-outputs.ensures
    c.files-inputs.ensures c.if-at-ranges.false c.if-at_disk-disks.false c.if-at_output-outputs.false c.if-at_input-inputs.false)
