use Rattle.std.proofs.Common.{◌∙◌, sym, arith}
use Rattle.tv_machine.specs.Capabilities.{device_capabilities}
use Rattle.tv_machine.proofs.Spots.{found-disk, found-other, found-after, of-device, drop-next}
use Rattle.tv_machine.proofs.capabilities.disk_slot.Goals as goal

pub returns-in-Disk-clause-slot : goal.returns-in-Disk-clause-slot
returns-in-Disk-clause-slot c =
    sym (c.loop-slot.invariant ∙ rw (drop-next c.args.devices.now c.loop-slot.slot c.index-devices-slot.result (omega arith) c.index-devices-slot.is)
    (found-disk c.loop-slot.slot (device_capabilities c.loop-slot.slot c.index-devices-slot.result) _ c.loop-slot.at (of-device c.loop-slot.slot c.index-devices-slot.result) (sym (c.spot_in.ensures c.loop-slot.slot) ∙ c.in-Disk.is)))

pub returns-in-Other-clause-slot : goal.returns-in-Other-clause-slot
returns-in-Other-clause-slot c =
    sym (c.loop-slot.invariant ∙ rw (drop-next c.args.devices.now c.loop-slot.slot c.index-devices-slot.result (omega arith) c.index-devices-slot.is)
    (found-other (device_capabilities c.loop-slot.slot c.index-devices-slot.result) _ c.loop-slot.at (sym (c.spot_in.ensures c.loop-slot.slot) ∙ c.in-Other.is)))

pub loop-slot-preserved : goal.loop-slot-preserved
loop-slot-preserved c =
    c.loop-slot.invariant ∙ rw (drop-next c.args.devices.now c.loop-slot.slot c.index-devices-slot.result (omega arith) c.index-devices-slot.is)
    (found-after (device_capabilities c.loop-slot.slot c.index-devices-slot.result) _ c.loop-slot.at c.in-After.past (sym (c.spot_in.ensures c.loop-slot.slot) ∙ c.in-After.is))
