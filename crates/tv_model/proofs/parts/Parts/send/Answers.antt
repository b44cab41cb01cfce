use Rattle.std.specs.Prelude.{⊤}
use Rattle.std.proofs.Common.{rules, ◌≡◌}
use Rattle.tv_journal.specs.declared.Entry.TheVariants as entry
use Rattle.tv_spec.specs.Devices.{CanBegin, GoesInside, with_phase}
use Rattle.tv_spec.specs.declared.Phase.{Phase}
use Rattle.tv_spec.specs.State.{DeviceRun}
use Rattle.tv_model.specs.Parts.{seen}
use Rattle.tv_model.proofs.Steps.{has_device, no_step, no_step_there, open_running, step_sent}
use Rattle.tv_model.proofs.parts.Parts.send.Goals as goal

pub returns-in_err-send : goal.returns-in_err-send
returns-in_err-send g c =
    no_step {A = ⊤} (seen c.args.self.now) c.in_ok-number.number c.args.dev c.index_mut.result.now c.send.new.self (entry.Send c.args.dev) (λ (v : DeviceRun). CanBegin v GoesInside) (λ _. c.send.new.self.run ≡ with_phase c.index_mut.result.now.run Phase.Sent) c.in_err-send.field-0.0 c.from_residual-in_err-send.result
    c.in_ok-number.ensures.ok.0 c.in_ok-number.ensures.ok.1 (c.index_mut.ensures.value) (search rules) c.in_err-send.ensures.run (λ can. can.2)

pub returns-in_err-number : goal.returns-in_err-number
returns-in_err-number g c =
    no_step_there (seen c.args.self.now) (entry.Send c.args.dev) c.in_err-number.field-0.0 c.from_residual.result (search rules) c.in_err-number.ensures.fault.0 (λ can. c.in_err-number.ensures.fault.1 (has_device (seen c.args.self.now) c.args.dev can.0) (open_running c.args.self.now.guest.mode can.1))

pub returns : goal.returns
returns g c =
    step_sent (seen c.args.self.now) c.in_ok-number.number c.args.dev c.index_mut.result.now c.send.new.self c.in_ok-number.ensures.ok.0 c.in_ok-number.ensures.ok.1 c.in_ok-number.ensures.ok.2 c.index_mut.ensures.value c.in_ok-send.ensures.run
