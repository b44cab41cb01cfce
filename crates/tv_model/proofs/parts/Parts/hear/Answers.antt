use Rattle.std.specs.Prelude.{⊤}
use Rattle.std.proofs.Common.{rules, ◌≡◌}
use Rattle.tv_journal.specs.declared.Entry.TheVariants as entry
use Rattle.tv_spec.specs.Devices.{CanHear, with_heard}
use Rattle.tv_spec.specs.State.{DeviceRun}
use Rattle.tv_model.specs.Parts.{seen}
use Rattle.tv_model.proofs.Steps.{no_step, step_heard}
use Rattle.tv_model.proofs.parts.Parts.hear.Goals as goal

pub returns-in_err-hear : goal.returns-in_err-hear
returns-in_err-hear g c =
    no_step {A = ⊤} (seen c.args.self.now) c.in_ok-number.number c.args.dev c.index_mut.result.now c.hear.new.self (entry.Did c.args.dev c.args.heard.now) (λ (v : DeviceRun). CanHear v c.args.heard.now) (λ _. c.hear.new.self.run ≡ with_heard c.index_mut.result.now.run c.args.heard.now) c.in_err-hear.field-0.0 c.from_residual-in_err-hear.result
    c.in_ok-number.ensures.ok.0 c.in_ok-number.ensures.ok.1 (c.index_mut.ensures.value) (search rules) c.in_err-hear.ensures.run (λ can. can.1)

pub returns : goal.returns
returns g c =
    step_heard (seen c.args.self.now) c.in_ok-number.number c.args.dev c.args.heard.now c.index_mut.result.now c.hear.new.self c.lose.new.guest c.in_ok-number.ensures.ok.0 c.in_ok-number.ensures.ok.1
    c.index_mut.ensures.value c.in_ok-hear.ensures.run c.lose.ensures
