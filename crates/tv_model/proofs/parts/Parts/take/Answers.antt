use Rattle.std.proofs.Common.{ℕ, Option, rules}
use Rattle.tv_journal.specs.declared.Entry.TheVariants as entry
use Rattle.tv_spec.specs.Devices.{CanTake}
use Rattle.tv_model.specs.Parts.{seen}
use Rattle.tv_model.specs.Slots.{IsTaken}
use Rattle.tv_model.proofs.Steps.{no_step, step_taken}
use Rattle.tv_model.proofs.parts.Parts.take.Goals as goal

pub returns-in_err-reached : goal.returns-in_err-reached
returns-in_err-reached g c =
    no_step {A = Option (ℕ × ℕ)} (seen c.args.self.now) c.in_ok-number.number c.args.dev c.index_mut.result.now c.take.new.self (entry.Take c.args.dev) CanTake (IsTaken c.index_mut.result.now.run c.take.new.self.run) c.in_err-reached.field-0.0 c.from_residual-in_err-reached.result
    c.in_ok-number.ensures.ok.0 c.in_ok-number.ensures.ok.1 (c.index_mut.ensures.value) (search rules) c.in_err-reached.ensures.run (λ can. can.2)

pub returns : goal.returns
returns g c =
    step_taken (seen c.args.self.now) c.in_ok-number.number c.args.dev c.index_mut.result.now c.take.new.self c.finish.new.guest c.in_ok-reached.reached c.in_ok-number.ensures.ok.0 c.in_ok-number.ensures.ok.1
    c.requires.monitor c.in_ok-number.ensures.ok.2 c.index_mut.ensures.value c.in_ok-reached.ensures.run c.finish.ensures
