use Rattle.std.specs.Prelude.{⊤}
use Rattle.std.proofs.Common.{rules, ◌≡◌}
use Rattle.tv_journal.specs.declared.Entry.TheVariants as entry
use Rattle.tv_spec.specs.Devices.{IsServed, with_got}
use Rattle.tv_spec.specs.State.{DeviceRun}
use Rattle.tv_model.specs.Parts.{seen}
use Rattle.tv_model.proofs.Steps.{no_step, step_got}
use Rattle.tv_model.proofs.parts.Parts.get.Goals as goal

pub returns-in_err-get : goal.returns-in_err-get
returns-in_err-get g c =
    no_step {A = ⊤} (seen c.args.self.now) c.in_ok-number.number c.args.dev c.index_mut.result.now c.get.new.self (entry.Got c.args.dev) (λ (v : DeviceRun). IsServed v.phase) (λ _. c.get.new.self.run ≡ with_got c.index_mut.result.now.run) c.in_err-get.field-0.0 c.from_residual-in_err-get.result
    c.in_ok-number.ensures.ok.0 c.in_ok-number.ensures.ok.1 (c.index_mut.ensures.value) (search rules) c.in_err-get.ensures.run (λ can. can.1)

pub returns : goal.returns
returns g c =
    step_got (seen c.args.self.now) c.in_ok-number.number c.args.dev c.index_mut.result.now c.get.new.self c.in_ok-number.ensures.ok.0 c.in_ok-number.ensures.ok.1 c.index_mut.ensures.value c.in_ok-get.ensures.run
