use Rattle.std.proofs.Common.{rules, ◌<◌, length}
use Rattle.tv_journal.specs.declared.Entry.TheVariants as entry
use Rattle.tv_spec.specs.declared.Maker.{Maker}
use Rattle.tv_spec.specs.State.{DeviceRun}
use Rattle.tv_model.specs.Parts.{seen}
use Rattle.tv_model.specs.Slots.{IsLanded}
use Rattle.tv_model.proofs.Steps.{no_step, step_delivered}
use Rattle.tv_model.proofs.parts.Parts.deliver.Goals as goal

pub returns-in_err-maker : goal.returns-in_err-maker
returns-in_err-maker g c =
    no_step {A = Maker} (seen c.args.self.now) c.in_ok-number.number c.args.dev c.index_mut.result.now c.deliver.new.self (entry.Deliver c.args.dev) (λ (v : DeviceRun). 0 < length v.replied) (IsLanded c.index_mut.result.now.run c.deliver.new.self.run) c.in_err-maker.field-0.0 c.from_residual-in_err-maker.result
    c.in_ok-number.ensures.ok.0 c.in_ok-number.ensures.ok.1 (c.index_mut.ensures.value) (search rules) c.in_err-maker.ensures.run (λ can. can.1)

pub returns : goal.returns
returns g c =
    rw c.free.ensures.freed
    (step_delivered (seen c.args.self.now) c.in_ok-number.number c.args.dev c.in_ok-maker.maker c.index_mut.result.now c.deliver.new.self c.in_ok-number.ensures.ok.0 c.in_ok-number.ensures.ok.1
    c.requires.monitor c.free.ensures.lanes c.index_mut.ensures.value c.in_ok-maker.ensures.run.1)
