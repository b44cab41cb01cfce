use Rattle.std.proofs.Common.{ℕ, rules, ◌<◌, length}
use Rattle.tv_journal.specs.declared.Entry.TheVariants as entry
use Rattle.tv_spec.specs.declared.Maker.{Maker}
use Rattle.tv_spec.specs.State.{DeviceRun}
use Rattle.tv_model.specs.Parts.{seen}
use Rattle.tv_model.specs.Slots.{IsAnswered}
use Rattle.tv_model.proofs.Steps.{no_step, step_replied}
use Rattle.tv_model.proofs.parts.Parts.reply.Goals as goal

pub returns-in_err-tag : goal.returns-in_err-tag
returns-in_err-tag g c =
    no_step {A = ℕ × Maker} (seen c.args.self.now) c.in_ok-number.number c.args.dev c.index_mut.result.now c.reply.new.self (entry.Reply c.args.dev) (λ (v : DeviceRun). 0 < length v.due) (λ w. IsAnswered c.index_mut.result.now.run c.reply.new.self.run w.0 w.1) c.in_err-tag.field-0.0 c.from_residual-in_err-tag.result
    c.in_ok-number.ensures.ok.0 c.in_ok-number.ensures.ok.1 (c.index_mut.ensures.value) (search rules) c.in_err-tag.ensures.run (λ can. can.1)

pub returns : goal.returns
returns g c =
    rw c.note.ensures.noted
    (step_replied (seen c.args.self.now) c.in_ok-number.number c.args.dev c.in_ok-tag.tag c.in_ok-tag.maker c.index_mut.result.now c.reply.new.self c.in_ok-number.ensures.ok.0 c.in_ok-number.ensures.ok.1
    c.requires.monitor c.note.ensures.lanes c.index_mut.ensures.value c.in_ok-tag.ensures.run.1)
