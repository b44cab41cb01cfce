use Rattle.std.proofs.Common.{rules, refl}
use Rattle.tv_blk.proofs.block.Block.resize.Goals as goal
use Rattle.tv_blk.specs.Parts.{state_of}
use Rattle.tv_items.specs.declared.action.Action.TheVariants as action
use Rattle.tv_items.specs.declared.action.Heard.TheVariants as heard
use Rattle.tv_plan.specs.Block.{resized}
use Rattle.tv_script.proofs.Scripts.{awaits_reply}
use Rattle.tv_script.proofs.Turns.{turned_reply}

pub resized-requires-clause-awaits : goal.resized-requires-clause-awaits
resized-requires-clause-awaits g c =
    awaits_reply _ g.P.Port.awaits _ _ (action.SetLen c.args.resize.sectors) (resized (state_of c.args.self.now) c.args.resize.tag c.args.resize.sectors) heard.Done _ g.met.P.Port.goes_on c.requires.awaits
    (rw c.in-Ok-Done.field-0-is at c.in-Ok-Done.ensures.moved) refl

pub not_resized-requires : goal.not_resized-requires
not_resized-requires g c =
    record {
      awaits = awaits_reply _ g.P.Port.awaits _ _ (action.SetLen c.args.resize.sectors) (resized (state_of c.args.self.now) c.args.resize.tag c.args.resize.sectors) c.in-Ok.field-0 _ g.met.P.Port.goes_on c.requires.awaits
          c.in-Ok.ensures.moved (search rules);
    }

pub returns-in-Ok-Done : goal.returns-in-Ok-Done
returns-in-Ok-Done g c =
    record {
      turned = turned_reply g.P.Port.moved g.P.Port.over g.P.Port.stopped _ _ _ (action.SetLen c.args.resize.sectors) (resized (state_of c.args.self.now) c.args.resize.tag c.args.resize.sectors) heard.Done
          (resized (state_of c.args.self.now) c.args.resize.tag c.args.resize.sectors heard.Done) (state_of c.resized.new.self) c.resized.result g.met.P.Port.joins
          (rw c.in-Ok-Done.field-0-is at c.in-Ok-Done.ensures.moved) refl c.resized.ensures.turned;
    }

pub returns-in-Ok : goal.returns-in-Ok
returns-in-Ok g c =
    record {
      turned = turned_reply g.P.Port.moved g.P.Port.over g.P.Port.stopped _ _ _ (action.SetLen c.args.resize.sectors) (resized (state_of c.args.self.now) c.args.resize.tag c.args.resize.sectors) c.in-Ok.field-0
          (resized (state_of c.args.self.now) c.args.resize.tag 0 heard.Failed) (state_of c.not_resized.new.self) c.not_resized.result g.met.P.Port.joins
          c.in-Ok.ensures.moved (search rules) c.not_resized.ensures.turned;
    }
