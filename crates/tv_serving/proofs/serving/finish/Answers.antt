use Rattle.std.proofs.Common.{rules, Bool, subst, sym}
use Rattle.tv_items.specs.declared.action.Action.TheVariants as action
use Rattle.tv_plan.specs.Serving.{interrupted}
use Rattle.tv_script.proofs.Scripts.{awaits_reply}
use Rattle.tv_script.proofs.Turns.{turned_reply}
use Rattle.tv_script.specs.Scripts.{AwaitsAll, Over}
use Rattle.tv_script.specs.Services.{TurnedSo}
use Rattle.tv_serving.specs.Steps.{finish}
use Rattle.tv_serving.proofs.serving.finish.Goals as goal

pub refused-requires : goal.refused-requires
refused-requires g c =
    record {
      awaits = awaits_reply _ g.P.Port.awaits _ _ _ _ _ _ g.met.P.Port.goes_on
          (subst (λ (w : Bool). AwaitsAll (g.P.Port.awaits c.args.port.now) (finish g.D.Queued.steps (g.D.Queued.state c.args.device.now) w)) c.if-wanted.true c.requires.awaits) c.in-Ok.ensures.moved (search rules);
    }

pub returns-in-Ok : goal.returns-in-Ok
returns-in-Ok g c =
    record {
      turned = subst (λ (w : Bool). TurnedSo g.P.Port.moved g.P.Port.over g.P.Port.stopped c.args.port.now (finish g.D.Queued.steps (g.D.Queued.state c.args.device.now) w) c.refused.new.port (g.D.Queued.state c.refused.new.self) c.refused.result)
          (sym c.if-wanted.true)
          (turned_reply g.P.Port.moved g.P.Port.over g.P.Port.stopped _ _ _ action.Raise (interrupted (Over (g.D.Queued.steps.told (g.D.Queued.state c.args.device.now))) (g.D.Queued.steps.refused (g.D.Queued.steps.told (g.D.Queued.state c.args.device.now)))) c.in-Ok.field-0
          (g.D.Queued.steps.refused (g.D.Queued.state c.use_buffer.new.self)) (g.D.Queued.state c.refused.new.self) c.refused.result g.met.P.Port.joins c.in-Ok.ensures.moved (search rules) c.refused.ensures.turned);
      left = search rules;
    }
