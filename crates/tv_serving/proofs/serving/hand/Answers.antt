use Rattle.std.proofs.Common.{ap, sym}
use Rattle.tv_script.proofs.Scripts.{awaits_value}
use Rattle.tv_script.proofs.Turns.{turned_value}
use Rattle.tv_serving.specs.Steps.{finish}
use Rattle.tv_serving.proofs.serving.hand.Goals as goal

pub finish-requires : goal.finish-requires
finish-requires g c =
    record {
      awaits = awaits_value _ g.P.Port.awaits _ _ _ _ _ _ _ g.met.P.Port.goes_on c.requires.awaits c.in-Ok.ensures.ran
          (ap (λ (s : g.D.Queued.State). finish g.D.Queued.steps s c.in-Ok.wanted) (sym c.in-Ok.ensures.gave));
    }

pub returns-in-Ok-clause-turned : goal.returns-in-Ok-clause-turned
returns-in-Ok-clause-turned g c =
    turned_value g.P.Port.moved g.P.Port.over g.P.Port.stopped _ _ _ _ _ _ _ _ _ _ g.met.P.Port.joins c.in-Ok.ensures.ran
    (ap (λ (s : g.D.Queued.State). finish g.D.Queued.steps s c.in-Ok.wanted) (sym c.in-Ok.ensures.gave)) c.finish.ensures.turned
