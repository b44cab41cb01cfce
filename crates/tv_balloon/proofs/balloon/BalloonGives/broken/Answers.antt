use Rattle.std.proofs.Common.{◌≡◌, Some, subst}
use Rattle.tv_script.specs.Scripts.{Script, AwaitsAll}
use Rattle.tv_script.specs.Services.{End}
use Rattle.tv_script.proofs.Scripts.{awaits_told}
use Rattle.tv_plan.specs.Balloon.{BalloonState}
use Rattle.tv_balloon.specs.Parts.{state_of}
use Rattle.tv_balloon.proofs.States.{broken_some}
use Rattle.tv_balloon.proofs.balloon.BalloonGives.broken.Goals as goal

pub break_off-requires : goal.break_off-requires
break_off-requires g c =
    let due : c.args.self.now.waiting ≡ Some c.in-Some.tag = rw (← c.self.view_is) c.in-Some.is in
    record {
      awaits = awaits_told _ g.P.Port.awaits _ _ _ _ _ g.met.P.Port.goes_on
          (subst (λ (s : Script (End BalloonState) BalloonState). AwaitsAll (g.P.Port.awaits c.args.port.now) s) (broken_some (state_of c.args.self.now) c.in-Some.tag due) c.requires.awaits)
          c.tell.ensures.moved c.plain_verdict.ensures;
    }
