use Rattle.std.proofs.Common.{◌≡◌, true, subst}
use Rattle.tv_script.specs.Scripts.{Script, AwaitsAll}
use Rattle.tv_script.specs.Services.{End}
use Rattle.tv_plan.specs.Balloon.{BalloonState}
use Rattle.tv_balloon.specs.Parts.{state_of}
use Rattle.tv_balloon.proofs.States.{begins_interrupting}
use Rattle.tv_balloon.proofs.balloon.BalloonRounds.begin.Goals as goal

pub announce-requires : goal.announce-requires
announce-requires g c =
    let due : c.args.self.now.interrupting ≡ true = rw (← c.self.view_is) c.if-self.true in
    record {
      awaits = subst (λ (s : Script (End BalloonState) BalloonState). AwaitsAll (g.P.Port.awaits c.args.port.now) s) (begins_interrupting (state_of c.args.self.now) due) c.requires.awaits;
    }
