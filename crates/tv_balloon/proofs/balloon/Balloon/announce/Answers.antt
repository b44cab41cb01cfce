use Rattle.std.proofs.Common.{refl}
use Rattle.tv_script.proofs.Scripts.{awaits_reply}
use Rattle.tv_script.proofs.Turns.{turned_reply}
use Rattle.tv_balloon.proofs.balloon.Balloon.announce.Goals as goal

pub announced-requires : goal.announced-requires
announced-requires g c = record { awaits = awaits_reply _ g.P.Port.awaits _ _ _ _ _ _ g.met.P.Port.goes_on c.requires.awaits c.in-Ok.ensures.moved refl }

pub returns-in-Ok : goal.returns-in-Ok
returns-in-Ok g c =
    record { turned = turned_reply g.P.Port.moved g.P.Port.over g.P.Port.stopped _ _ _ _ _ _ _ _ _ g.met.P.Port.joins c.in-Ok.ensures.moved refl c.announced.ensures.turned }
