use Rattle.tv_script.proofs.Scripts.{awaits_value}
use Rattle.tv_script.proofs.Turns.{turned_value}
use Rattle.tv_balloon.proofs.States.{seen, gave_back}
use Rattle.tv_balloon.proofs.balloon.Balloon.give_held.Goals as goal

pub go_on-requires : goal.go_on-requires
go_on-requires g c =
    record {
      awaits = awaits_value _ g.P.Port.awaits _ _ _ _ _ _ _ g.met.P.Port.goes_on (let r = rw (← c.self.view_is) at c.requires.awaits in r) c.in-Ok.ensures.ran
          (gave_back (seen c.self.inside) c.args.queue.now c.give_nothing.new.ring c.in-Ok.wanted c.in-Ok.ensures.ring);
    }

pub returns-in-Ok : goal.returns-in-Ok
returns-in-Ok g c =
    record {
      turned = rw (← c.self.view_is)
          (turned_value g.P.Port.moved g.P.Port.over g.P.Port.stopped _ _ _ _ _ _ _ _ _ _ g.met.P.Port.joins c.in-Ok.ensures.ran
          (gave_back (seen c.self.inside) c.args.queue.now c.give_nothing.new.ring c.in-Ok.wanted c.in-Ok.ensures.ring) c.go_on.ensures.turned);
    }
