use Rattle.tv_balloon.proofs.balloon.Balloon.go_on.Goals as goal

pub finish-requires : goal.finish-requires
finish-requires g c = record { awaits = (let r = rw (← c.self.view_is) at c.requires.awaits in r) }
