use Rattle.tv_script.proofs.Scripts.{awaits_value}
use Rattle.tv_script.proofs.Turns.{turned_value}
use Rattle.tv_script.specs.Scripts.{AwaitsAll}
use Rattle.tv_script.specs.Services.{TurnedSo}
use Rattle.tv_plan.specs.Entropy.{answer}
use Rattle.tv_serving.specs.Steps.{took_of}
use Rattle.tv_small.specs.Parts.{state_of}
use Rattle.tv_small.proofs.States.{seen, filled_hand}
use Rattle.tv_small.proofs.entropy.EntropyDeviceAnswers.answer.Goals as goal

pub hand-requires-clause-awaits : goal.hand-requires-clause-awaits
hand-requires-clause-awaits g c =
    let all : AwaitsAll (g.P.Port.awaits c.args.port.now) (answer (state_of c.args.self.now) c.args.queue.now (took_of c.args.self.now.ring c.args.taken.head) c.args.taken.writable) = c.requires.awaits in
    awaits_value _ g.P.Port.awaits _ _ _ _ _ _ _ g.met.P.Port.goes_on (let r = rw (← c.self.view_is) at all in r) c.in-Ok.ensures.ran
    (filled_hand (seen c.self.inside) c.args.queue.now c.fill.new.ring c.args.taken.head c.args.taken.writable c.in-Ok.ensures.ring c.in-Ok.ensures.len)

pub returns-in-Ok-clause-turned : goal.returns-in-Ok-clause-turned
returns-in-Ok-clause-turned g c =
    let turned : TurnedSo g.P.Port.moved g.P.Port.over g.P.Port.stopped c.args.port.now (answer (state_of c.args.self.now) c.args.queue.now (took_of c.args.self.now.ring c.args.taken.head) c.args.taken.writable) c.hand.new.port (state_of c.hand.new.device) c.hand.result =
    rw (← c.self.view_is)
    (turned_value g.P.Port.moved g.P.Port.over g.P.Port.stopped _ _ _ _ _ _ _ _ _ _ g.met.P.Port.joins c.in-Ok.ensures.ran
    (filled_hand (seen c.self.inside) c.args.queue.now c.fill.new.ring c.args.taken.head c.args.taken.writable c.in-Ok.ensures.ring c.in-Ok.ensures.len) c.hand.ensures.turned) in
    turned
