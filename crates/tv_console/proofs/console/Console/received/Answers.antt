use Rattle.std.proofs.Common.{rules, ◌++◌, refl, subst, sym, take, length}
use Rattle.tv_script.specs.Scripts.{Script, AwaitsAll}
use Rattle.tv_script.specs.Services.{End, TurnedSo}
use Rattle.tv_script.proofs.Scripts.{reached_here}
use Rattle.tv_plan.specs.Console.{ConsoleState, console_hand}
use Rattle.tv_serving.specs.Steps.{took_of}
use Rattle.tv_console.specs.Parts.{state_of, kept_of}
use Rattle.tv_console.proofs.States.{received_none, received_some}
use Rattle.tv_console.proofs.console.Console.received.Goals as goal

pub returns-then-is_empty-clause-turned : goal.returns-then-is_empty-clause-turned
returns-then-is_empty-clause-turned g c =
    rw (
      c.end_input.ensures.idle,
      c.end_input.ensures.state,
      received_none (kept_of c.args.self.now) (state_of c.args.self.now) c.args.queue.now (took_of c.args.self.now.ring c.args.head) c.args.bytes.now (rw (← c.as_slice-bytes.ensures.bytes) (search rules)),
    )
    (reached_here _ _ _ (g.met.P.Port.stays _))

pub hand-requires-clause-awaits : goal.hand-requires-clause-awaits
hand-requires-clause-awaits g c =
    let handed =
    subst (λ (s : Script (End ConsoleState) ConsoleState). AwaitsAll (g.P.Port.awaits c.args.port.now) s)
    (received_some (kept_of c.args.self.now) (state_of c.args.self.now) c.args.queue.now (took_of c.args.self.now.ring c.args.head) c.args.bytes.now (c.args.self.now.ring.answered ++ c.as_slice-bytes.result.now)
    (length c.as_slice-bytes.result.now) (rw (← c.as_slice-bytes.ensures.bytes) (search rules)) (rw (c.requires.none, c.as_slice-bytes.ensures.bytes) refl) (rw c.as_slice-bytes.ensures.bytes refl))
    c.requires.awaits in
    rw c.answer.ensures (let r = rw (← c.self.view_is) at handed in r)

pub returns-clause-turned : goal.returns-clause-turned
returns-clause-turned g c =
    let handed : TurnedSo g.P.Port.moved g.P.Port.over g.P.Port.stopped c.args.port.now (console_hand (state_of c.args.self.now) c.args.queue.now (took_of c.args.self.now.ring c.args.head) (take (length c.as_slice-bytes.result.now) (c.args.self.now.ring.answered ++ c.as_slice-bytes.result.now))) c.hand.new.port (state_of c.hand.new.device) c.hand.result =
    rw (← c.self.view_is) (let r = rw c.answer.ensures at c.hand.ensures.turned in r) in
    subst (λ (s : Script (End ConsoleState) ConsoleState). TurnedSo g.P.Port.moved g.P.Port.over g.P.Port.stopped c.args.port.now s c.hand.new.port (state_of c.hand.new.device) c.hand.result)
    (sym (received_some (kept_of c.args.self.now) (state_of c.args.self.now) c.args.queue.now (took_of c.args.self.now.ring c.args.head) c.args.bytes.now (c.args.self.now.ring.answered ++ c.as_slice-bytes.result.now)
    (length c.as_slice-bytes.result.now) (rw (← c.as_slice-bytes.ensures.bytes) (search rules)) (rw (c.requires.none, c.as_slice-bytes.ensures.bytes) refl) (rw c.as_slice-bytes.ensures.bytes refl)))
    handed
