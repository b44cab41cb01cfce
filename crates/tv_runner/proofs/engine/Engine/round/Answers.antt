use Rattle.std.proofs.Common.{ℕ, subst}
use Rattle.tv_core.specs.Calls.{TickedSo, why_of}
use Rattle.tv_runner.proofs.LineAsks.{none_there, some_there}
use Rattle.tv_runner.proofs.RoundParts.{at_tick, devices_bytes, over_devices, over_turns, round_bytes, round_done, round_made, valid_on}
use Rattle.tv_runner.proofs.engine.Engine.round.Goals as goal

pub returns-then-is_some-clause-part : goal.returns-then-is_some-clause-part
returns-then-is_some-clause-part c =
    over_turns c.args.self.now.line.core c.turns.new.self.line.core c.requires.ready.going c.turns.ensures.part
    (some_there (why_of c.turns.new.self.line.core) c.why.result c.is_some.result c.why.ensures c.is_some.ensures c.if-is_some.true)

pub serve-requires-clause-valid : goal.serve-requires-clause-valid
serve-requires-clause-valid c = valid_on c.args.self.now.line.core c.turns.new.self.line.core c.turns.ensures.part c.requires.ready.valid

pub serve-requires-clause-going : goal.serve-requires-clause-going
serve-requires-clause-going c =
    (c.turns.ensures.next (none_there (why_of c.turns.new.self.line.core) c.why.result c.is_some.result c.why.ensures c.is_some.ensures c.if-is_some.false)).going

pub serve-requires-clause-rest : goal.serve-requires-clause-rest
serve-requires-clause-rest c =
    (c.turns.ensures.next (none_there (why_of c.turns.new.self.line.core) c.why.result c.is_some.result c.why.ensures c.is_some.ensures c.if-is_some.false)).rest

pub returns-then-is_some-2-clause-part : goal.returns-then-is_some-2-clause-part
returns-then-is_some-2-clause-part c =
    over_devices c.args.self.now.line.core c.turns.new.self.line.core c.serve.new.self.line.core c.requires.ready.going c.turns.ensures.part
    (none_there (why_of c.turns.new.self.line.core) c.why.result c.is_some.result c.why.ensures c.is_some.ensures c.if-is_some.false) c.serve.ensures.part
    (some_there (why_of c.serve.new.self.line.core) c.why-2.result c.is_some-2.result c.why-2.ensures c.is_some-2.ensures c.if-is_some-2.true)

pub returns-then-is_some-2-clause-bytes : goal.returns-then-is_some-2-clause-bytes
returns-then-is_some-2-clause-bytes c =
    devices_bytes c.args.self.now.line.core c.turns.new.self.line.core c.serve.new.self.line.core c.turns.ensures.part
    (none_there (why_of c.turns.new.self.line.core) c.why.result c.is_some.result c.why.ensures c.is_some.ensures c.if-is_some.false) c.turns.ensures.bytes c.serve.ensures.part

pub returns-clause-part : goal.returns-clause-part
returns-clause-part c =
    let mid_on = none_there (why_of c.turns.new.self.line.core) c.why.result c.is_some.result c.why.ensures c.is_some.ensures c.if-is_some.false in
    let late_on = none_there (why_of c.serve.new.self.line.core) c.why-2.result c.is_some-2.result c.why-2.ensures c.is_some-2.ensures c.if-is_some-2.false in
    round_made c.args.self.now.line.core c.serve.new.self.line.core c.tick-ticked.new.self c.serve.new.self.devices.items c.tick-ticked.result
    (at_tick c.args.self.now.line.core c.turns.new.self.line.core c.serve.new.self.line.core c.turns.new.self.devices.items c.serve.new.self.devices.items c.requires.ready.going
    c.turns.ensures.part c.turns.ensures.bytes mid_on (c.turns.ensures.next mid_on) c.serve.ensures.part late_on (c.serve.ensures.next late_on))
    c.is_legal.ensures.legal c.is_legal.ensures.room
    (subst (λ (n : ℕ). TickedSo c.serve.new.self.line.core c.tick-ticked.new.self n c.tick-ticked.result) c.from.ensures c.tick-ticked.ensures)

pub returns-clause-bytes : goal.returns-clause-bytes
returns-clause-bytes c =
    let mid_on = none_there (why_of c.turns.new.self.line.core) c.why.result c.is_some.result c.why.ensures c.is_some.ensures c.if-is_some.false in
    let late_on = none_there (why_of c.serve.new.self.line.core) c.why-2.result c.is_some-2.result c.why-2.ensures c.is_some-2.ensures c.if-is_some-2.false in
    round_bytes c.args.self.now.line.core c.serve.new.self.line.core c.tick-ticked.new.self c.serve.new.self.devices.items c.tick-ticked.result
    (at_tick c.args.self.now.line.core c.turns.new.self.line.core c.serve.new.self.line.core c.turns.new.self.devices.items c.serve.new.self.devices.items c.requires.ready.going
    c.turns.ensures.part c.turns.ensures.bytes mid_on (c.turns.ensures.next mid_on) c.serve.ensures.part late_on (c.serve.ensures.next late_on))
    c.is_legal.ensures.legal c.is_legal.ensures.room
    (subst (λ (n : ℕ). TickedSo c.serve.new.self.line.core c.tick-ticked.new.self n c.tick-ticked.result) c.from.ensures c.tick-ticked.ensures)

pub returns-clause-next : goal.returns-clause-next
returns-clause-next c = λ none.
    let mid_on = none_there (why_of c.turns.new.self.line.core) c.why.result c.is_some.result c.why.ensures c.is_some.ensures c.if-is_some.false in
    let late_on = none_there (why_of c.serve.new.self.line.core) c.why-2.result c.is_some-2.result c.why-2.ensures c.is_some-2.ensures c.if-is_some-2.false in
    round_done c.args.self.now.line.core c.serve.new.self.line.core c.tick-ticked.new.self c.serve.new.self.devices.items c.tick-ticked.result
    (at_tick c.args.self.now.line.core c.turns.new.self.line.core c.serve.new.self.line.core c.turns.new.self.devices.items c.serve.new.self.devices.items c.requires.ready.going
    c.turns.ensures.part c.turns.ensures.bytes mid_on (c.turns.ensures.next mid_on) c.serve.ensures.part late_on (c.serve.ensures.next late_on))
    c.is_legal.ensures.legal c.is_legal.ensures.room
    (subst (λ (n : ℕ). TickedSo c.serve.new.self.line.core c.tick-ticked.new.self n c.tick-ticked.result) c.from.ensures c.tick-ticked.ensures) none
