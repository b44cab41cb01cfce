use Rattle.std.proofs.Common.{arith, refl, ◌∙◌}
use Rattle.tv_journal.specs.Entries.{record_count}
use Rattle.tv_plan.specs.Devices.{DeviceState}
use Rattle.tv_spec.specs.Room.{owed}
use Rattle.tv_core.specs.Calls.{why_of}
use Rattle.tv_core.specs.Seen.{state_of}
use Rattle.tv_runner.proofs.DeviceLoops.{going_now, has_slot, rest_slot, served_all, served_first, served_more, served_over, slot_below, slot_end, within_room}
use Rattle.tv_runner.proofs.LineAsks.{none_there, some_there}
use Rattle.tv_runner.proofs.engine.Engine.serve.Goals as goal

pub loop-slot-init : goal.loop-slot-init
loop-slot-init c = record { served = served_first c.args.self.now.line.core c.args.self.now.devices.items c.requires.going c.requires.rest; harts = refl }

pub turn-requires-clause-device : goal.turn-requires-clause-device
turn-requires-clause-device c =
    has_slot c.args.self.now.line.core c.loop-slot.self.line.core c.loop-slot.self.devices.items c.loop-slot.slot c.in-Some.at c.loop-slot.invariant.served c.in-Some.ensures.1
    (slot_below c.args.self.now.line.core c.loop-slot.self.line.core c.args.self.now.devices.items c.loop-slot.self.devices.items c.loop-slot.slot c.len-slot-end.result c.requires.rest c.loop-slot.invariant.served (c.len-slot-end.ensures ∙ c.args.self.now.devices.ok.0) c.loop-slot-test.true)

pub turn-requires-clause-going : goal.turn-requires-clause-going
turn-requires-clause-going c = going_now c.args.self.now.line.core c.loop-slot.self.line.core c.loop-slot.self.devices.items c.loop-slot.slot c.loop-slot.invariant.served

pub turn-requires-clause-rest : goal.turn-requires-clause-rest
turn-requires-clause-rest c =
    rest_slot c.args.self.now.line.core c.loop-slot.self.line.core c.loop-slot.self.devices.items c.loop-slot.slot c.in-Some.at c.index_mut.result.now c.loop-slot.invariant.served c.in-Some.ensures.1
    (slot_below c.args.self.now.line.core c.loop-slot.self.line.core c.args.self.now.devices.items c.loop-slot.self.devices.items c.loop-slot.slot c.len-slot-end.result c.requires.rest c.loop-slot.invariant.served (c.len-slot-end.ensures ∙ c.args.self.now.devices.ok.0) c.loop-slot-test.true) c.index_mut.ensures.value

pub returns-then-is_some-clause-part : goal.returns-then-is_some-clause-part
returns-then-is_some-clause-part c =
    served_over c.args.self.now.line.core c.loop-slot.self.line.core c.turn.new.self.core c.loop-slot.self.devices.items c.loop-slot.slot c.in-Some.at (DeviceState.Probe c.turn.new.device)
    c.loop-slot.invariant.served c.in-Some.ensures.1
    (slot_below c.args.self.now.line.core c.loop-slot.self.line.core c.args.self.now.devices.items c.loop-slot.self.devices.items c.loop-slot.slot c.len-slot-end.result c.requires.rest c.loop-slot.invariant.served (c.len-slot-end.ensures ∙ c.args.self.now.devices.ok.0) c.loop-slot-test.true)
    (within_room (record_count c.turn.new.self.core.entries) (owed (state_of c.turn.new.self.core)) c.turn.new.self.core.machine.journal_entries c.is_legal.ensures.room) c.turn.ensures.turned
    (some_there (why_of c.turn.new.self.core) c.why.result c.is_some.result c.why.ensures c.is_some.ensures c.if-is_some.true)

pub returns-then-is_some-clause-harts : goal.returns-then-is_some-clause-harts
returns-then-is_some-clause-harts c = c.loop-slot.invariant.harts

pub loop-slot-preserved : goal.loop-slot-preserved
loop-slot-preserved c = record {
  served = served_more c.args.self.now.line.core c.loop-slot.self.line.core c.turn.new.self.core c.loop-slot.self.devices.items _ c.loop-slot.slot _ c.in-Some.at c.turn.new.device
      c.loop-slot.invariant.served c.in-Some.ensures.1
      (omega arith) (slot_below c.args.self.now.line.core c.loop-slot.self.line.core c.args.self.now.devices.items c.loop-slot.self.devices.items c.loop-slot.slot c.len-slot-end.result c.requires.rest c.loop-slot.invariant.served (c.len-slot-end.ensures ∙ c.args.self.now.devices.ok.0) c.loop-slot-test.true)
      (within_room (record_count c.turn.new.self.core.entries) (owed (state_of c.turn.new.self.core)) c.turn.new.self.core.machine.journal_entries c.is_legal.ensures.room) c.turn.ensures.turned refl
      (none_there (why_of c.turn.new.self.core) c.why.result c.is_some.result c.why.ensures c.is_some.ensures c.if-is_some.false);
  harts = c.loop-slot.invariant.harts;
}

pub returns-clause-part : goal.returns-clause-part
returns-clause-part c = (served_all c.args.self.now.line.core c.loop-slot.self.line.core c.loop-slot.self.devices.items c.loop-slot.slot c.loop-slot.invariant.served (slot_end c.args.self.now.line.core c.loop-slot.self.line.core c.args.self.now.devices.items c.loop-slot.self.devices.items c.loop-slot.slot c.len-slot-end.result c.requires.rest c.loop-slot.invariant.served (c.len-slot-end.ensures ∙ c.args.self.now.devices.ok.0) c.loop-slot.auto.slot-end c.loop-slot-test.false)).0

pub returns-clause-next : goal.returns-clause-next
returns-clause-next c = λ none. (served_all c.args.self.now.line.core c.loop-slot.self.line.core c.loop-slot.self.devices.items c.loop-slot.slot c.loop-slot.invariant.served (slot_end c.args.self.now.line.core c.loop-slot.self.line.core c.args.self.now.devices.items c.loop-slot.self.devices.items c.loop-slot.slot c.len-slot-end.result c.requires.rest c.loop-slot.invariant.served (c.len-slot-end.ensures ∙ c.args.self.now.devices.ok.0) c.loop-slot.auto.slot-end c.loop-slot-test.false)).1

pub returns-clause-harts : goal.returns-clause-harts
returns-clause-harts c = c.loop-slot.invariant.harts
