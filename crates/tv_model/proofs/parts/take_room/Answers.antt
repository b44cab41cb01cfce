use Rattle.std.proofs.Common.{rules, ◌∙◌, ap, length-set}
use Rattle.std.proofs.lemmas.List.{get_or_default}
use Rattle.tv_model.specs.MonitorState.{SlotState, no_slot}
use Rattle.tv_model.proofs.Rooms.{room_more, runs_same}
use Rattle.tv_model.proofs.parts.take_room.Goals as goal

pub returns-in-Err-clause-runs : goal.returns-in-Err-clause-runs
returns-in-Err-clause-runs g c =
    runs_same c.loop-i.slots.items c.loop-i.i c.take_room.new.self c.index_mut.result.now (c.take_room.ensures.run ∙ ap (λ (s : SlotState). s.run) c.index_mut.ensures.value) ∙ c.loop-i.invariant.runs

pub loop-i-preserved : goal.loop-i-preserved
loop-i-preserved g c = record {
  count = length-set c.loop-i.slots.items c.loop-i.i c.take_room.new.self ∙ c.loop-i.invariant.count;
  runs = runs_same c.loop-i.slots.items c.loop-i.i c.take_room.new.self c.index_mut.result.now (c.take_room.ensures.run ∙ ap (λ (s : SlotState). s.run) c.index_mut.ensures.value) ∙ c.loop-i.invariant.runs;
  room = room_more c.loop-i.slots.items c.loop-i.i c.take_room.new.self (search rules) c.loop-i.invariant.room c.in-Ok.ensures.spare;
}

pub returns-clause-room : goal.returns-clause-room
returns-clause-room g c = λ k d below.
    ap (λ (s : SlotState). s.spare) (get_or_default c.loop-i.slots.items k d no_slot below) ∙ c.loop-i.invariant.room k (search rules)
