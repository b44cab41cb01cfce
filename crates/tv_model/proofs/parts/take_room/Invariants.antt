use Rattle.std.proofs.Common.{◌≡◌, length, map}
use Rattle.tv_model.specs.Parts.{run_of}
use Rattle.tv_model.proofs.Rooms.{HaveRoom}
use Rattle.tv_model.proofs.parts.take_room.Given as goal

abbrev pub invariant-loop-i : goal.invariant-loop-i
invariant-loop-i g l = record {
  count : length l.slots.items ≡ length l.fn.slots.items;
  runs : map run_of l.slots.items ≡ map run_of l.fn.slots.items;
  room : HaveRoom l.slots.items l.i;
}
