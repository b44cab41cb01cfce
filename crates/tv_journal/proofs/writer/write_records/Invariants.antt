use Rattle.std.proofs.Common.{◌≤◌, take}
use Rattle.std.specs.Prelude.{flat_map}
use Rattle.tv_journal.specs.Stores.{stored_bytes}
use Rattle.tv_journal.specs.Writing.{WritesOn}
use Rattle.tv_journal.proofs.writer.write_records.Given as goal

-- the records so far are written
abbrev pub invariant-loop-more : goal.invariant-loop-more
invariant-loop-more g l = record {
  written : WritesOn (flat_map (stored_bytes l.fn.payload) (take l.more-index l.records)) (g.K.Sink.told l.fn.sink) l.fn.piece.items (g.K.Sink.told l.sink) l.piece.items;
  later : (g.K.Sink.told l.fn.sink).faults ≤ (g.K.Sink.told l.sink).faults;
}
