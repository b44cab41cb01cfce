use Rattle.std.proofs.Common.{◌≡◌}
use Rattle.tv_model.proofs.Played.{IsPlayed}
use Rattle.tv_model.proofs.replays.replay.Given as goal

-- the records so far were made, and the outer end if it isn't still to come
abbrev pub invariant-loop-record : goal.invariant-loop-record
invariant-loop-record g l = record {
  played : IsPlayed l.machine l.image l.journal.entries l.journal.outer l.monitor l.record l.outer;
  cursor : l.cursor ≡ l.record;
}
