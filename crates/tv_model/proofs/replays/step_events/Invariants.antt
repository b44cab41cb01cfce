use Rattle.std.proofs.Common.{◌-◌, ◌≤◌}
use Rattle.tv_guest.specs.Burst.{events_of}
use Rattle.tv_model.specs.Moves.{AreMade}
use Rattle.tv_model.proofs.replays.step_events.Given as goal

-- the events that are not left were made
abbrev pub invariant-loop-left : goal.invariant-loop-left
invariant-loop-left g l = record {
  few : l.left ≤ l.count;
  made : AreMade l.fn.monitor l.monitor (events_of l.hart (l.count - l.left));
}

abbrev pub decreases-loop-left : goal.decreases-loop-left
decreases-loop-left g l = l.left
