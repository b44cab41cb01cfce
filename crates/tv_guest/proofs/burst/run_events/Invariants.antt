use Rattle.std.proofs.Common.{◌-◌, ◌≤◌}
use Rattle.tv_guest.proofs.Bursts.{IsAlong}
use Rattle.tv_guest.proofs.burst.run_events.Given as goal

-- the events so far
abbrev pub invariant-loop-made : goal.invariant-loop-made
invariant-loop-made l = IsAlong l.number l.fn.hart l.hart l.fn.local l.local l.most l.made × (l.made ≤ l.most)

abbrev pub decreases-loop-made : goal.decreases-loop-made
decreases-loop-made l = l.most - l.made
