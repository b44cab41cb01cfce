use Rattle.std.proofs.Common.{◌≤◌, ◌-◌}
use Rattle.tv_guest.proofs.Rows.{IsUncounted}
use Rattle.tv_guest.proofs.burst.run_row.Given as goal

-- the events so far
abbrev pub invariant-loop-made : goal.invariant-loop-made
invariant-loop-made l = IsUncounted l.lines l.fn.hart l.fn.local l.made l.hart l.local × (l.made ≤ l.most)

abbrev pub decreases-loop-made : goal.decreases-loop-made
decreases-loop-made l = l.most - l.made
