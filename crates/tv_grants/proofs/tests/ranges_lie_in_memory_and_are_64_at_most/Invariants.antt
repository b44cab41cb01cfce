use Rattle.std.proofs.Common.{◌≡◌, ◌≤◌}
use Rattle.tv_grants.proofs.tests.ranges_lie_in_memory_and_are_64_at_most.Given as goal

-- a range that is refused takes no number, and each other takes one
abbrev pub invariant-loop-base : goal.invariant-loop-base
invariant-loop-base g l = l.grants.taken ≡ 0

abbrev pub invariant-loop-number : goal.invariant-loop-number
invariant-loop-number g l = l.grants.taken ≤ l.number-counter
