use Rattle.std.proofs.Common.{◌-◌, ◌≡◌, ◌<◌, ◌+◌, ℕ, true}
use Rattle.tv_grants.specs.Grants.{may_touch, ranges_of}
use Rattle.tv_grants.proofs.access.are_touched.Given as goal

-- the bytes that are done may be touched
abbrev pub invariant-loop-done : goal.invariant-loop-done
invariant-loop-done l = (i : ℕ) → i < l.done → may_touch (ranges_of l.dev l.grants) l.withdrawn l.right.0 (l.addr + i) ≡ true

abbrev pub decreases-loop-done : goal.decreases-loop-done
decreases-loop-done l = l.len - l.done
