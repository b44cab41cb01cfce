use Rattle.std.proofs.Common.{◌≡◌, take}
use Rattle.tv_core.proofs.copies.copy_ranges.Given as goal

-- those so far
abbrev pub invariant-loop-range : goal.invariant-loop-range
invariant-loop-range l = l.copy ≡ take l.range-index l.range-items
