use Rattle.std.proofs.Common.{◌≡◌, drop}
use Rattle.tv_bus.specs.Ranges.{range_at}
use Rattle.tv_bus.proofs.ranges.find_range.Given as goal

-- what is found lies in a range that is yet to come
abbrev pub invariant-loop-range : goal.invariant-loop-range
invariant-loop-range l = range_at l.ranges l.addr l.n ≡ range_at (drop l.range-index l.ranges) l.addr l.n
