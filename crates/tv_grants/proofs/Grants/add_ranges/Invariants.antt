use Rattle.std.proofs.Common.{◌≡◌, ◌≤◌, ◌+◌, drop, length}
use Rattle.tv_grants.specs.Machines.{with_ranges}
use Rattle.tv_grants.proofs.Grants.add_ranges.Given as goal

-- with the ranges that are yet to come, the grants become what they have to be
abbrev pub invariant-loop-range : goal.invariant-loop-range
invariant-loop-range l = record {
  state : with_ranges l.dev l.ranges l.fn.self ≡ with_ranges l.dev (drop l.range-index l.ranges) l.self;
  room : length l.self.ranges ≤ length l.fn.self.ranges + l.range-index;
  numbers : l.self.taken ≤ l.fn.self.taken + l.range-index;
  sources : l.self.sources ≡ l.fn.self.sources;
  pages : l.self.withdrawn ≡ l.fn.self.withdrawn;
}
