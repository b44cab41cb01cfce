use Rattle.std.proofs.Common.{◌≡◌, map}
use Rattle.std.specs.List.{range_with_len}
use Rattle.tv_plan.specs.Balloon.{stat_at}
use Rattle.tv_balloon.proofs.statistics.statistics.Given as goal

abbrev pub invariant-loop-n : goal.invariant-loop-n
invariant-loop-n l = l.stats ≡ map (stat_at l.bytes) (range_with_len 0 l.n)
