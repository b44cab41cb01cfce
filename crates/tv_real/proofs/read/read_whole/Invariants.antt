use Rattle.std.proofs.Common.{◌≤◌, length}
use Rattle.tv_real.proofs.read.read_whole.Given as goal

abbrev pub invariant-loop : goal.invariant-loop
invariant-loop g l = l.filled ≤ length l.out
