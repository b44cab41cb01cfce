use Rattle.std.proofs.Common.{◌≤◌, length}
use Rattle.tv_real.proofs.sink.write_front.Given as goal

abbrev pub invariant-loop : goal.invariant-loop
invariant-loop g l = l.taken ≤ length l.bytes
