use Rattle.std.proofs.Common.{◌<◌}
use Rattle.tv_intc.proofs.tests.first_fault.Given as goal

abbrev pub invariant-loop-place : goal.invariant-loop-place
invariant-loop-place l = 0 < l.intc.harts
