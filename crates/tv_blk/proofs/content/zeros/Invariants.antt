use Rattle.std.proofs.Common.{◌≡◌, ◌*◌, ◌++◌, replicate}
use Rattle.tv_blk.proofs.content.zeros.Given as goal
use Rattle.tv_vring.specs.Rings.{with_answered}

abbrev pub invariant-loop : goal.invariant-loop
invariant-loop l = l.ring ≡ with_answered l.fn.ring (l.fn.ring.answered ++ replicate (l.counter * 512) 0)
