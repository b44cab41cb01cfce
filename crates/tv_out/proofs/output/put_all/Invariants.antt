use Rattle.std.proofs.Common.{length}
use Rattle.tv_out.proofs.Pieces.{IsPutUpTo}
use Rattle.tv_out.proofs.output.put_all.Given as goal

-- what is not in the rest went out
abbrev pub invariant-loop-rest : goal.invariant-loop-rest
invariant-loop-rest g l = IsPutUpTo l.rest l.bytes (g.K.Sink.told l.fn.sink) (g.K.Sink.told l.sink)

abbrev pub decreases-loop-rest : goal.decreases-loop-rest
decreases-loop-rest g l = length l.rest
