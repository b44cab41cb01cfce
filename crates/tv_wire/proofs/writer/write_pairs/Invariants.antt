use Rattle.tv_wire.proofs.Written.{AreWritten}
use Rattle.tv_wire.proofs.writer.write_pairs.Given as goal

abbrev pub invariant-loop-pair : goal.invariant-loop-pair
invariant-loop-pair l = AreWritten l.fn.out l.fn.pairs l.pair-index l.at l.out
