use Rattle.tv_wire.proofs.Pairs.{AreRead}
use Rattle.tv_wire.proofs.reader.read_pairs.Given as goal

abbrev pub invariant-loop : goal.invariant-loop
invariant-loop l = AreRead l.fn.body l.fn.count l.counter l.at l.stats
