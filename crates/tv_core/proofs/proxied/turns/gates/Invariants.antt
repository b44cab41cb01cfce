use Rattle.tv_core.proofs.Closing.{AreGatesBelow}
use Rattle.tv_core.proofs.proxied.turns.gates.Given as goal

abbrev pub invariant-loop-slot : goal.invariant-loop-slot
invariant-loop-slot l = AreGatesBelow l.fn.ring.items l.fn.sides l.fn.room l.closed l.slot
