use Rattle.tv_guest.proofs.Quiet.{AreWritten}
use Rattle.tv_guest.proofs.reservations.end_touched.Given as goal

-- those so far
abbrev pub invariant-loop-i : goal.invariant-loop-i
invariant-loop-i l = AreWritten l.fn.places l.places l.addr l.bytes l.i
