use Rattle.std.proofs.Common.{◌≡◌, None, take, replicate}
use Rattle.tv_guest.proofs.reservations.has_some.Given as goal

-- none so far
abbrev pub invariant-loop-i : goal.invariant-loop-i
invariant-loop-i l = take l.i l.fn.places ≡ replicate l.i None
