use Rattle.tv_guest.specs.Guest.{AreFirst}
use Rattle.tv_guest.proofs.guest.first_harts.Given as goal

-- the harts so far
abbrev pub invariant-loop-number : goal.invariant-loop-number
invariant-loop-number l = AreFirst l.harts.items l.number
