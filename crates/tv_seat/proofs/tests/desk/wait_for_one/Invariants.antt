use Rattle.std.proofs.Common.{◌≡◌, Some}
use Rattle.tv_seat.specs.Desk.{total_of}
use Rattle.tv_seat.proofs.tests.desk.wait_for_one.Given as goal

-- the seat is inside, with the value of its guard, and added nothing so far
abbrev pub invariant-loop : goal.invariant-loop
invariant-loop g l =
    (l.seat.lock ≡ l.lock)
    × (l.seat.inside ≡ Some l.guard)
    × (l.seat.own.number ≡ l.fn.seat.own.number)
    × (total_of l.fn.seat.own.number l.guard ≡ l.fn.seat.own.tally)
