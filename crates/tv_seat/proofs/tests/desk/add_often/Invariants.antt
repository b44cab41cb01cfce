use Rattle.std.proofs.Common.{◌≡◌, ◌+◌, ◌*◌, None}
use Rattle.tv_seat.proofs.tests.desk.add_often.Given as goal

-- the seat is out, and its tally is what it added so far
abbrev pub invariant-loop : goal.invariant-loop
invariant-loop g l =
    (l.seat.lock ≡ l.lock)
    × (l.seat.inside ≡ None)
    × (l.seat.own.number ≡ l.fn.seat.own.number)
    × (l.seat.own.tally ≡ l.fn.seat.own.tally + l.amount * l.counter)
