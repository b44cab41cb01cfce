use Rattle.std.proofs.Common.{◌≡◌, ◌++◌, map}
use Rattle.tv_seat.proofs.seat.gather.Given as goal

-- the first seat took in those that were met so far
abbrev pub invariant-loop-seat : goal.invariant-loop-seat
invariant-loop-seat g l =
    (goal.iterator-loop-seat g).can_next l.seat-iterator
    × (goal.iterator-loop-seat g).is_finite l.seat-iterator
    × (l.fn.others.items ≡ l.yielded ++ l.seat-iterator.rest.items)
    × (l.first.table_id ≡ l.fn.first.table_id)
    × (l.first.me ≡ (record l.fn.first.me.0 { others = l.fn.first.me.0.others ++ map (λ seat. seat.own) l.yielded }, l.fn.first.me.1))
