use Rattle.std.proofs.Common.{◌≡◌, None, ap, ◌∙◌, arith}
use Rattle.tv_seat.proofs.Closing.{all_between, stands_out}
use Rattle.tv_seat.proofs.Seating.{joins}
use Rattle.tv_seat.proofs.seat.gather.Goals as goal

pub join_seat-requires : goal.join_seat-requires
join_seat-requires g c =
    let sizes = c.requires.board in
    let first = c.loop-seat.invariant.4 in
    let seat = c.in-Some.seat in
    let parts = c.loop-seat.invariant.2 in
    let next = c.in-Some.ensures.steps.0 in
    let lock = all_between (λ s. s.lock ≡ c.args.board.now.shared.table_id) c.args.others.items c.loop-seat.yielded c.loop-seat.seat-iterator.rest.items _ seat c.requires.locks parts next in
    let out = all_between (λ s. s.inside ≡ None) c.args.others.items c.loop-seat.yielded c.loop-seat.seat-iterator.rest.items _ seat c.requires.out parts next in
    let stands = stands_out g.T.Kept.history _ _ _ c.seat.invariant.stands (ap (λ s. s.inside) c.seat.view_is ∙ out) in (
      c.loop-seat.invariant.3 ∙ c.requires.lock,
      ap (λ s. s.lock) c.seat.view_is ∙ lock,
      stands.1,
      omega arith,
      joins g.T.Kept.history g.T.Kept.tally _ _ _ _ (ap (λ m. m.0.live) first ∙ c.requires.live) (ap (λ m. m.0.own.number) first ∙ c.requires.first) c.seat.invariant.live stands.0,
    )
