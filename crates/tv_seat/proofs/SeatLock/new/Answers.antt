use Rattle.std.proofs.Common.{[], ◌∷◌, ◌++◌, Some, if◌then◌else◌, sym, ap, ◌∙◌, subst}
use Rattle.atomic_table.specs.Table.{opening}
use Rattle.tv_seat.specs.Rule.{IsSeated, newcomer}
use Rattle.tv_seat.proofs.Seating.{starts}
use Rattle.tv_seat.proofs.SeatLock.new.Goals as goal

pub new-requires : goal.new-requires
new-requires g c =
    let xs = c.new-slots.result.items in
    let pushed = c.push.ensures.items
    ∙ ap (λ b. if b then xs ++ Some c.args.value ∷ [] else xs) (sym c.in_ok-map_err.ensures.variant)
    ∙ ap (λ ys. ys ++ Some c.args.value ∷ []) c.new-slots.ensures.items in
    subst (λ ys. IsSeated g.T.Kept.history g.T.Kept.tally (opening (0 ∷ 0 ∷ 0 ∷ []) ys (newcomer 0 []))) (sym pushed)
    (starts g.T.Kept.history g.T.Kept.tally c.args.value c.requires.empty c.requires.zero)
