use Rattle.std.proofs.Common.{refl, sym, subst}
use Rattle.std.specs.Prelude.{IsSome}
use Rattle.tv_seat.proofs.Closing.{closes}
use Rattle.tv_seat.proofs.Seating.{ends}
use Rattle.tv_seat.proofs.turns.close.Goals as goal

pub unwrap-requires : goal.unwrap-requires
unwrap-requires g c =
    let last = ends g.T.Kept.history g.T.Kept.tally _ _ _ _ c.take-value.result c.requires.live c.requires.first c.requires.idle c.requires.every
    c.close_with-closed.ensures.values.2 c.take-value.ensures.value in
    subst (λ o. IsSome o) (sym last.1) refl

pub returns-clause-own : goal.returns-clause-own
returns-clause-own g c =
    (closes g.T.Kept.history g.T.Kept.tally _ _ _ _ c.take-value.result c.unwrap.result c.requires.live c.requires.first c.requires.idle c.requires.every
    c.close_with-closed.ensures.values.2 c.take-value.ensures.value c.unwrap.ensures).0

pub returns-clause-others : goal.returns-clause-others
returns-clause-others g c =
    (closes g.T.Kept.history g.T.Kept.tally _ _ _ _ c.take-value.result c.unwrap.result c.requires.live c.requires.first c.requires.idle c.requires.every
    c.close_with-closed.ensures.values.2 c.take-value.ensures.value c.unwrap.ensures).1
