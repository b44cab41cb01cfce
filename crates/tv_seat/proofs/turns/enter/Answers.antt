use Rattle.std.proofs.Common.{ap, ◌∙◌, subst, arith}
use Rattle.tv_seat.specs.Claims.{IsClaim}
use Rattle.tv_seat.proofs.Counting.{reads}
use Rattle.tv_seat.proofs.turns.enter.Goals as goal

pub load-count-requires : goal.load-count-requires
load-count-requires g c =
    let sizes = c.requires.board in
    let held = c.take-value.ensures.held in (
      c.take-value.ensures.lock ∙ c.requires.lock,
      omega arith,
      reads g.T.Kept.history g.T.Kept.tally _ _ _ held.0 c.take-value.result (ap (λ m. m.0.live) held.1 ∙ c.requires.live) (ap (λ m. m.0.stage) held.1),
    )

pub returns-clause-held : goal.returns-clause-held
returns-clause-held g c =
    let held = c.take-value.ensures.held in
    let read = c.load-count.ensures.2 held.0 c.take-value.result (ap (λ m. m.0.stage) held.1) in
    (held.0, read.2 ∙ ap (λ m. (record m.0 { own = record m.0.own { seen = g.T.Kept.history c.take-value.result } }, m.1)) held.1)

pub returns-clause-count : goal.returns-clause-count
returns-clause-count g c =
    let held = c.take-value.ensures.held in
    (c.load-count.ensures.2 held.0 c.take-value.result (ap (λ m. m.0.stage) held.1)).0

pub returns-clause-promised : goal.returns-clause-promised
returns-clause-promised g c =
    let held = c.take-value.ensures.held in
    let read = c.load-count.ensures.2 held.0 c.take-value.result (ap (λ m. m.0.stage) held.1) in
    subst (λ own. IsClaim g.T.Kept.history g.T.Kept.tally c.take-value.result own) (ap (λ m. m.0.own) held.1) read.1
