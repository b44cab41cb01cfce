use Rattle.std.proofs.Common.{Some, refl, sym, ap, ◌∙◌, subst, arith}
use Rattle.std.specs.Prelude.{IsSome}
use Rattle.tv_seat.specs.declared.views.Stage.TheVariants.{Waits}
use Rattle.tv_seat.proofs.Taking.{only_slot, found_slot, taken}
use Rattle.tv_seat.proofs.Turning.{draws, looks}
use Rattle.tv_seat.proofs.turns.take.Goals as goal

pub fetch_add-ticket-requires : goal.fetch_add-ticket-requires
fetch_add-ticket-requires g c =
    let sizes = c.requires.board in
    (c.requires.lock, omega arith, draws g.T.Kept.history g.T.Kept.tally _ _ _ c.requires.live c.requires.idle)

pub loop-init : goal.loop-init
loop-init g c =
    let drew = c.fetch_add-ticket.ensures.2 in
    (c.fetch_add-ticket.ensures.0, drew.0, drew.1, drew.2 ∙ (λ i. (record c.args.token.now.me.0 { stage = Waits drew.0 }, c.requires.out i)))

pub load-requires : goal.load-requires
load-requires g c =
    let sizes = c.requires.board in
    let waits = c.loop.invariant.3 in (
      c.loop.invariant.0 ∙ c.requires.lock,
      omega arith,
      looks g.T.Kept.history g.T.Kept.tally _ _ _ c.loop.invariant.1 (ap (λ m. m.0.live) waits ∙ c.requires.live) (ap (λ m. m.0.stage) waits) (ap (λ m. m.1) waits),
    )

pub exchange-requires : goal.exchange-requires
exchange-requires g c =
    let waits = ap (λ m. m.0.stage) c.loop.invariant.3 in
    let look = (c.load.ensures.2 c.loop.invariant.1 waits).0 (c.if-load-ticket.true ∙ sym c.loop.invariant.2) in
    (c.load.ensures.0 ∙ c.loop.invariant.0 ∙ c.requires.lock, (Some look.0, only_slot _ (Some look.0) (ap (λ m. m.1) look.1)))

pub unwrap-requires : goal.unwrap-requires
unwrap-requires g c =
    let waits = ap (λ m. m.0.stage) c.loop.invariant.3 in
    let look = (c.load.ensures.2 c.loop.invariant.1 waits).0 (c.if-load-ticket.true ∙ sym c.loop.invariant.2) in
    let found = found_slot _ (Some look.0) c.exchange.result (ap (λ m. m.1) look.1) c.exchange.ensures.2 in
    subst (λ o. IsSome o) (sym found) refl

pub returns-then-load-ticket-clause-lock : goal.returns-then-load-ticket-clause-lock
returns-then-load-ticket-clause-lock g c = c.exchange.ensures.0 ∙ c.load.ensures.0 ∙ c.loop.invariant.0

pub returns-then-load-ticket-clause-held : goal.returns-then-load-ticket-clause-held
returns-then-load-ticket-clause-held g c =
    let waits = ap (λ m. m.0.stage) c.loop.invariant.3 in
    let look = (c.load.ensures.2 c.loop.invariant.1 waits).0 (c.if-load-ticket.true ∙ sym c.loop.invariant.2) in (
      c.loop.invariant.1,
      taken c.args.token.now.me c.loop.token.me c.load.new.seat.me c.exchange.new.seat.me c.loop.invariant.1 look.0 c.unwrap.result c.exchange.result
          c.loop.invariant.3 look.1 c.exchange.ensures.2 c.unwrap.ensures c.exchange.ensures.3,
    )

pub loop-preserved : goal.loop-preserved
loop-preserved g c =
    let waits = ap (λ m. m.0.stage) c.loop.invariant.3 in
    let same = (c.load.ensures.2 c.loop.invariant.1 waits).1 (λ turn. c.if-load-ticket.false (turn ∙ c.loop.invariant.2)) in
    (c.load.ensures.0 ∙ c.loop.invariant.0, c.loop.invariant.1, c.loop.invariant.2, same ∙ c.loop.invariant.3)
