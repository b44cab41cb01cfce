use Rattle.std.proofs.Common.{[], ◌∷◌, Some, sym, ap, ◌∙◌, subst, arith}
use Rattle.atomic_table.specs.Table.{rest}
use Rattle.tv_seat.specs.declared.views.Stage.TheVariants.{Idle}
use Rattle.tv_seat.specs.Claims.{claim_of, Grew}
use Rattle.tv_seat.proofs.Counting.{adds}
use Rattle.tv_seat.proofs.Turning.{passes}
use Rattle.tv_seat.proofs.turns.leave.Goals as goal

pub fetch_add-requires : goal.fetch_add-requires
fetch_add-requires g c =
    let sizes = c.requires.board in
    let held = c.requires.held in
    let moved = c.exchange.ensures.3 ∙ ap (λ xs. (c.args.token.now.me.0, (0, Some c.args.value) ∷ rest xs)) held.3 in (
      c.exchange.ensures.0 ∙ c.requires.lock,
      omega arith,
      adds g.T.Kept.history g.T.Kept.tally _ _ _ held.0 held.1 c.args.value c.args.new_entries (ap (λ m. m.0.live) moved ∙ c.requires.live)
          (ap (λ m. m.0.stage) moved ∙ held.2) (ap (λ m. m.1) moved)
          (subst (λ n. Grew g.T.Kept.history g.T.Kept.tally n held.1 c.args.value) (sym (ap (λ m. m.0.own.number) moved)) held.4) held.5,
    )

pub fetch_add-requires-2 : goal.fetch_add-requires-2
fetch_add-requires-2 g c =
    let sizes = c.requires.board in
    let held = c.requires.held in
    let moved = c.exchange.ensures.3 ∙ ap (λ xs. (c.args.token.now.me.0, (0, Some c.args.value) ∷ rest xs)) held.3 in
    let added = c.fetch_add.ensures.2 held.0 held.1 c.args.value (ap (λ m. m.0.stage) moved ∙ held.2) (ap (λ m. m.1) moved) in (
      c.fetch_add.ensures.0 ∙ c.exchange.ensures.0 ∙ c.requires.lock,
      omega arith,
      passes g.T.Kept.history g.T.Kept.tally _ _ _ held.0 c.args.value (ap (λ m. m.0.live) added ∙ ap (λ m. m.0.live) moved ∙ c.requires.live)
          (ap (λ m. m.0.stage) added) (ap (λ m. m.1) added ∙ ap (λ m. m.1) moved),
    )

pub returns-clause-left : goal.returns-clause-left
returns-clause-left g c =
    let held = c.requires.held in
    let moved = c.exchange.ensures.3 ∙ ap (λ xs. (c.args.token.now.me.0, (0, Some c.args.value) ∷ rest xs)) held.3 in
    let added = c.fetch_add.ensures.2 held.0 held.1 c.args.value (ap (λ m. m.0.stage) moved ∙ held.2) (ap (λ m. m.1) moved) in
    c.fetch_add-2.ensures.2
    ∙ ap (λ m. (record m.0 { stage = Idle }, [])) added
    ∙ ap (λ m. (record m.0 { stage = Idle; own = claim_of g.T.Kept.history g.T.Kept.tally m.0.own.number c.args.value }, [])) moved
