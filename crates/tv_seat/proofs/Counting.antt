-- The steps on the number of entries keep the rule: to read it, and to add to it.
use Rattle.std.proofs.Common.{◌≡◌, ◌≢◌, ℕ, ◌+◌, ◌%◌, true, List, [], ◌∷◌, length, slice_index, Option, Some, None, refl, sym, ap, ◌∙◌, subst, inr, append-nil, arith}
use mathlib.Core.Option.{none}
use Rattle.atomic_table.specs.Table.{Me, Act, Valid, Allows, stepped, step, carried_after}
use Rattle.atomic_table.specs.Table.Act.{keeps}
use Rattle.atomic_table.proofs.Lists.{set_here}
use Rattle.tv_seat.specs.declared.views.Stage.{Stage}
use Rattle.tv_seat.specs.declared.views.Stage.TheVariants.{Holds}
use Rattle.tv_seat.specs.declared.views.View.{View}
use Rattle.tv_seat.specs.Claims.{IsClaim, claim_of, Grew}
use Rattle.tv_seat.specs.Rule.{tickets_of, IsInTurn, IsSeated}
use Rattle.tv_seat.specs.Steps.{ReadCount, Added}
use Rattle.tv_seat.proofs.Claiming.{entries_kept, claim_kept, whole_claim}
use Rattle.tv_seat.proofs.Turning.{holds_ticket, turn_else, turn_of}
use Rattle.tv_seat.proofs.Viewing.{at_within, length_set, set_all, tickets_set, held_stays, made_set, fits_set}

module _ {T : Type 0} where
  -- the value in the first slot of a list of held ones, or else y
  abbrev carried_value : T → List (ℕ × Option T) → T
  carried_value y [] = y
  carried_value y ((k, None) ∷ xs) = y
  carried_value y ((k, Some x) ∷ xs) = x

  same_carried : (xs : List (ℕ × Option T)) (y z : T) → xs ≡ (0, Some y) ∷ [] → xs ≡ (0, Some z) ∷ [] → y ≡ z
  same_carried xs y z e f = ap (carried_value y) (sym e ∙ f)

module _ {T E : Type 0} (history : T → List (E × ℕ)) (tally : T → ℕ → ℕ) where
  pub reads : (slots id : ℕ) (m : Me (Option T) (View T E)) (t : ℕ) (x : T) → m.0.live ≡ true → m.0.stage ≡ Holds t x
      → Allows (IsSeated history tally) slots id m 2 (λ k. k) (ReadCount history tally (step slots 2 0 0 none) m)
  reads slots id m t x live has s r len at small =
      let w : View T E = record m.0 { own = record m.0.own { seen = history r.value } } in
      let mine = turn_of history tally s r id m.0 (Holds t x) at has in
      let f = r.fits id m.0 at in
      let own = f.0 live in
      let P : List ℕ → Type 0 = λ ws. (z : View T E) × (a : Act (Option T)) × Valid s.homes m.1 a
      × IsSeated history tally (stepped (record { words = ws; homes = s.homes; views = s.views }) 2 (slice_index ws 2) id m.1 z a)
      × ReadCount history tally (step slots 2 0 0 none) m (slice_index ws 2) (z, carried_after m.1 a) in
      subst P (sym r.words) (
        w,
        keeps,
        tt,
        record {
          drawn = r.drawn;
          serving = r.serving;
          value = r.value;
          owner = r.owner;
          words = refl;
          waiting = let h = tickets_set s.views id m.0 w at in let g = r.waiting in omega arith;
          few = let h = length_set s.views id w in let g = r.few in omega arith;
          home = inr (mine.4, held_stays s.views id m.0 w r.value at (λ u e. e) (id, m.0, t, at, has ∙ ap (λ (y : T). Holds t y) mine.3));
          turns = set_all (λ (q : ℕ) (u : View T E). IsInTurn r.drawn r.serving r.value r.owner s.homes q u.stage) s.views id w
              (r.turns id m.0 at) (λ q u ne here. r.turns q u here);
          fits = fits_set history tally r.value r.value s.views id m.0 w at live live own.0 refl
              (([], sym (append-nil (history r.value))), own.1.1, own.1.2) (λ c _ h. h) r.fits;
          made = made_set s.views id m.0 w at refl r.made;
          unmade = λ n long. r.unmade n (let h = length_set s.views id w in omega arith);
        },
        (λ u z is. let same : r.value ≡ z = sym (turn_of history tally s r id m.0 (Holds u z) at is).3 in (
          ap (λ (y : T). length (history y)) same,
          subst (λ (y : T). IsClaim history tally y m.0.own) same own.1,
          (λ i. (record m.0 { own = record m.0.own { seen = history (same i) } }, m.1)),
        )),
      )

  pub adds : (slots id : ℕ) (m : Me (Option T) (View T E)) (t : ℕ) (x y : T) (more : ℕ) → m.0.live ≡ true → m.0.stage ≡ Holds t x → m.1 ≡ (0, Some y) ∷ []
      → Grew history tally m.0.own.number x y → length (history x) + more ≡ length (history y)
      → Allows (IsSeated history tally) slots id m 2 (λ k. (k + more) % 18446744073709551616) (Added history tally (step slots 2 more 0 none) m)
  adds slots id m t x y more live has held grew count s r len at small =
      let w : View T E = record m.0 { stage = Holds t y; own = claim_of history tally m.0.own.number y } in
      let mine = turn_of history tally s r id m.0 (Holds t x) at has in
      let f = r.fits id m.0 at in
      let own = f.0 live in
      let grown : Grew history tally id r.value y = subst (λ (q : ℕ × T). Grew history tally q.0 q.1 y) (λ i. (own.0 i, mine.3 i)) grew in
      let P : List ℕ → Type 0 = λ ws. (z : View T E) × (a : Act (Option T)) × Valid s.homes m.1 a
      × IsSeated history tally (stepped (record { words = ws; homes = s.homes; views = s.views }) 2 ((slice_index ws 2 + more) % 18446744073709551616) id m.1 z a)
      × Added history tally (step slots 2 more 0 none) m (slice_index ws 2) (z, carried_after m.1 a) in
      subst P (sym r.words) (
        w,
        keeps,
        tt,
        record {
          drawn = r.drawn;
          serving = r.serving;
          value = y;
          owner = r.owner;
          words = let few = grown.few in let before : length (history x) ≡ length (history r.value) = ap (λ (z : T). length (history z)) mine.3 in
              let e : (length (history r.value) + more) % 18446744073709551616 ≡ length (history y) = omega arith in
              ap (λ (k : ℕ). r.drawn % 18446744073709551616 ∷ r.serving % 18446744073709551616 ∷ k ∷ []) e;
          waiting = let h = tickets_set s.views id m.0 w at in let i : tickets_of m.0.stage ≡ 1 = ap (λ (z : Stage T). tickets_of z) has in let g = r.waiting in omega arith;
          few = let h = length_set s.views id w in let g = r.few in omega arith;
          home = inr (mine.4, (id, w, t, set_here s.views id w (at_within s.views id m.0 at), refl));
          turns = set_all (λ (q : ℕ) (u : View T E). IsInTurn r.drawn r.serving y r.owner s.homes q u.stage) s.views id w
              (mine.0, mine.1, mine.2, refl, mine.4)
              (λ q u ne here. turn_else r.drawn r.serving r.value y r.owner s.homes s.homes id q u.stage ne (ap r.owner (sym mine.0) ∙ mine.2) (r.turns q u here));
          fits = fits_set history tally r.value y s.views id m.0 w at live live own.0 refl (whole_claim history tally m.0.own.number y)
              (claim_kept history tally id r.value y grown) r.fits;
          made = made_set s.views id m.0 w at refl r.made;
          unmade = λ n long.
              let h = length_set s.views id w in
              let inside = at_within s.views id m.0 at in
              let ne : n ≢ id = λ same. omega arith in
              let before = r.unmade n (omega arith) in
              (entries_kept history tally n id r.value y ne grown ∙ before.0, grown.others n ne ∙ before.1);
        },
        (λ u z q is holds.
            let same : t ≡ u = holds_ticket m.0.stage t u x z has is in let new : y ≡ q = same_carried m.1 y q held holds in
            (λ i. (record m.0 { stage = Holds (same i) (new i); own = claim_of history tally m.0.own.number (new i) }, m.1))),
      )
