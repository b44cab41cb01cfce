-- What a seat has of the slot, from one step to the next.
use Rattle.std.proofs.Common.{◌≡◌, ℕ, List, [], ◌∷◌, Option, Some, None, sym, ap, ◌∙◌}
use Rattle.atomic_table.specs.Table.{Me, rest}
use Rattle.tv_seat.specs.declared.views.Stage.TheVariants.{Waits, Holds}
use Rattle.tv_seat.specs.declared.views.View.{View}

module _ {S : Type 0} where
  -- the value in the first slot of a list of held ones, or else y
  abbrev first_slot : S → List (ℕ × S) → S
  first_slot y [] = y
  first_slot y (x ∷ xs) = x.1

  -- the only slot that is held is the first of those that are
  pub only_slot : (slots : List (ℕ × S)) (x : S) → slots ≡ (0, x) ∷ [] → slots ≡ (0, x) ∷ rest slots
  only_slot slots x e = e ∙ ap (λ (xs : List (ℕ × S)). (0, x) ∷ xs) (sym (ap (λ (xs : List (ℕ × S)). rest xs) e))

  pub found_slot : (slots : List (ℕ × S)) (x y : S) → slots ≡ (0, x) ∷ [] → slots ≡ (0, y) ∷ rest slots → y ≡ x
  found_slot slots x y e f = ap (first_slot x) (sym f ∙ e)

module _ {T E : Type 0} where
  -- the seat drew a ticket, its turn came, and the value was taken out of the slot
  pub taken : (a b c d : Me (Option T) (View T E)) (t : ℕ) (x y : T) (o : Option T) → b ≡ (record a.0 { stage = Waits t }, []) → c ≡ (record b.0 { stage = Holds t x }, (0, Some x) ∷ [])
      → c.1 ≡ (0, o) ∷ rest c.1 → o ≡ Some y → d ≡ (c.0, (0, None) ∷ rest c.1) → d ≡ (record a.0 { stage = Holds t y }, (0, None) ∷ [])
  taken a b c d t x y o drew looked found is moved =
      let same : Some x ≡ Some y = sym (found_slot c.1 (Some x) o (ap (λ (m : Me (Option T) (View T E)). m.1) looked) found) ∙ is in
      let value : x ≡ y = cc in
      moved
      ∙ ap (λ (m : Me (Option T) (View T E)). (m.0, (0, None) ∷ rest m.1)) looked
      ∙ ap (λ (m : Me (Option T) (View T E)). (record m.0 { stage = Holds t x }, (0, None) ∷ [])) drew
      ∙ ap (λ (z : T). (record a.0 { stage = Holds t z }, (0, None) ∷ [])) value
