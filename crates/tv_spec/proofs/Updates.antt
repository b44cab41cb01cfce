-- Functions that were changed at one place, and places of lists.
use Rattle.std.proofs.Common.{◌≡◌, ◌≢◌, ℕ, ◌+◌, ◌<◌, inl, inr, List, [], ◌∷◌, length, drop, get_or, set, Some, refl, ap, sym, ◌∙◌, subst, arith, add-one, drop-cons}
use Rattle.std.specs.List.{slice_get}
use Rattle.std.proofs.lemmas.Bool.{eq-eqb}
use Rattle.std.proofs.lemmas.Bool.Decides.{eqb_tells}
use Rattle.std.proofs.lemmas.Option.{slice_get-get_or, get_or_from_slice_get, slice_get_within}
use Rattle.std.proofs.lemmas.List.{get_or-set_same, get_or-set_other}
use Rattle.tv_spec.specs.Update.{update}

-- a fact of the changed function at j: of the new value there, and of the old one elsewhere
pub update_elim : {A : Type 0} (f : ℕ → A) (k : ℕ) (v : A) (j : ℕ) (P : A → Type 0) → (j ≡ k → P v) → (j ≢ k → P (f j)) → P (update f k v j)
update_elim f k v j P same other =
    elim (eqb_tells j k) [
      | inl e ↦ rw e.0 (same e.1)
      | inr e ↦ rw e.0 (other e.1)
    ]

pub update_same : {A : Type 0} (f : ℕ → A) (k : ℕ) (v : A) → update f k v k ≡ v
update_same f k v = rw (eq-eqb k k refl) refl

pub update_other : {A : Type 0} (f : ℕ → A) (k : ℕ) (v : A) (j : ℕ) → j ≢ k → update f k v j ≡ f j
update_other f k v j h = update_elim f k v j (λ w. w ≡ f j) (λ e. absurd (h e)) (λ _. refl)

-- functions that agree everywhere are one
pub same_function : {A : Type 0} → (f g : ℕ → A) → ((k : ℕ) → f k ≡ g k) → f ≡ g
same_function f g same = λ i. λ k. same k i

-- the last of two values at a place stays
pub update_twice : {A : Type 0} → (f : ℕ → A) → (k : ℕ) → (a b : A) → update (update f k a) k b ≡ update f k b
update_twice f k a b = same_function _ _ (λ (j : ℕ). elim (eqb_tells j k) [
  | inl e ↦ rw e.0 refl
  | inr e ↦ rw e.0 refl
])

-- the value that is there changes nothing
pub update_here : {A : Type 0} → (f : ℕ → A) → (k : ℕ) → (a : A) → f k ≡ a → f ≡ update f k a
update_here f k a is = same_function _ _ (λ (j : ℕ). elim (eqb_tells j k) [
  | inl e ↦ rw e.0 (ap f e.1 ∙ is)
  | inr e ↦ rw e.0 refl
])

-- the same, of a relation between an array and a function that change together
pub both_kept : {A B : Type 0} (R : ℕ → A → B → Type 0) (f : ℕ → A) (xs : List B) (k : ℕ) (v : A) (x : B) (n : ℕ)
    → n ≡ length xs
    → R k v x
    → ((j : ℕ) (none : B) → j < n → j ≢ k → R j (f j) (get_or xs j none))
    → (j : ℕ) (none : B) → j < n → R j (update f k v j) (get_or (set xs k x) j none)
both_kept R f xs k v x n len new old j none h =
    update_elim f k v j (λ w. R j w (get_or (set xs k x) j none))
    (λ e. let here : R k v (get_or (set xs k x) k none) = rw (get_or-set_same xs k x none (subst (λ (m : ℕ). m < length xs) e (subst (λ (m : ℕ). j < m) len h))) new in
    subst (λ (m : ℕ). R m v (get_or (set xs k x) m none)) (sym e) here)
    (λ ne. rw (get_or-set_other xs k j x none ne) (old j none h ne))

pub some_at : {A : Type 0} (xs : List A) (k : ℕ) → k < length xs → (x : A) × (slice_get xs k ≡ Some x)
some_at [] k h = absurd (omega arith)
some_at (x ∷ xs) k h = (get_or (x ∷ xs) k x, slice_get-get_or (x ∷ xs) k x h)

pub drop_at : {A : Type 0} (xs : List A) (k : ℕ) (x : A) → slice_get xs k ≡ Some x → drop k xs ≡ x ∷ drop (k + 1) xs
drop_at xs k x h =
    let within : k < length xs = slice_get_within xs k x h in
    rw (add-one, drop-cons xs k x within, get_or_from_slice_get xs k x x h) refl
