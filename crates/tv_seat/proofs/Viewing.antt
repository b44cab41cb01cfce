-- What the rule says of all views, after a step changed one of them.
use Rattle.std.proofs.Common.{◌≡◌, ◌≢◌, ℕ, zero, suc, ◌+◌, ◌<◌, ◌≤◌, true, false, ◌⊎◌, List, [], ◌∷◌, ◌++◌, length, set, refl, sym, ap, ◌∙◌, subst, inl, inr, ⊎_elim, arith}
use mathlib.Core.Option.{some, some-injective, some-ne-none}
use mathlib.Core.Logic.{dite}
use native.Mathlib.Decide.{ℕ_discrete}
use lib.ListN.{get_elem?}
use Rattle.atomic_table.proofs.Lists.{at_set, set_here, set_else}
use Rattle.tv_seat.specs.declared.views.Claim.{Claim}
use Rattle.tv_seat.specs.declared.views.Stage.{Stage}
use Rattle.tv_seat.specs.declared.views.Stage.TheVariants.{Idle, Waits, Holds}
use Rattle.tv_seat.specs.declared.views.View.{View}
use Rattle.tv_seat.specs.Claims.{IsClaim}
use Rattle.tv_seat.specs.Rule.{Each, tickets_of, tickets, IsSpent, IsHeld, Fits}
use Rattle.tv_seat.proofs.Claiming.{each_map}

module _ {A : Type 0} where
  pub at_within : (l : List A) (i : ℕ) (a : A) → get_elem? l i ≡ some a → i < length l
  at_within [] i a e = absurd (some-ne-none a (sym e))
  at_within (x ∷ xs) zero a e = omega arith
  at_within (x ∷ xs) (suc i) a e = let h = at_within xs i a e in omega arith

  pub one_at : (l : List A) (i : ℕ) (a b : A) → get_elem? l i ≡ some a → get_elem? l i ≡ some b → a ≡ b
  one_at l i a b e f = some-injective a b (sym e ∙ f)

  pub length_set : (l : List A) (i : ℕ) (a : A) → length (set l i a) ≡ length l
  length_set [] i a = refl
  length_set (x ∷ xs) zero a = refl
  length_set (x ∷ xs) (suc i) a = let h = length_set xs i a in omega arith

  -- what holds of the element that was put, and of each other one
  pub set_all : (P : ℕ → A → Type 0) (l : List A) (i : ℕ) (a : A) → P i a → ((j : ℕ) (b : A) → j ≢ i → get_elem? l j ≡ some b → P j b)
      → (j : ℕ) (b : A) → get_elem? (set l i a) j ≡ some b → P j b
  set_all P l i a here there j b e =
      ⊎_elim
      (λ t. subst (λ (q : ℕ × A). P q.0 q.1) (λ k. (sym t.0 k, t.1 k)) here)
      (λ t. there j b t.0 t.1)
      (at_set l i j a b e)

  -- the last of a list, or one before it
  pub at_end : (l : List A) (a b : A) (j : ℕ) → get_elem? (l ++ a ∷ []) j ≡ some b → (get_elem? l j ≡ some b) ⊎ ((j ≡ length l) × (a ≡ b))
  at_end [] a b zero e = inr (refl, some-injective a b e)
  at_end [] a b (suc j) e = absurd (some-ne-none b (sym e))
  at_end (x ∷ xs) a b zero e = inl e
  at_end (x ∷ xs) a b (suc j) e = ⊎_elim (λ t. inl t) (λ t. inr (ap suc t.0, t.1)) (at_end xs a b j e)

at_most_one : {T : Type 0} (s : Stage T) → tickets_of s ≤ 1
at_most_one Idle = omega arith
at_most_one (Waits t) = omega arith
at_most_one (Holds t x) = omega arith

module _ {T E : Type 0} where
  pub tickets_set : (views : List (View T E)) (p : ℕ) (v w : View T E) → get_elem? views p ≡ some v
      → tickets (set views p w) + tickets_of v.stage ≡ tickets views + tickets_of w.stage
  tickets_set [] p v w e = absurd (some-ne-none v (sym e))
  tickets_set (u ∷ us) zero v w e = let same : tickets_of u.stage ≡ tickets_of v.stage = ap (λ (z : View T E). tickets_of z.stage) (some-injective u v e) in omega arith
  tickets_set (u ∷ us) (suc p) v w e = let h = tickets_set us p v w e in omega arith

  pub tickets-append : (views : List (View T E)) (v : View T E) → tickets (views ++ v ∷ []) ≡ tickets views + tickets_of v.stage
  tickets-append [] v = omega arith
  tickets-append (u ∷ us) v = let h = tickets-append us v in omega arith

  pub tickets-few : (views : List (View T E)) → tickets views ≤ length views
  tickets-few [] = omega arith
  tickets-few (u ∷ us) = let h = tickets-few us in let g = at_most_one u.stage in omega arith

  -- a seat that was taken in stays so where a live one changes
  pub spent_stays : (views : List (View T E)) (p : ℕ) (v w : View T E) → get_elem? views p ≡ some v → v.live ≡ true
      → (n : ℕ) → IsSpent views n → (n ≢ p) × IsSpent (set views p w) n
  spent_stays views p v w e live n s =
      let apart : n ≢ p = λ same. let at : get_elem? views p ≡ some s.0 = subst (λ (q : ℕ). get_elem? views q ≡ some s.0) same s.1 in
      let one : s.0 ≡ v = one_at views p s.0 v at e in
      let dead : true ≡ false = sym live ∙ sym (ap (λ (z : View T E). z.live) one) ∙ s.2 in cc in
      (apart, (s.0, set_else views p n w apart ∙ s.1, s.2))

  -- the value stays out with the seat that holds it, where one changes that goes on holding what it holds
  pub held_stays : (views : List (View T E)) (p : ℕ) (v w : View T E) (x : T) → get_elem? views p ≡ some v
      → ((t : ℕ) → v.stage ≡ Holds t x → w.stage ≡ Holds t x) → IsHeld views x → IsHeld (set views p w) x
  held_stays views p v w x e still h =
      dite (ℕ_discrete h.0 p)
      (λ same. let at : get_elem? views p ≡ some h.1 = subst (λ (q : ℕ). get_elem? views q ≡ some h.1) same h.3 in
      let one : h.1 ≡ v = one_at views p h.1 v at e in
      (p, w, h.2, set_here views p w (at_within views p v e), still h.2 (sym (ap (λ (z : View T E). z.stage) one) ∙ h.4)))
      (λ ne. (h.0, h.1, h.2, set_else views p h.0 w ne ∙ h.3, h.4))

  pub made_set : (views : List (View T E)) (p : ℕ) (v w : View T E) → get_elem? views p ≡ some v → w.made ≡ v.made
      → ((u : View T E) → get_elem? views 0 ≡ some u → u.made + 1 ≡ length views)
      → (u : View T E) → get_elem? (set views p w) 0 ≡ some u → u.made + 1 ≡ length (set views p w)
  made_set views p v w e same made u at =
      let n = length_set views p w in
      ⊎_elim
      (λ t. let first : get_elem? views 0 ≡ some v = subst (λ (q : ℕ). get_elem? views q ≡ some v) (sym t.0) e in
      let m = made v first in let k : w.made ≡ u.made = ap (λ (z : View T E). z.made) t.1 in omega arith)
      (λ t. let m = made u t.1 in omega arith)
      (at_set views p 0 w u at)

module _ {T E : Type 0} (history : T → List (E × ℕ)) (tally : T → ℕ → ℕ) where
  -- a live seat p changes, and the value goes from x to y; what other seats say is so as before
  pub fits_set : (x y : T) (views : List (View T E)) (p : ℕ) (v w : View T E) → get_elem? views p ≡ some v → v.live ≡ true
      → w.live ≡ true → w.own.number ≡ p → w.others ≡ v.others → IsClaim history tally y w.own
      → ((c : Claim E) → c.number ≢ p → IsClaim history tally x c → IsClaim history tally y c)
      → ((j : ℕ) (u : View T E) → get_elem? views j ≡ some u → Fits history tally x views j u)
      → (j : ℕ) (u : View T E) → get_elem? (set views p w) j ≡ some u → Fits history tally y (set views p w) j u
  fits_set x y views p v w e live live' number others claim kept old =
      let Before : Claim E → Type 0 = λ c. IsClaim history tally x c × IsSpent views c.number in
      let After : Claim E → Type 0 = λ c. IsClaim history tally y c × IsSpent (set views p w) c.number in
      let carry : (c : Claim E) → Before c → After c = λ c h. let s = spent_stays views p v w e live c.number h.1 in (kept c s.0 h.0, s.1) in
      set_all (λ (j : ℕ) (u : View T E). Fits history tally y (set views p w) j u) views p w (
        (λ _. (number, claim)),
        (λ dead. let no : true ≡ false = sym live' ∙ dead in absurd (cc)),
        subst (λ (cs : List (Claim E)). Each After cs) (sym others) (each_map Before After carry v.others (old p v e).2),
      )
      (λ j u ne at. let f = old j u at in (
        (λ alive. let g = f.0 alive in (g.0, kept u.own (λ same. ne (sym g.0 ∙ same)) g.1)),
        f.1,
        each_map Before After carry u.others f.2,
      ))
