-- At most as many Replies wait in a reply tube as there can be harts, since no hart waits for two.
use Rattle.std.proofs.Common.{◌≡◌, ◌≢◌, ℕ, ◌<◌, ◌≤◌, inl, inr, true, false, eqb, List, [], ◌∷◌, ◌++◌, length, map, Option, Some, refl, ap, sym, ◌∙◌, subst, arith}
use Rattle.std.specs.List.{AllByRecursion, IsDistinct, list_any}
use Rattle.std.proofs.lemmas.Bool.Decides.{eqb_tells}
use Rattle.std.proofs.lemmas.List.{length-map}
use Rattle.std.proofs.lemmas.Map.Steps.{length-le_from_distinct_below}
use Rattle.tv_spec.specs.Sound.{AreAwaited, AreDistinct, NoTag, load_at}
use Rattle.tv_spec.specs.declared.Due.{Due}
use Rattle.tv_spec.specs.declared.Maker.{Maker}
use Rattle.tv_spec.specs.declared.Pending.{Pending}
use Rattle.tv_spec.proofs.Kept.{same_load}
use Rattle.tv_core.proofs.Makers.{AreForHarts, IsForHart}

-- the number of who made an item
abbrev number_of : Maker → ℕ
number_of (Maker.Hart h) = h
number_of (Maker.Line c) = c

abbrev numbers_of : List Due → List ℕ
numbers_of ws = map (λ w. number_of w.maker) ws

number_is : (w : Due) (h : ℕ) → w.maker ≡ Maker.Hart h → number_of w.maker ≡ h
number_is w h is = rw is refl

-- the harts of these answers are others than this one
others_apart : (harts d limit h tag : ℕ) (pending : ℕ → Option Pending) (ws : List Due) → pending h ≡ Some (load_at d tag true) → AreForHarts harts ws
    → AreAwaited pending d limit true ws → NoTag tag ws → AllByRecursion (λ y. eqb h y ≡ false) (numbers_of ws)
others_apart harts d limit h tag pending [] is all awaited free = tt
others_apart harts d limit h tag pending (w ∷ ws) is all awaited free =
    let one : IsForHart harts w = all.0 in
    let waits : pending one.hart ≡ Some (load_at d w.tag true) = (let r = awaited.1 in let q = rw one.maker_is at r in q) in
    let apart : h ≢ one.hart = λ e. free.0 (
    let both : Some (load_at d tag true) ≡ Some (load_at d w.tag true) = sym is ∙ ap pending e ∙ waits in
    (same_load _ _ both).1) in (
      (elim (eqb_tells h (number_of w.maker)) [
        | inl e ↦ absurd (apart (e.1 ∙ number_is w one.hart one.maker_is))
        | inr e ↦ e.0
      ]),
      others_apart harts d limit h tag pending ws is all.1 awaited.2 free.1,
    )

distinct_numbers : (harts d limit : ℕ) (pending : ℕ → Option Pending) (ws : List Due) → AreForHarts harts ws → AreAwaited pending d limit true ws → AreDistinct ws
    → IsDistinct eqb (numbers_of ws)
unfolding IsDistinct
distinct_numbers harts d limit pending [] all awaited apart = tt
distinct_numbers harts d limit pending (w ∷ ws) all awaited apart =
    let one : IsForHart harts w = all.0 in
    let waits : pending one.hart ≡ Some (load_at d w.tag true) = (let r = awaited.1 in let q = rw one.maker_is at r in q) in (
      rw (number_is w one.hart one.maker_is) (others_apart harts d limit one.hart w.tag pending ws waits all.1 awaited.2 apart.0),
      distinct_numbers harts d limit pending ws all.1 awaited.2 apart.1,
    )

below_harts : (harts q : ℕ) (ws : List Due) → AreForHarts harts ws → list_any (eqb q) (numbers_of ws) ≡ true → q < harts
below_harts harts q [] all is = absurd (cc)
below_harts harts q (w ∷ ws) all is = elim (eqb_tells q (number_of w.maker)) [
  | inl e ↦ let one : IsForHart harts w = all.0 in subst (λ (n : ℕ). n < harts) (sym (e.1 ∙ number_is w one.hart one.maker_is)) one.exists
  | inr e ↦ below_harts harts q ws all.1 (rw e.0 at is)
]

pub few_for_harts : (harts d limit : ℕ) (pending : ℕ → Option Pending) (ws : List Due) → AreForHarts harts ws → AreAwaited pending d limit true ws → AreDistinct ws
    → length ws ≤ harts
few_for_harts harts d limit pending ws all awaited apart =
    let r = length-le_from_distinct_below (numbers_of ws) harts (distinct_numbers harts d limit pending ws all awaited apart) (λ q is. below_harts harts q ws all is) in
    let same : length (numbers_of ws) ≡ length ws = length-map ws (λ w. number_of w.maker) in
    omega (arith, r, same)

pub distinct_front : (xs ys : List Due) → AreDistinct (xs ++ ys) → AreDistinct xs
distinct_front [] ys d = tt
distinct_front (x ∷ xs) ys d = (no_front x xs ys d.0, distinct_front xs ys d.1)
  where
    no_front : (x : Due) (xs ys : List Due) → NoTag x.tag (xs ++ ys) → NoTag x.tag xs
    no_front x [] ys n = tt
    no_front x (y ∷ xs) ys n = (n.0, no_front x xs ys n.1)
