-- What a claim chooses.
use Rattle.std.proofs.Common.{◌≡◌, ◌==◌, ◌||◌, ◌↔◌, ◌^◌, ℕ, zero, suc, Bool, true, false, not, if◌then◌else◌, nat_lt, refl, arith}
use Rattle.std.proofs.Math.Nat.{le-suc_iff}
use Rattle.tv_intc.specs.ControllerState.{Controller}
use Rattle.tv_intc.specs.Controller.{IsBest, any_eligible, choice, is_eligible, lines_of, priority_of}

module _ (eligible : ℕ → Bool) (priority : ℕ → ℕ) (n best : ℕ) (h : IsBest eligible priority n best) where
  -- one source more, which isn't eligible
  passing : eligible (suc n) ≡ false → IsBest eligible priority (suc n) best
  passing e = record {
    known = omega (arith, h.known);
    none = λ z other l m. grind (arith, e, h.none z other l, le-suc_iff {m = other} {n = n});
    chosen = h.chosen;
    greatest = λ other l m o. grind (arith, e, h.greatest other l, le-suc_iff {m = other} {n = n});
  }

  -- one more, which is taken
  taking : eligible (suc n) ≡ true → (best == 0 || nat_lt (priority best) (priority (suc n))) ≡ true
      → IsBest eligible priority (suc n) (suc n)
  taking e t = record {
    known = omega arith;
    none = λ z. absurd (grind (arith, z));
    chosen = λ _. e;
    greatest = λ other l m o. grind (arith, t, h.none, h.greatest other l, le-suc_iff {m = other} {n = n});
  }

  -- one more, which is eligible and not taken
  leaving : eligible (suc n) ≡ true → (best == 0 || nat_lt (priority best) (priority (suc n))) ≡ false
      → IsBest eligible priority (suc n) best
  leaving e t = record {
    known = omega (arith, h.known);
    none = λ z. absurd (grind (arith, t, z));
    chosen = h.chosen;
    greatest = λ other l m o. grind (arith, t, h.known, h.greatest other l, le-suc_iff {m = other} {n = n});
  }

preferring : (eligible : ℕ → Bool) (priority : ℕ → ℕ) (n best : ℕ) → IsBest eligible priority n best
    → (e : Bool) → eligible (suc n) ≡ e
    → (t : Bool) → (best == 0 || nat_lt (priority best) (priority (suc n))) ≡ t
    → IsBest eligible priority (suc n) (if e then (if t then suc n else best) else best)
preferring el pr n best h false e t u = passing el pr n best h e
preferring el pr n best h true e true u = taking el pr n best h e u
preferring el pr n best h true e false u = leaving el pr n best h e u

pub choice_is_best : (c : Controller) (hart n : ℕ) → IsBest (is_eligible c hart) (priority_of c) n (choice c hart n)
choice_is_best c hart zero = record {
  known = omega arith;
  none = λ _ other l m. absurd (omega arith);
  chosen = λ z. absurd (z refl);
  greatest = λ other l m o. absurd (omega arith);
}
choice_is_best c hart (suc n) =
    preferring (is_eligible c hart) (priority_of c) n (choice c hart n) (choice_is_best c hart n)
    (is_eligible c hart (suc n)) refl
    (choice c hart n == 0 || nat_lt (priority_of c (choice c hart n)) (priority_of c (suc n))) refl

-- a source is chosen exactly where one is eligible, also of one source more
one_more : (any eligible greater : Bool) (best n : ℕ) → any ≡ not (best == 0)
    → (any || eligible) ≡ not ((if eligible then (if best == 0 || greater then suc n else best) else best) == 0)
one_more false false greater best n h = h
one_more true false greater best n h = h
one_more false true greater zero n h = grind arith
one_more true true greater zero n h = grind arith
one_more any true false (suc best) n h = grind (arith, h)
one_more any true true (suc best) n h = grind (arith, h)

any_is_choice : (c : Controller) (hart n : ℕ) → any_eligible c hart n ≡ not (choice c hart n == 0)
any_is_choice c hart zero = refl
any_is_choice c hart (suc n) =
    one_more (any_eligible c hart n) (is_eligible c hart (suc n))
    (nat_lt (priority_of c (choice c hart n)) (priority_of c (suc n)))
    (choice c hart n) n (any_is_choice c hart n)

-- the lines are 0 exactly where the choice is
zero_both : (any : Bool) (best : ℕ) → any ≡ not (best == 0) → ((if any then 2 ^ 11 else 0) ≡ 0) ↔ (best ≡ 0)
zero_both false best h = grind (arith, h)
zero_both true best h = grind (arith, h)

pub lines_is_choice : (c : Controller) (hart lines : ℕ) → lines ≡ lines_of c hart
    → (lines ≡ 0) ↔ (choice c hart 8 ≡ 0)
lines_is_choice c hart lines e =
    rw e (zero_both (any_eligible c hart 8) (choice c hart 8) (any_is_choice c hart 8))
