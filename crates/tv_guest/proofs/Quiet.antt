-- A write where no hart has a reservation.
use Rattle.std.proofs.Common.{◌≡◌, ℕ, zero, suc, ◌+◌, ◌<◌, ◌++◌, Option, None, List, [], ◌∷◌, map, take, drop, set, get_or, length, length-set, replicate, refl, ap, subst, ◌∙◌, arith}
use Rattle.std.proofs.lemmas.List.{get_or_default}
use Rattle.std.proofs.lemmas.List.Edits.{map_over_more}
use Rattle.tv_spec.specs.Reservations.{after_hart_write, after_write, none_reserved}

pub quiet_write : (hart addr n : ℕ) → hart < 8 → after_hart_write hart addr n none_reserved ≡ none_reserved
quiet_write zero addr n below = refl
quiet_write (suc zero) addr n below = refl
quiet_write (suc (suc zero)) addr n below = refl
quiet_write (suc (suc (suc zero))) addr n below = refl
quiet_write (suc (suc (suc (suc zero)))) addr n below = refl
quiet_write (suc (suc (suc (suc (suc zero))))) addr n below = refl
quiet_write (suc (suc (suc (suc (suc (suc zero)))))) addr n below = refl
quiet_write (suc (suc (suc (suc (suc (suc (suc zero))))))) addr n below = refl
quiet_write (suc (suc (suc (suc (suc (suc (suc (suc hart)))))))) addr n below = absurd (omega (arith, below))

-- the first i of 8 were made what the write makes of them
pub record AreWritten (old now : List (Option ℕ)) (addr n i : ℕ) : Type 0 where
  pub count : length old ≡ 8
  pub long : length now ≡ 8
  pub made : now ≡ map (after_write addr n) (take i old) ++ drop i old

pub written_more : (old now : List (Option ℕ)) (addr n i : ℕ) (d y : Option ℕ) → i < 8 → AreWritten old now addr n i → y ≡ after_write addr n (get_or now i d) → AreWritten old (set now i y) addr n (i + 1)
written_more old now addr n i d y below is y_is =
    let within : i < length old = omega (arith, below, is.count) in
    let here : i < length now = omega (arith, below, is.long) in
    record {
      count = is.count;
      long = length-set now i y ∙ is.long;
      made = ap (set now i) y_is ∙ map_over_more (after_write addr n) old now i (get_or now i d) within is.made (get_or_default now i d (get_or now i d) here);
    }

-- one more of them is none
none_next : (xs : List (Option ℕ)) (i : ℕ) (d : Option ℕ) → i < length xs → take i xs ≡ replicate i None → get_or xs i d ≡ None → take (suc i) xs ≡ replicate (suc i) None
none_next [] i d below is at = absurd (omega (arith, below))
none_next (x ∷ xs) zero d below is at = ap (λ (y : Option ℕ). y ∷ []) at
none_next (x ∷ xs) (suc i) d below is at =
    ap (λ (y : Option ℕ). y ∷ take (suc i) xs) (ap (λ (ys : List (Option ℕ)). get_or ys 0 None) is)
    ∙ ap (λ (ys : List (Option ℕ)). None ∷ ys) (none_next xs i d (omega (arith, below)) (ap (λ (ys : List (Option ℕ)). drop 1 ys) is) at)

pub none_more : (xs : List (Option ℕ)) (i : ℕ) (d : Option ℕ) → i < length xs → take i xs ≡ replicate i None → get_or xs i d ≡ None → take (i + 1) xs ≡ replicate (i + 1) None
none_more xs i d below is at =
    let next : suc i ≡ i + 1 = omega arith in
    subst (λ (n : ℕ). take n xs ≡ replicate n None) next (none_next xs i d below is at)
