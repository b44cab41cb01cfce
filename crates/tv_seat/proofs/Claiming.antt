-- What a seat says of a value stays so while others add entries.
use Rattle.std.proofs.Common.{◌≡◌, ◌≢◌, ℕ, suc, ◌+◌, ◌==◌, Bool, true, false, List, [], ◌∷◌, ◌++◌, length, if◌then◌else◌, refl, sym, ap, ◌∙◌, subst, append_assoc, append-nil, ne_eqb, arith}
use Rattle.tv_seat.specs.declared.views.Claim.{Claim}
use Rattle.tv_seat.specs.Claims.{entries_from, entries_of_seat, made_by, StartsWith, IsClaim, claim_of, Grew}
use Rattle.tv_seat.specs.Rule.{Each}

module _ {A : Type 0} where
  pub each_map : (P Q : A → Type 0) → ((a : A) → P a → Q a) → (xs : List A) → Each P xs → Each Q xs
  each_map P Q f [] h = tt
  each_map P Q f (x ∷ xs) h = (f x h.0, each_map P Q f xs h.1)

  pub each_append : (P : A → Type 0) (xs ys : List A) → Each P xs → Each P ys → Each P (xs ++ ys)
  each_append P [] ys h g = g
  each_append P (x ∷ xs) ys h g = (h.0, each_append P xs ys h.1 g)

module _ {E : Type 0} where
  pub entries_from-append : (n k : ℕ) (xs ys : List (E × ℕ)) → entries_from n k (xs ++ ys) ≡ entries_from n k xs ++ entries_from n (k + length xs) ys
  entries_from-append n k [] ys = let e : k ≡ k + 0 = omega arith in ap (λ (j : ℕ). entries_from n j ys) e
  entries_from-append n k (x ∷ xs) ys =
      let e : (k + 1) + length xs ≡ k + suc (length xs) = omega arith in
      let h : entries_from n (k + 1) (xs ++ ys) ≡ entries_from n (k + 1) xs ++ entries_from n (k + suc (length xs)) ys =
      entries_from-append n (k + 1) xs ys ∙ ap (λ (j : ℕ). entries_from n (k + 1) xs ++ entries_from n j ys) e in
      elim (x.1 == n) as (λ b. (if b then (k, x.0) ∷ entries_from n (k + 1) (xs ++ ys) else entries_from n (k + 1) (xs ++ ys))
      ≡ (if b then (k, x.0) ∷ entries_from n (k + 1) xs else entries_from n (k + 1) xs) ++ entries_from n (k + suc (length xs)) ys)
      [ true ↦ ap (λ (zs : List (ℕ × E)). (k, x.0) ∷ zs) h | false ↦ h ]

  pub entries_from-others : (n m k : ℕ) (es : List E) → n ≢ m → entries_from n k (made_by m es) ≡ []
  entries_from-others n m k [] ne = refl
  entries_from-others n m k (e ∷ es) ne =
      subst (λ (b : Bool). (if b then (k, e) ∷ entries_from n (k + 1) (made_by m es) else entries_from n (k + 1) (made_by m es)) ≡ [])
      (sym (ne_eqb m n (λ same. ne (sym same)))) (entries_from-others n m (k + 1) es ne)

  pub starts_longer : (xs more front : List (E × ℕ)) → StartsWith xs front → StartsWith (xs ++ more) front
  starts_longer xs more front h = (h.0 ++ more, ap (λ (zs : List (E × ℕ)). zs ++ more) h.1 ∙ append_assoc front h.0 more)

module _ {T E : Type 0} (history : T → List (E × ℕ)) (tally : T → ℕ → ℕ) where
  pub entries_kept : (k n : ℕ) (x y : T) → k ≢ n → Grew history tally n x y → entries_of_seat k (history y) ≡ entries_of_seat k (history x)
  entries_kept k n x y ne g =
      ap (λ (h : List (E × ℕ)). entries_of_seat k h) g.grown ∙ entries_from-append k 0 (history x) (made_by n g.entries)
      ∙ ap (λ (zs : List (ℕ × E)). entries_from k 0 (history x) ++ zs) (entries_from-others k n (0 + length (history x)) g.entries ne)
      ∙ append-nil (entries_from k 0 (history x))

  pub claim_kept : (n : ℕ) (x y : T) → Grew history tally n x y → (c : Claim E) → c.number ≢ n → IsClaim history tally x c → IsClaim history tally y c
  claim_kept n x y g c ne h =
      let P : List (E × ℕ) → Type 0 = λ hs. StartsWith hs c.seen in (
        subst P (sym g.grown) (starts_longer (history x) (made_by n g.entries) c.seen h.0),
        entries_kept c.number n x y ne g ∙ h.1,
        g.others c.number ne ∙ h.2,
      )

  pub whole_claim : (n : ℕ) (x : T) → IsClaim history tally x (claim_of history tally n x)
  whole_claim n x = (([], sym (append-nil (history x))), refl, refl)
