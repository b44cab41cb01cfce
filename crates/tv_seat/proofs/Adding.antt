-- What an amount more does to the sums of the worked example.
use Rattle.std.proofs.Common.{◌≡◌, ◌≢◌, ℕ, zero, suc, ◌+◌, ◌*◌, ◌<◌, ◌≤◌, ◌==◌, Bool, true, false, List, [], ◌∷◌, ◌++◌, length, if◌then◌else◌, refl, sym, ap, ◌∙◌, subst, append-nil, eq-eqb, ne_eqb, arith}
use Rattle.std.proofs.Math.Nat.{mul-add}
use Rattle.std.specs.Prelude.{MatchBool, Contains}
use Rattle.tv_seat.specs.Claims.{Grew}
use Rattle.tv_seat.specs.Desk.{total, total_of}
use Rattle.tv_seat.specs.Seats.{SeatState, IsEverySeat}

pub total_snoc : (xs : List (ℕ × ℕ)) (amount n : ℕ) → total (xs ++ (amount, n) ∷ []) ≡ total xs + amount
total_snoc [] amount n = omega arith
total_snoc (x ∷ xs) amount n = let h = total_snoc xs amount n in omega arith

total_of-snoc : (k : ℕ) (xs : List (ℕ × ℕ)) (amount n : ℕ) → total_of k (xs ++ (amount, n) ∷ []) ≡ total_of k xs + (if n == k then amount else 0)
total_of-snoc k [] amount n = let a : ℕ = if n == k then amount else 0 in let e : a + 0 ≡ 0 + a = omega arith in e
total_of-snoc k (x ∷ xs) amount n =
    let h = total_of-snoc k xs amount n in
    let a : ℕ = if n == k then amount else 0 in
    let b : ℕ = if x.1 == k then x.0 else 0 in
    let t : ℕ = total_of k xs in
    let u : ℕ = total_of k (xs ++ (amount, n) ∷ []) in
    let same : u ≡ t + a = h in
    let e : b + u ≡ (b + t) + a = omega arith in e

pub total_of_mine : (xs : List (ℕ × ℕ)) (amount n : ℕ) → total_of n (xs ++ (amount, n) ∷ []) ≡ total_of n xs + amount
total_of_mine xs amount n = total_of-snoc n xs amount n ∙ ap (λ (b : Bool). total_of n xs + (if b then amount else 0)) (eq-eqb n n refl)

total_of_else : (k : ℕ) (xs : List (ℕ × ℕ)) (amount n : ℕ) → n ≢ k → total_of k (xs ++ (amount, n) ∷ []) ≡ total_of k xs
total_of_else k xs amount n ne =
    let e : total_of k xs + 0 ≡ total_of k xs = omega arith in
    total_of-snoc k xs amount n ∙ ap (λ (b : Bool). total_of k xs + (if b then amount else 0)) (ne_eqb n k ne) ∙ e

-- an amount of the seat n at the end is one entry of that seat, and none is none
grown_by : (b : Bool) (n amount : ℕ) (xs ys : List (ℕ × ℕ)) → length ys ≤ 4294967296 → MatchBool b (ys ≡ xs ++ (amount, n) ∷ []) (ys ≡ xs)
    → Grew (λ (d : List (ℕ × ℕ)). d) (λ (d : List (ℕ × ℕ)) (k : ℕ). total_of k d) n xs ys
grown_by true n amount xs ys few e = record {
  entries = amount ∷ [];
  grown = e;
  few = omega arith;
  others = λ k ne. ap (λ (d : List (ℕ × ℕ)). total_of k d) e ∙ total_of_else k xs amount n (λ same. ne (sym same));
}
grown_by false n amount xs ys few e = record {
  entries = [];
  grown = e ∙ sym (append-nil xs);
  few = omega arith;
  others = λ k ne. ap (λ (d : List (ℕ × ℕ)). total_of k d) e;
}

pub grown_by_own : (b : Bool) (m n amount : ℕ) (xs ys : List (ℕ × ℕ)) → m ≡ n → length ys ≤ 4294967296 → MatchBool b (ys ≡ xs ++ (amount, m) ∷ []) (ys ≡ xs)
    → Grew (λ (d : List (ℕ × ℕ)). d) (λ (d : List (ℕ × ℕ)) (k : ℕ). total_of k d) n xs ys
grown_by_own b m n amount xs ys same few e =
    subst (λ (k : ℕ). Grew (λ (d : List (ℕ × ℕ)). d) (λ (d : List (ℕ × ℕ)) (k : ℕ). total_of k d) k xs ys) same (grown_by b m amount xs ys few e)

-- the tally after one more round
pub tally_grown : (b : Bool) (m n amount t rounds : ℕ) (xs ys : List (ℕ × ℕ)) → b ≡ true → m ≡ n → MatchBool b (ys ≡ xs ++ (amount, m) ∷ []) (ys ≡ xs)
    → total_of n xs ≡ t + amount * rounds → total_of n ys ≡ t + amount * (rounds + 1)
tally_grown b m n amount t rounds xs ys took same added so_far =
    let here : ys ≡ xs ++ (amount, m) ∷ [] = subst (λ (c : Bool). MatchBool c (ys ≡ xs ++ (amount, m) ∷ []) (ys ≡ xs)) took added in
    let one = ap (λ (zs : List (ℕ × ℕ)). total_of n zs) (here ∙ ap (λ (k : ℕ). xs ++ (amount, k) ∷ []) same) ∙ total_of_mine xs amount n in
    let more : amount * (rounds + 1) ≡ amount * rounds + amount * 1 = mul-add amount rounds 1 in
    omega arith

two_numbers : (made a b : ℕ) → made ≡ 2 → a ≡ 1 → b ≡ 2 → (k : ℕ) → k < made → Contains (a ∷ b ∷ []) (k + 1)
two_numbers made a b two is_one is_two zero below = (0, omega arith, is_one)
two_numbers made a b two is_one is_two (suc zero) below = (1, omega arith, is_two)
two_numbers made a b two is_one is_two (suc (suc k)) below = absurd (omega arith)

-- a first seat and the two that were split from it are all
module _ {T E : Type 0} where
  pub every_of_two : (all : List (SeatState T E)) (first one two : SeatState T E) → all ≡ first ∷ one ∷ two ∷ []
      → first.own.number ≡ 0 → first.made ≡ 2 → one.own.number ≡ 1 → two.own.number ≡ 2 → IsEverySeat all
  every_of_two all first one two e zeroth made is_one is_two =
      subst (λ (ss : List (SeatState T E)). IsEverySeat ss) (sym e) (zeroth, two_numbers first.made one.own.number two.own.number made is_one is_two)
