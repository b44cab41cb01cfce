-- What a seat may say of the locked value. A value has a history, a list of entries with the number of the seat that
-- made each, and a tally for each number of a seat.
use Rattle.std.specs.Prelude.{◌≡◌, ◌≢◌, ℕ, ◌+◌, ◌<◌, ◌^◌, ◌==◌, List, [], ◌∷◌, ◌++◌, map, length, if◌then◌else◌}
use Rattle.tv_seat.specs.declared.views.Claim.{Claim}

module _ {E : Type 0} where
  -- the entries of the seat n, each behind its place, where the first place is k
  abbrev pub entries_from : ℕ → ℕ → List (E × ℕ) → List (ℕ × E)
  entries_from n k [] = []
  entries_from n k (x ∷ xs) = if x.1 == n then (k, x.0) ∷ entries_from n (k + 1) xs else entries_from n (k + 1) xs

  -- the entries of the seat n, each behind its place in the history
  abbrev pub entries_of_seat : ℕ → List (E × ℕ) → List (ℕ × E)
  entries_of_seat n history = entries_from n 0 history

  -- the entries, each made by the seat n
  abbrev pub made_by : ℕ → List E → List (E × ℕ)
  made_by n entries = map (λ (e : E). (e, n)) entries

  -- the history begins with this front
  abbrev pub StartsWith : List (E × ℕ) → List (E × ℕ) → Type 0
  StartsWith history front = (later : List (E × ℕ)) × (history ≡ front ++ later)

module _ {T E : Type 0} (history : T → List (E × ℕ)) (tally : T → ℕ → ℕ) where
  -- what the seat says is so of the value x: its history begins with what the seat saw, the seat's entries are those of
  -- its number, and so is its tally
  abbrev pub IsClaim : T → Claim E → Type 0
  IsClaim x c = StartsWith (history x) c.seen × (entries_of_seat c.number (history x) ≡ c.mine) × (tally x c.number ≡ c.tally)

  -- all that the seat n may say of the value x
  abbrev pub claim_of : ℕ → T → Claim E
  claim_of n x = record { number = n; seen = history x; mine = entries_of_seat n (history x); tally = tally x n }

  -- the value went from x to y by entries of the seat n alone, which left the tallies of the others, and there are fewer
  -- than 2^64 entries
  pub record Grew (n : ℕ) (x y : T) : Type 0 where
    pub entries : List E
    pub grown : history y ≡ history x ++ made_by n entries
    pub few : length (history y) < 2 ^ 64
    pub others : (k : ℕ) → k ≢ n → tally y k ≡ tally x k
