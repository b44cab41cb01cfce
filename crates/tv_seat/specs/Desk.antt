-- The locked value of the worked example in the tests: a list of amounts, each with the number of the seat that added it.
use Rattle.std.specs.Prelude.{◌≡◌, ℕ, ◌+◌, ◌==◌, List, [], ◌∷◌, if◌then◌else◌, None}
use Rattle.atomic_table.specs.Seated.{TableId}
use Rattle.tv_seat.specs.Seats.{SeatState}

-- all amounts, added up
abbrev pub total : List (ℕ × ℕ) → ℕ
total [] = 0
total (x ∷ xs) = x.0 + total xs

-- those of the seat n, added up
abbrev pub total_of : ℕ → List (ℕ × ℕ) → ℕ
total_of n [] = 0
total_of n (x ∷ xs) = (if x.1 == n then x.0 else 0) + total_of n xs

-- a seat of the lock is out, has this number, and added so much
abbrev pub IsDone : {T E : Type 0} → TableId → ℕ → ℕ → SeatState T E → Type 0
IsDone lock number amount seat = (seat.lock ≡ lock) × (seat.inside ≡ None) × (seat.own.number ≡ number) × (seat.own.tally ≡ amount)
