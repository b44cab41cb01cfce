-- What each kind of step tells its caller, of the seat before and after it.
use Rattle.std.specs.Prelude.{◌≡◌, ◌≢◌, ℕ, ◌+◌, ◌%◌, ◌^◌, List, [], ◌∷◌, ◌++◌, length, Option, Some}
use Rattle.atomic_table.specs.Table.{Me, Step}
use Rattle.tv_seat.specs.declared.views.Stage.TheVariants.{Idle, Waits, Holds}
use Rattle.tv_seat.specs.declared.views.View.{View}
use Rattle.tv_seat.specs.Claims.{IsClaim, claim_of}
use Rattle.tv_seat.specs.Rule.{newcomer}

module _ {T E : Type 0} where
  -- draw: the number found is the seat's ticket from now on
  abbrev pub Drew : Step (Option T) → Me (Option T) (View T E) → ℕ → Me (Option T) (View T E) → Type 0
  Drew s before found after = (t : ℕ) × (t % 2 ^ 64 ≡ found) × (after ≡ (record before.0 { stage = Waits t }, before.1))

  -- look: where the number found is the seat's ticket, the seat holds the value; else nothing changed
  abbrev pub Looked : Step (Option T) → Me (Option T) (View T E) → ℕ → Me (Option T) (View T E) → Type 0
  Looked s before found after = (t : ℕ) → before.0.stage ≡ Waits t
      → (found ≡ t % 2 ^ 64 → (x : T) × (after ≡ (record before.0 { stage = Holds t x }, (0, Some x) ∷ [])))
      × (found ≢ t % 2 ^ 64 → after ≡ before)

  -- pass: the seat has neither a ticket nor the value
  abbrev pub Passed : Step (Option T) → Me (Option T) (View T E) → ℕ → Me (Option T) (View T E) → Type 0
  Passed s before found after = after ≡ (record before.0 { stage = Idle }, [])

  -- split: the seat made one more seat, whose number is how many it made, and which saw as much
  abbrev pub made_one_more : View T E → View T E
  made_one_more v = record v { made = v.made + 1 }

  abbrev pub one_more : View T E → View T E
  one_more v = newcomer (v.made + 1) v.own.seen

  -- join: the seat took another in, with what that one may say
  abbrev pub took_in : View T E → View T E → View T E
  took_in v w = record v { others = v.others ++ w.own ∷ [] }

module _ {T E : Type 0} (history : T → List (E × ℕ)) (tally : T → ℕ → ℕ) where
  -- read: the number found is how many entries the value's history has, which the seat has seen now; and what the seat
  -- may say is so of that value
  abbrev pub ReadCount : Step (Option T) → Me (Option T) (View T E) → ℕ → Me (Option T) (View T E) → Type 0
  ReadCount s before found after = (t : ℕ) (x : T) → before.0.stage ≡ Holds t x
      → (found ≡ length (history x)) × IsClaim history tally x before.0.own
      × (after ≡ (record before.0 { own = record before.0.own { seen = history x } }, before.1))

  -- add: the value that lies in the slot now is the one that the count stands for
  abbrev pub Added : Step (Option T) → Me (Option T) (View T E) → ℕ → Me (Option T) (View T E) → Type 0
  Added s before found after = (t : ℕ) (x y : T) → before.0.stage ≡ Holds t x → before.1 ≡ (0, Some y) ∷ []
      → after ≡ (record before.0 { stage = Holds t y; own = claim_of history tally before.0.own.number y }, before.1)
