-- Calls whose failures an object tells beforehand.
use Rattle.std.specs.Prelude.{ℕ, ◌+◌, ◌-◌, ◌^◌, ◌<◌, ◌≤◌, ◌≡◌, ◌⊎◌, Bool, true, false, List, Option, Some, None, min, Contains}

-- the calls of an object: how many were made so far, and the numbers, from 0, of those that fail
pub record Calls : Type 0 where
  pub made : ℕ
  pub failing : List ℕ

-- a count of 64 bits after one more; it stands still at its last value
abbrev pub next_count : ℕ → ℕ
next_count count = min (count + 1) (2 ^ 64 - 1)

-- the calls after one more
abbrev pub with_call : Calls → Calls
with_call calls = record { made = next_count calls.made; failing = calls.failing }

-- the next call is among those that fail, or the count of calls stands at its last value
abbrev pub IsFailing : Calls → Type 0
IsFailing calls = Contains calls.failing calls.made ⊎ (2 ^ 64 - 1 ≤ calls.made)

-- a call failed exactly where it was due to, and its object counted one fault then and none otherwise
abbrev pub Foretold : Type 0 → ℕ → ℕ → Bool → Type 0
Foretold due before now false = (¬ due) × (now ≡ before)
Foretold due before now true = due × (now ≡ next_count before)

-- the calls after so many more, their number not bounded
abbrev pub calls_ahead : Calls → ℕ → Calls
calls_ahead calls ahead = record { made = calls.made + ahead; failing = calls.failing }

-- of the next so many calls one fails
pub record FailsWithin (calls : Calls) (count : ℕ) : Type 0 where
  pub ahead : ℕ
  pub within : ahead < count
  pub fails : IsFailing (calls_ahead calls ahead)

-- where calls are told, a call failed exactly by its number
abbrev pub FollowsCalls : Option Calls → ℕ → ℕ → Bool → Type 0
FollowsCalls None before now fails = Unit {0}
FollowsCalls (Some calls) before now fails = Foretold (IsFailing calls) before now fails

-- no call was made yet, where calls are told
abbrev pub IsUncalled : Option Calls → Type 0
IsUncalled None = Unit {0}
IsUncalled (Some calls) = calls.made ≡ 0

-- calls of an object with bounded room: bytes that a sink takes in all, or sectors of a disk at most
pub record RoomScript : Type 0 where
  pub calls : Calls
  pub room : ℕ

-- the script after one more call
abbrev pub after_call : RoomScript → RoomScript
after_call script = record { calls = with_call script.calls; room = script.room }

-- the calls of a script, where it is told
abbrev pub calls_of : Option RoomScript → Option Calls
calls_of None = None
calls_of (Some script) = Some script.calls
