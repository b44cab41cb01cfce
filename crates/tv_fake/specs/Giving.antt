-- A call on a name of a store in memory.
use Rattle.std.specs.Prelude.{◌≡◌, ◌⊎◌, ℕ, List, Bool, true, false, Option, None, Some, Result, Ok, Err, Contains}
use Rattle.tv_out.specs.Calls.{Calls, IsFailing}
use Rattle.tv_fake.specs.declared.tally.Tally.{Tally}
use Rattle.tv_fake.specs.Tally.{faults_by_name, IsRaised}

-- the call fails by its number, or since the name isn't in the list
abbrev pub IsRefused : Calls → Tally → List ℕ → Type 0
IsRefused calls tally name = IsFailing calls ⊎ ¬ (Contains (faults_by_name tally).names name)

-- whether a call goes on, by the answer: exactly where it isn't refused, and a refusal is a fault
abbrev pub IsAdmission : Calls → List ℕ → Tally → Tally → Bool → Type 0
IsAdmission calls name before now true = (¬ (IsRefused calls before name)) × (now ≡ before)
IsAdmission calls name before now false = IsRefused calls before name × IsRaised name before now

-- what was given, by the answer: exactly where the call isn't refused and an object of the name was there
abbrev pub IsGift : {T E : Type 0} → Calls → List ℕ → Tally → Tally → Option T → Result T E → Type 0
IsGift calls name before now first (Ok object) = (¬ (IsRefused calls before name)) × (first ≡ Some object) × (now ≡ before)
IsGift calls name before now first (Err _) = (IsRefused calls before name ⊎ (first ≡ None)) × IsRaised name before now
