-- The steps of a replay.
use Rattle.std.specs.Prelude.{◌≡◌, ◌≢◌, ℕ, zero, suc, ◌-◌, ◌<◌, ◌≤◌, List, [], ◌∷◌, Option, Some, None, Bool, true, false, Result, Ok, Err, ⊤, replicate}
use Rattle.tv_base.specs.declared.Why.{Why}
use Rattle.tv_journal.specs.declared.Entry.{Entry}
use Rattle.tv_journal.specs.Entries.{Record}
use Rattle.tv_journal.specs.Grammar.{cause_byte}
use Rattle.tv_journal.specs.Journals.{next_record}
use Rattle.tv_spec.specs.Legal.{IsLegal, after}
use Rattle.tv_spec.specs.Step.{Move, made, ended, Can}
use Rattle.tv_model.specs.declared.fault.StepFault.{StepFault}
use Rattle.tv_model.specs.declared.fault.StepFault.TheVariants as step_fault
use Rattle.tv_model.specs.Moves.{AreMade}
use Rattle.tv_model.specs.MonitorState.{MonitorState, setup_in, state_in}

-- an entry was made a few times, and may not stand once more
pub record StopsAmong (old : MonitorState) (entry : Entry) (count : ℕ) : Type 0 where
  pub times : ℕ
  pub few : times < count
  pub legal : IsLegal (setup_in old) (state_in old) (replicate times (made entry))
  pub cannot : ¬ Can (setup_in old) (after (setup_in old) (state_in old) (replicate times (made entry))) (made entry)

-- an entry so often, by the answer to it
abbrev pub StepsOften : MonitorState → MonitorState → Entry → ℕ → Result ⊤ StepFault → Type 0
StepsOften old new entry count (Ok _) = AreMade old new (replicate count (made entry))
StepsOften old new entry count (Err step_fault.Illegal) = StopsAmong old entry count
StepsOften old new entry count (Err step_fault.Memory) = Unit {0}

-- an answer that says how many entries were made, without that number, and with no other than this one
abbrev pub without_count : Result ℕ StepFault → Result ⊤ StepFault
without_count (Ok count) = Ok tt
without_count (Err fault) = Err fault

abbrev pub HasCount : ℕ → Result ℕ StepFault → Type 0
HasCount count (Ok n) = n ≡ count
HasCount count (Err fault) = Unit {0}

-- the entries of the record behind so many, by the answer to them: how many they are, or why one of them was not made
pub record StepsNext (records : List Record) (at later : ℕ) (old new : MonitorState) (result : Result ℕ StepFault) : Type 0 where
  pub entry : Entry
  pub count : ℕ
  pub next : ◌≡◌ {A = Option (Entry × ℕ) × ℕ} (Some (entry, count), later) (next_record records at)
  pub counted : HasCount count result
  pub steps : StepsOften old new entry count (without_count result)

-- an outer end that is to come has one of the causes that no entry makes; it is told with the number of entries that
-- still come before it
abbrev pub HasCause : Option (ℕ × Why) → Type 0
HasCause None = Unit {0}
HasCause (Some (left, cause)) = cause_byte cause ≢ None

-- the outer end where no entry comes before it, and what is to come then
abbrev pub due : Option (ℕ × Why) → List Move
due None = []
due (Some (zero, cause)) = ended cause ∷ []
due (Some (suc n, cause)) = []

abbrev pub not_due : Option (ℕ × Why) → Option (ℕ × Why)
not_due None = None
not_due (Some (zero, cause)) = None
not_due (Some (suc n, cause)) = Some (suc n, cause)

-- the outer end is due, and may not stand
pub record IsDueTooLate (old : MonitorState) (outer : Option (ℕ × Why)) : Type 0 where
  pub cause : Why
  pub due : outer ≡ Some (0, cause)
  pub cannot : ¬ Can (setup_in old) (state_in old) (ended cause)

-- an outer end that is due, by the answer to it
abbrev pub EndsDue : MonitorState → MonitorState → Option (ℕ × Why) → Option (ℕ × Why) → Bool → Type 0
EndsDue old new outer later true = AreMade old new (due outer) × (later ≡ not_due outer)
EndsDue old new outer later false = IsDueTooLate old outer

-- so many entries come before it, and were made
abbrev pub HasLeft : ℕ → Option (ℕ × Why) → Type 0
HasLeft count None = Unit {0}
HasLeft count (Some (left, cause)) = count ≤ left

abbrev pub closer : ℕ → Option (ℕ × Why) → Option (ℕ × Why)
closer count None = None
closer count (Some (left, cause)) = Some (left - count, cause)
