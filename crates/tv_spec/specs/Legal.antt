-- Legal runs of the in-process monitor.
use Rattle.std.specs.Prelude.{ℕ, ◌≤◌, List, [], ◌∷◌, ◌++◌, Option, Some, None, map, take, drop, length}
use Rattle.tv_base.specs.declared.Why.{Why}
use Rattle.tv_journal.specs.declared.Entry.{Entry}
use Rattle.tv_machine.specs.declared.machine.Machine.{Machine}
use Rattle.tv_spec.specs.Setup.{Setup, setup_of}
use Rattle.tv_spec.specs.State.{State, first_state}
use Rattle.tv_spec.specs.Step.{Move, made, ended, Can, done}

-- the state after moves
abbrev pub after : Setup → State → List Move → State
after setup s [] = s
after setup s (move ∷ moves) = after setup (done setup s move) moves

-- each move may stand where it stands
abbrev pub IsLegal : Setup → State → List Move → Type 0
IsLegal setup s [] = Unit {0}
IsLegal setup s (move ∷ moves) = Can setup s move × IsLegal setup (done setup s move) moves

-- entries with the outer end at its place
abbrev pub with_outer : List Entry → Option (ℕ × Why) → List Move
with_outer entries None = map made entries
with_outer entries (Some (place, cause)) = map made (take place entries) ++ ended cause ∷ map made (drop place entries)

-- an outer end stands after some of the entries
abbrev pub HasPlace : List Entry → Option (ℕ × Why) → Type 0
HasPlace entries None = Unit {0}
HasPlace entries (Some (place, cause)) = place ≤ length entries

-- entries with an outer end are a legal run of a machine with an image
pub record IsLegalRun (machine : Machine) (image : List ℕ) (entries : List Entry) (outer : Option (ℕ × Why)) : Type 0 where
  pub place : HasPlace entries outer
  pub legal : IsLegal (setup_of machine) (first_state machine image) (with_outer entries outer)
