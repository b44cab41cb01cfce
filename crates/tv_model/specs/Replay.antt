-- What a replay of a journal answers.
use Rattle.std.specs.Prelude.{◌≡◌, ℕ, ◌+◌, ◌<◌, ◌≤◌, List, [], ◌∷◌, ◌++◌, Option, length, take}
use Rattle.tv_base.specs.declared.Why.{Why}
use Rattle.tv_journal.specs.declared.Entry.{Entry}
use Rattle.tv_journal.specs.Entries.{Record, entries_of, record_count, records_of}
use Rattle.tv_journal.specs.Journals.{JournalState}
use Rattle.tv_machine.specs.declared.machine.Machine.{Machine}
use Rattle.tv_spec.specs.Legal.{IsLegal, IsLegalRun, after, with_outer}
use Rattle.tv_spec.specs.Setup.{setup_of}
use Rattle.tv_spec.specs.State.{State, first_state}
use Rattle.tv_spec.specs.Step.{Move, made, ended, Can}
use Rattle.tv_model.specs.declared.replays.Replayed.{Replayed}
use Rattle.tv_model.specs.declared.replays.Replayed.TheVariants as replayed
use Rattle.tv_model.specs.Monitor.{status_of}

-- the state of a machine with an image after moves
abbrev pub state_after : Machine → List ℕ → List Move → State
state_after machine image moves = after (setup_of machine) (first_state machine image) moves

-- how many of the moves are entries
abbrev pub entry_count : List Move → ℕ
entry_count [] = 0
entry_count (made entry ∷ moves) = entry_count moves + 1
entry_count (ended cause ∷ moves) = entry_count moves

-- n records come before the record of the entry that has so many entries before it
pub record IsRecordOf (records : List Record) (place n : ℕ) : Type 0 where
  pub behind : length (entries_of (take n records)) ≤ place
  pub within : place < length (entries_of (take (n + 1) records))

-- n records come before a move that has so many of the entries before it
abbrev pub HasBefore : List Entry → ℕ → Move → ℕ → Type 0
HasBefore entries place (made entry) n = IsRecordOf (records_of entries) place n
HasBefore entries place (ended cause) n = n ≡ record_count (take place entries)

-- a legal front of the moves is followed by one that may not stand there, and n records come before that one
pub record IsFirstIllegal (machine : Machine) (image : List ℕ) (entries : List Entry) (outer : Option (ℕ × Why)) (n : ℕ) : Type 0 where
  pub front : List Move
  pub move : Move
  pub rest : List Move
  pub parts : with_outer entries outer ≡ front ++ move ∷ rest
  pub legal : IsLegal (setup_of machine) (first_state machine image) front
  pub cannot : ¬ Can (setup_of machine) (state_after machine image front) move
  pub number : HasBefore entries (entry_count front) move n

-- the run is legal, and its exit status is this one
pub record IsLegalWith (machine : Machine) (image : List ℕ) (entries : List Entry) (outer : Option (ℕ × Why)) (status : Option ℕ) : Type 0 where
  pub run : IsLegalRun machine image entries outer
  pub status_is : status ≡ status_of (state_after machine image (with_outer entries outer)).mode

-- a journal by the answer to its replay
abbrev pub ReplaysSo : Machine → List ℕ → JournalState → Replayed → Type 0
ReplaysSo machine image journal (replayed.Legal status) = IsLegalWith machine image journal.entries journal.outer status
ReplaysSo machine image journal (replayed.Illegal record_number) = IsFirstIllegal machine image journal.entries journal.outer record_number
