-- The writer of a journal file, which puts its bytes in pieces.
use Rattle.std.specs.Prelude.{◌≡◌, ◌⊎◌, ℕ, ◌+◌, ◌-◌, ◌*◌, ◌^◌, ◌<◌, ◌≤◌, ◌++◌, List, length, Option, Some, None, Result, Ok, Err, ⊤}
use Rattle.tv_base.specs.declared.Why.{Why}
use Rattle.tv_out.specs.Calls.{RoomScript, IsFailing, calls_ahead}
use Rattle.tv_out.specs.Told.{ToldSink, appended, IsCut, IsSteady, WasRoom, FellShort}
use Rattle.tv_journal.specs.declared.Entry.{Entry}
use Rattle.tv_journal.specs.Grammar.{SpellsJournal}

-- so many calls more were made, or their count came to its last value
abbrev pub IsMadeOn : ℕ → ℕ → ℕ → Type 0
IsMadeOn start calls now = (now ≡ start + calls) ⊎ ((2 ^ 64 - 1 ≤ start + calls) × (2 ^ 64 - 1 ≤ now))

-- a script after some puts of so many bytes in all, none of which failed; each had 1 to 4096 bytes
pub record IsLater (start now : RoomScript) (bytes : ℕ) : Type 0 where
  pub calls : ℕ
  pub few : calls ≤ bytes
  pub enough : bytes ≤ calls * 4096
  pub worked : (ahead : ℕ) → ahead < calls → ¬ (IsFailing (calls_ahead start.calls ahead))
  pub made : IsMadeOn start.calls.made calls now.calls.made
  pub failing : now.calls.failing ≡ start.calls.failing
  pub room : now.room ≡ start.room

-- the same, where a script is told
abbrev pub GoesOn : Option RoomScript → Option RoomScript → ℕ → Type 0
GoesOn None now bytes = Unit {0}
GoesOn (Some start) None bytes = ⊥
GoesOn (Some start) (Some now) bytes = IsLater start now bytes

-- of these bytes a front went out, and the rest waits in a piece
pub record IsWriting (written : List ℕ) (start now : ToldSink) (piece : List ℕ) : Type 0 where
  pub put : List ℕ
  pub parts : written ≡ put ++ piece
  pub told : now.bytes ≡ appended start.bytes put
  pub goes_on : GoesOn start.script now.script (length put)
  pub was_room : 0 < length put → WasRoom start.script start.bytes (length put)
  pub steady : IsSteady start now

-- all of these bytes went out, and no put failed
pub record IsAllPut (bytes : List ℕ) (old new : ToldSink) : Type 0 where
  pub told : new.bytes ≡ appended old.bytes bytes
  pub steady : IsSteady old new
  pub was_room : WasRoom old.script old.bytes (length bytes)

-- a front of these bytes went out, since the sink failed
pub record IsPartPut (bytes : List ℕ) (old new : ToldSink) : Type 0 where
  pub cut : IsCut bytes old.bytes new.bytes
  pub fell_short : FellShort old.script old.bytes (length bytes)

-- bytes more were written, wherever the writing began
abbrev pub WritesOn : List ℕ → ToldSink → List ℕ → ToldSink → List ℕ → Type 0
WritesOn more old piece_before new piece_after =
    (start : ToldSink) (written : List ℕ) → IsWriting written start old piece_before → IsWriting (written ++ more) start new piece_after

-- the writing ended with these bytes, of which a front went out
abbrev pub EndsIn : List ℕ → ToldSink → List ℕ → ToldSink → Type 0
EndsIn more old piece_before new =
    (start : ToldSink) (written : List ℕ) → IsWriting written start old piece_before → IsPartPut (written ++ more) start new

-- all of these bytes went out, or a front of them
abbrev pub PutGives : {E : Type 0} → Result ⊤ E → List ℕ → ToldSink → ToldSink → Type 0
PutGives (Ok _) bytes old new = IsAllPut bytes old new
PutGives (Err _) bytes old new = IsPartPut bytes old new

-- the journal's file went out so
pub record IsSaved {E : Type 0} (result : Result ⊤ E) (entries : List Entry) (outer : Option (ℕ × Why)) (old new : ToldSink) : Type 0 where
  pub bytes : List ℕ
  pub spells : SpellsJournal bytes entries outer
  pub gives : PutGives result bytes old new
