-- What an object outside the program tells of itself: its count of faults always, and what it holds where it can.
use Rattle.std.specs.Prelude.{ℕ, ◌+◌, ◌-◌, ◌*◌, ◌<◌, ◌≤◌, ◌≡◌, ◌⊎◌, ◌++◌, Bool, List, [], Option, Some, None, Result, Ok, Err, take, length, min, IsSome}
use Rattle.std.specs.Option.{option_map}
use Rattle.tv_out.specs.declared.Short.{Short}
use Rattle.tv_out.specs.Faults.{NameFaults}
use Rattle.tv_out.specs.Calls.{Calls, RoomScript, IsFailing, FailsWithin, IsUncalled, calls_ahead, Foretold, next_count, calls_of}
use Rattle.tv_out.specs.Disk.{ToldDisk}
use Rattle.tv_out.specs.Shelf.{Named}

-- the bytes of each name, where they are told; a name without a file has None
abbrev pub Files : Type 0
Files = Option (List ℕ → Option (List ℕ))

-- what a sink tells: the bytes that were put so far, its faults, and how its puts will fail
pub record ToldSink : Type 0 where
  pub bytes : Option (List ℕ)
  pub faults : ℕ
  pub script : Option RoomScript

-- what a source tells: the bytes that are left in it, its faults, and how its calls will fail
pub record ToldSource : Type 0 where
  pub left : Option (List ℕ)
  pub faults : ℕ
  pub calls : Option Calls

-- what an entropy object tells: the bytes that were taken so far, those that are left in it, its faults, and how its
-- calls will fail
pub record ToldEntropy : Type 0 where
  pub bytes : Option (List ℕ)
  pub left : Option (List ℕ)
  pub faults : ℕ
  pub calls : Option Calls

-- how the calls of a store will fail, and the objects that it is still to give, in order, each as it is opened
pub record StoreScript : Type 0 where
  pub calls : Calls
  pub disks : List (Named ToldDisk)
  pub sinks : List (Named ToldSink)
  pub sources : List (Named ToldSource)

-- what a store tells
pub record ToldStore : Type 0 where
  pub files : Files
  pub faults : ℕ
  pub name_faults : Option NameFaults
  pub script : Option StoreScript

-- the told bytes with these bytes after them
abbrev pub appended : Option (List ℕ) → List ℕ → Option (List ℕ)
appended told bytes = option_map (λ held. held ++ bytes) told

-- the bytes of a piece that went out, by the answer to its put
abbrev pub gone : {T : Type 0} → Result T Short → List ℕ → List ℕ
gone (Ok _) bytes = bytes
gone (Err short) bytes = take short.taken bytes

-- the file of this name has these bytes, where they are told
abbrev pub Holds : Files → List ℕ → List ℕ → Type 0
Holds None name bytes = Unit {0}
Holds (Some file_of) name bytes = file_of name ≡ Some bytes

-- the file of this name has more bytes than this
pub record IsLonger (files : Files) (name : List ℕ) (most : ℕ) : Type 0 where
  pub bytes : List ℕ
  pub held : Holds files name bytes
  pub longer : most < length bytes

-- of these bytes a front went out: it stands after what the sink told before
pub record IsCut (bytes : List ℕ) (old new : Option (List ℕ)) : Type 0 where
  pub front : List ℕ
  pub rest : List ℕ
  pub parts : bytes ≡ front ++ rest
  pub told : new ≡ appended old front

-- no put failed, where a sink tells which do: then it goes on to tell, and counted no fault
pub record IsSteady (old new : ToldSink) : Type 0 where
  pub tells : IsSome old.script → IsSome new.script
  pub sound : IsSome old.script → new.faults ≡ old.faults

-- all of these bytes went out
pub record IsAllOut (bytes : List ℕ) (old new : ToldSink) : Type 0 where
  pub told : new.bytes ≡ appended old.bytes bytes
  pub steady : IsSteady old new

-- these bytes stand before the rest, where it is told
abbrev pub prepended : List ℕ → Option (List ℕ) → Option (List ℕ)
prepended bytes told = option_map (λ rest. bytes ++ rest) told

-- nothing is left, where that is told
abbrev pub IsSpent : Option (List ℕ) → Type 0
IsSpent None = Unit {0}
IsSpent (Some held) = held ≡ []

-- fewer bytes are left than so many, and that is told
abbrev pub IsShortOf : Option (List ℕ) → ℕ → Type 0
IsShortOf None asked = ⊥
IsShortOf (Some held) asked = length held < asked

-- a put by a script: after so many bytes a piece of so many went out whole, since it was no call that fails and there
-- was room
pub record IsPutWhole (script : RoomScript) (held asked : ℕ) : Type 0 where
  pub works : ¬ (IsFailing script.calls)
  pub fits : held + asked ≤ script.room

-- or it fell short: the call is one that fails and took nothing, or the piece passes the room and what fits went out
abbrev pub IsPutShort : RoomScript → ℕ → ℕ → ℕ → Type 0
IsPutShort script held asked taken =
    (IsFailing script.calls × (taken ≡ 0)) ⊎ ((script.room < held + asked) × (taken ≡ script.room - held) × ¬ (IsFailing script.calls))

-- where a script is told, a put is one or the other, and the sink counts a fault where it fell short; the room is spoken of
-- where the bytes are told too
abbrev pub FollowsPut : {T : Type 0} → Option RoomScript → Option (List ℕ) → ℕ → ℕ → ℕ → Result T Short → Type 0
FollowsPut None told asked before now result = Unit {0}
FollowsPut (Some script) None asked before now (Ok _) = (¬ (IsFailing script.calls)) × (now ≡ before)
FollowsPut (Some script) None asked before now (Err short) = now ≡ next_count before
FollowsPut (Some script) (Some held) asked before now (Ok _) = IsPutWhole script (length held) asked × (now ≡ before)
FollowsPut (Some script) (Some held) asked before now (Err short) =
    IsPutShort script (length held) asked short.taken × (now ≡ next_count before)

-- puts of so many bytes in all went out whole by a script: no call failed that these bytes needed, since a put takes
-- 4096 bytes at most, and there was room
pub record IsAllTaken (script : RoomScript) (held asked : ℕ) : Type 0 where
  pub works : (ahead : ℕ) → ahead * 4096 < asked → ¬ (IsFailing (calls_ahead script.calls ahead))
  pub fits : held + asked ≤ script.room

-- the same, where a script and the bytes are told
abbrev pub WasRoom : Option RoomScript → Option (List ℕ) → ℕ → Type 0
WasRoom None told asked = Unit {0}
WasRoom (Some script) None asked = Unit {0}
WasRoom (Some script) (Some held) asked = IsAllTaken script (length held) asked

-- and they fell short: one of so many calls fails, as a put has a byte at least, or there was no room
abbrev pub FellShort : Option RoomScript → Option (List ℕ) → ℕ → Type 0
FellShort None told asked = Unit {0}
FellShort (Some script) None asked = Unit {0}
FellShort (Some script) (Some held) asked = FailsWithin script.calls asked ⊎ (script.room < length held + asked)

-- a take gave as much as is left and fits, where that is told
abbrev pub TakesAll : Option (List ℕ) → ℕ → ℕ → Type 0
TakesAll None asked count = Unit {0}
TakesAll (Some held) asked count = count ≡ min asked (length held)

-- where calls are told, a take failed exactly by its number, and gave as much as is left and fits
abbrev pub FollowsTake : Option Calls → Option (List ℕ) → ℕ → ℕ → ℕ → {E : Type 0} → Result ℕ E → Type 0
FollowsTake None left asked before now result = Unit {0}
FollowsTake (Some calls) left asked before now (Ok count) =
    (¬ (IsFailing calls)) × (now ≡ before) × TakesAll left asked count
FollowsTake (Some calls) left asked before now (Err _) = IsFailing calls × (now ≡ next_count before)

-- where calls are told, a fill failed exactly by its number, or since too few bytes were left
abbrev pub FollowsFill : Option Calls → Option (List ℕ) → ℕ → ℕ → ℕ → Bool → Type 0
FollowsFill None left asked before now fails = Unit {0}
FollowsFill (Some calls) left asked before now fails =
    Foretold (IsFailing calls ⊎ IsShortOf left asked) before now fails

-- with a script the bytes are told too
abbrev pub TellsBytes : Option RoomScript → Option (List ℕ) → Type 0
TellsBytes None told = Unit {0}
TellsBytes (Some script) told = IsSome told

-- a sink as it is created
pub record IsCreatedSink (sink : ToldSink) : Type 0 where
  pub faults : sink.faults ≡ 0
  pub bytes : IsSpent sink.bytes
  pub calls : IsUncalled (calls_of sink.script)
  pub tells : TellsBytes sink.script sink.bytes

-- a source as it is opened
pub record IsOpenedSource (source : ToldSource) : Type 0 where
  pub faults : source.faults ≡ 0
  pub calls : IsUncalled source.calls
