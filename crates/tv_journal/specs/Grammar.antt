-- The journal file. Numbers are little-endian.
use Rattle.std.specs.Prelude.{◌≡◌, ◌≢◌, ℕ, ◌-◌, ◌^◌, ◌<◌, ◌≤◌, List, [], ◌∷◌, ◌++◌, Option, Some, None, codes, flat_map, length, take, drop, slice_get}
use Rattle.std.specs.List.{AllByRecursion}
use Rattle.std.specs.Int.{w16, w32, to_le_bytes}
use Rattle.tv_base.specs.declared.limits.TheConstants.{PIECE_BYTES}
use Rattle.tv_base.specs.declared.Why.{Why}
use Rattle.tv_base.specs.declared.Why.TheVariants as why
use Rattle.tv_items.specs.declared.action.Heard.{Heard}
use Rattle.tv_items.specs.declared.action.Heard.TheVariants as heard
use Rattle.tv_journal.specs.declared.Entry.{Entry}
use Rattle.tv_journal.specs.declared.Entry.TheVariants as entry
use Rattle.tv_journal.specs.declared.record.EndLine.{EndLine}
use Rattle.tv_journal.specs.Entries.{Record, Run, One, entries_of}

-- what a file says: its records, and its end line, which stands after some of them
pub record Lines : Type 0 where
  pub records : List Record
  pub end : Option EndLine

-- a number of four bytes, and one of two
abbrev pub number : ℕ → List ℕ
number n = to_le_bytes w32 n

abbrev pub short : ℕ → List ℕ
short n = to_le_bytes w16 n

-- what a device heard from outside: a code, a length of two bytes, and at code 2 so many bytes. Outside, nothing is refused
abbrev pub heard_spelled : Heard → List ℕ
heard_spelled heard.Done = 0 ∷ short 0
heard_spelled heard.Refused = []
heard_spelled heard.Failed = 1 ∷ short 0
heard_spelled (heard.Bytes bytes) = 2 ∷ (short (length bytes) ++ bytes)
heard_spelled (heard.Taken count) = 3 ∷ short count

-- a record: its kind, and its fields. An event of a hart stands in a run
abbrev pub entry_spelled : Entry → List ℕ
entry_spelled (entry.Hart hart) = []
entry_spelled (entry.Take device) = 0x02 ∷ device ∷ []
entry_spelled (entry.Send device) = 0x03 ∷ device ∷ []
entry_spelled (entry.ServeMem device) = 0x04 ∷ device ∷ []
entry_spelled (entry.ServeIrq device) = 0x05 ∷ device ∷ []
entry_spelled (entry.Got device) = 0x06 ∷ device ∷ []
entry_spelled (entry.Reply device) = 0x07 ∷ device ∷ []
entry_spelled (entry.Deliver device) = 0x08 ∷ device ∷ []
entry_spelled (entry.Intend device) = 0x09 ∷ device ∷ []
entry_spelled (entry.Did device h) = 0x0A ∷ device ∷ heard_spelled h
entry_spelled (entry.Tick n) = 0x0B ∷ number n

abbrev pub record_bytes : Record → List ℕ
record_bytes (Run hart count) = 0x01 ∷ hart ∷ number count
record_bytes (One e) = entry_spelled e

-- the causes of an end that no event made
abbrev pub cause_byte : Why → Option ℕ
cause_byte why.Full = Some 1
cause_byte why.DebugLost = Some 2
cause_byte why.ListenFailed = Some 3
cause_byte why.CrewRefused = Some 4
cause_byte _ = None

abbrev pub cause_bytes : Option ℕ → List ℕ
cause_bytes None = []
cause_bytes (Some byte) = byte ∷ []

-- the end line: its kind, and the cause
abbrev pub end_bytes : EndLine → List ℕ
end_bytes end = 0x10 ∷ cause_bytes (cause_byte end.why)

-- the records, with the end line at its place
abbrev pub lines_bytes : List Record → Option EndLine → List ℕ
lines_bytes records None = flat_map record_bytes records
lines_bytes records (Some end) =
    flat_map record_bytes (take end.records records) ++ end_bytes end ++ flat_map record_bytes (drop end.records records)

-- the end of the file: a zero, and the number of records
abbrev pub closing_bytes : ℕ → List ℕ
closing_bytes count = 0x00 ∷ number count

abbrev pub file_bytes : Lines → List ℕ
file_bytes lines = codes "TVJ1" ++ lines_bytes lines.records lines.end ++ closing_bytes (length lines.records)

-- a record's fields are in range
abbrev pub IsOutcome : Heard → Type 0
IsOutcome heard.Refused = ⊥
IsOutcome (heard.Bytes bytes) = length bytes ≤ PIECE_BYTES
IsOutcome (heard.Taken count) = count ≤ PIECE_BYTES
IsOutcome _ = Unit {0}

abbrev pub IsSingle : Entry → Type 0
IsSingle (entry.Hart hart) = ⊥
IsSingle (entry.Take device) = device < 8
IsSingle (entry.Send device) = device < 8
IsSingle (entry.ServeMem device) = device < 8
IsSingle (entry.ServeIrq device) = device < 8
IsSingle (entry.Got device) = device < 8
IsSingle (entry.Reply device) = device < 8
IsSingle (entry.Deliver device) = device < 8
IsSingle (entry.Intend device) = device < 8
IsSingle (entry.Did device h) = (device < 8) × IsOutcome h
IsSingle (entry.Tick n) = (0 < n) × (n < 2 ^ 32)

abbrev pub IsRecord : Record → Type 0
IsRecord (Run hart count) = (hart < 8) × (0 < count) × (count < 2 ^ 32)
IsRecord (One e) = IsSingle e

-- no event of a hart
abbrev pub IsNoRun : Record → Type 0
IsNoRun (Run hart count) = ⊥
IsNoRun (One e) = Unit {0}

-- the record before this one is not a run of the same hart
abbrev pub Differs : Option Record → Record → Type 0
Differs (Some (Run before _)) (Run hart _) = hart ≢ before
Differs _ _ = Unit {0}

-- each record differs so from the one before it; the first is looked at with the record that stands before the list
abbrev pub AreApart : Option Record → List Record → Type 0
AreApart before [] = Unit {0}
AreApart before (r ∷ records) = Differs before r × AreApart (Some r) records

-- the last of the records
abbrev pub last_record : List Record → Option Record
last_record records = slice_get records (length records - 1)

-- an end line after some of the records: it has a cause, and no event of a hart comes after it
pub record IsEnd (records : List Record) (end : EndLine) : Type 0 where
  pub place : end.records ≤ length records
  pub cause : cause_byte end.why ≢ None
  pub entries : end.entries ≡ length (entries_of (take end.records records))
  pub after : AllByRecursion IsNoRun (drop end.records records)

abbrev pub EndFits : List Record → Option EndLine → Type 0
EndFits records None = Unit {0}
EndFits records (Some end) = IsEnd records end

-- lines that a file may have
pub record AreLines (lines : Lines) : Type 0 where
  pub each : AllByRecursion IsRecord lines.records
  pub apart : AreApart None lines.records
  pub few : length lines.records < 2 ^ 32
  pub ended : EndFits lines.records lines.end

-- the end that no event made, by the number of events before it
abbrev pub outer_of : Option EndLine → Option (ℕ × Why)
outer_of None = None
outer_of (Some end) = Some (end.entries, end.why)

-- these bytes are a journal file, and it has these entries and this end
pub record SpellsJournal (bytes : List ℕ) (entries : List Entry) (outer : Option (ℕ × Why)) : Type 0 where
  pub lines : Lines
  pub are : AreLines lines
  pub spelled : bytes ≡ file_bytes lines
  pub entries_are : entries ≡ entries_of lines.records
  pub outer_is : outer ≡ outer_of lines.end

-- these bytes begin some journal file
pub record BeginsJournal (bytes : List ℕ) : Type 0 where
  pub rest : List ℕ
  pub lines : Lines
  pub are : AreLines lines
  pub spelled : bytes ++ rest ≡ file_bytes lines

-- n is the length of the longest front of these bytes that begins some journal file
pub record IsLongestFront (bytes : List ℕ) (n : ℕ) : Type 0 where
  pub within : n ≤ length bytes
  pub begins : BeginsJournal (take n bytes)
  pub longest : (m : ℕ) → m ≤ length bytes → BeginsJournal (take m bytes) → m ≤ n
