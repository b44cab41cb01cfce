-- The reader of a journal file, byte by byte.
use Rattle.std.specs.Prelude.{◌≡◌, ◌==◌, ◌&&◌, not, ℕ, ◌+◌, ◌-◌, ◌^◌, ◌<◌, ◌≤◌, if◌then◌else◌, nat_lt, nat_le, ⊤, Result, Ok, Err, take, Bool, true, false, List, [], ◌∷◌, ◌++◌, Option, Some, None, codes, length, slice_index}
use Rattle.std.specs.Int.{w16, w32, from_le_bytes}
use Rattle.tv_base.specs.declared.limits.TheConstants.{PIECE_BYTES}
use Rattle.tv_base.specs.declared.Why.{Why}
use Rattle.tv_base.specs.declared.Why.TheVariants as why
use Rattle.tv_journal.specs.declared.record.EndLine.{EndLine}
use Rattle.tv_items.specs.declared.action.Heard.TheVariants as heard
use Rattle.tv_journal.specs.declared.Entry.TheVariants as entry
use Rattle.tv_journal.specs.declared.record.DeviceStep.{DeviceStep}
use Rattle.tv_journal.specs.declared.record.Store.{Store}
use Rattle.std.specs.List.{AllByRecursion}
use Rattle.tv_journal.specs.declared.reader.Code.{Code}
use Rattle.tv_journal.specs.declared.reader.Code.TheVariants as code
use Rattle.tv_journal.specs.declared.reader.Reader.{Reader}
use Rattle.tv_journal.specs.declared.reader.Spot.{Spot}
use Rattle.tv_journal.specs.declared.reader.Spot.TheVariants as spot
use Rattle.tv_journal.specs.declared.reader.StepFault.{StepFault}
use Rattle.tv_journal.specs.declared.reader.StepFault.TheVariants as step_fault
use Rattle.tv_journal.specs.Entries.{Record, Run, One, entries_of, payload_bytes}
use Rattle.tv_journal.specs.Grammar.{AreLines, Differs, closing_bytes, lines_bytes, number, short, last_record}
use Rattle.tv_journal.specs.Stores.{held, step_at, step_entry, step_kind, Lies}

-- what was read: where the next byte stands, the bytes of its field before it, and the lines so far
pub record Read : Type 0 where
  pub spot : Spot
  pub field : List ℕ
  pub records : List Record
  pub end : Option EndLine

abbrev pub first_read : Read
first_read = record { spot = spot.Magic; field = []; records = []; end = None }

-- no line begins with a byte more than the file's number of records allows
abbrev pub is_full : Read → Bool
is_full r = length r.records == 2 ^ 32 - 1

abbrev pub has_end : Option EndLine → Bool
has_end None = false
has_end (Some _) = true

-- the last record is one of this hart
abbrev pub is_of_hart : Option Record → ℕ → Bool
is_of_hart (Some (Run last _)) hart = hart == last
is_of_hart _ hart = false

-- at another place, where a field begins
abbrev pub moved : Read → Spot → Read
moved r next = record r { spot = next; field = [] }

-- a record more
abbrev pub with_record : Read → Record → Read
with_record r more = record r { spot = spot.Line; field = []; records = r.records ++ more ∷ [] }

-- an end line
abbrev pub with_end : Read → Why → Read
with_end r cause = record r {
  spot = spot.Line;
  field = [];
  end = Some (record { records = length r.records; entries = length (entries_of r.records); why = cause });
}

-- the kind of a record
abbrev pub step_read : Read → Option DeviceStep → Option Read
step_read r None = None
step_read r (Some step) = Some (moved r (spot.Device step))

abbrev pub kind_read : Read → ℕ → Option Read
kind_read r byte =
    if byte == 0x01 then (if has_end r.end then None else Some (moved r spot.Hart))
    else if byte == 0x0A then Some (moved r spot.Outcome)
    else if byte == 0x0B then Some (moved r spot.Tick)
    else step_read r (step_at byte)

-- the kind of a line
abbrev pub line_read : Read → ℕ → Option Read
line_read r byte =
    if byte == 0x00 then Some (moved r spot.Closing)
    else if byte == 0x10 then (if has_end r.end then None else Some (moved r spot.Cause))
    else if is_full r then None
    else kind_read r byte

-- the hart of a record
abbrev pub hart_read : Read → ℕ → Option Read
hart_read r byte =
    if nat_lt byte 8 && not (is_of_hart (last_record r.records) byte) then Some (moved r (spot.Count byte)) else None

-- a number that is not 0, of which these are the bytes so far
abbrev pub number_read : Read → (ℕ → Record) → List ℕ → Option Read
number_read r to_record field =
    if nat_lt (length field) 4 then Some (record r { field = field })
    else if from_le_bytes w32 field == 0 then None
    else Some (with_record r (to_record (from_le_bytes w32 field)))

abbrev pub count_read : ℕ → Read → List ℕ → Option Read
count_read hart r field = number_read r (λ n. Run hart n) field

abbrev pub tick_read : Read → List ℕ → Option Read
tick_read r field = number_read r (λ n. One (entry.Tick n)) field

-- the device of a step, and that of what it heard
abbrev pub device_read : DeviceStep → Read → ℕ → Option Read
device_read step r byte = if nat_lt byte 8 then Some (with_record r (One (step_entry step byte))) else None

abbrev pub outcome_read : Read → ℕ → Option Read
outcome_read r byte = if nat_lt byte 8 then Some (moved r (spot.Code byte)) else None

-- what it heard: a code, with the greatest length that may come with it
abbrev pub code_byte : Code → ℕ
code_byte code.Done = 0
code_byte code.Failed = 1
code_byte code.Bytes = 2
code_byte code.Taken = 3

abbrev pub greatest_length : Code → ℕ
greatest_length code.Done = 0
greatest_length code.Failed = 0
greatest_length code.Bytes = PIECE_BYTES
greatest_length code.Taken = PIECE_BYTES

abbrev pub code_read : ℕ → Read → ℕ → Option Read
code_read device r byte =
    if byte == 0 then Some (moved r (spot.Length device code.Done))
    else if byte == 1 then Some (moved r (spot.Length device code.Failed))
    else if byte == 2 then Some (moved r (spot.Length device code.Bytes))
    else if byte == 3 then Some (moved r (spot.Length device code.Taken))
    else None

-- what a whole length leads to
abbrev pub with_length : ℕ → Code → Read → ℕ → Read
with_length device code.Done r length = with_record r (One (entry.Did device heard.Done))
with_length device code.Failed r length = with_record r (One (entry.Did device heard.Failed))
with_length device code.Bytes r length =
    if length == 0 then with_record r (One (entry.Did device (heard.Bytes []))) else moved r (spot.Bytes device length)
with_length device code.Taken r length = with_record r (One (entry.Did device (heard.Taken length)))

-- a byte of a length, which is the last one of the field; a first one above the greatest length is refused as the second is
abbrev pub length_read : ℕ → Code → Read → ℕ → List ℕ → Option Read
length_read device code r byte field =
    if nat_lt (length field) 2
    then (if nat_le byte (greatest_length code) then Some (record r { field = field }) else None)
    else if nat_le (from_le_bytes w16 field) (greatest_length code)
    then Some (with_length device code r (from_le_bytes w16 field))
    else None

-- the bytes that it heard
abbrev pub bytes_read : ℕ → ℕ → Read → List ℕ → Option Read
bytes_read device len r field =
    if nat_lt (length field) len then Some (record r { field = field })
    else Some (with_record r (One (entry.Did device (heard.Bytes field))))

-- the cause of an end line
abbrev pub cause_read : Read → ℕ → Option Read
cause_read r byte =
    if byte == 1 then Some (with_end r why.Full)
    else if byte == 2 then Some (with_end r why.DebugLost)
    else if byte == 3 then Some (with_end r why.ListenFailed)
    else if byte == 4 then Some (with_end r why.CrewRefused)
    else None

-- bytes that stand fast, and what comes after them
abbrev pub fixed_read : Read → List ℕ → Spot → ℕ → Option Read
fixed_read r expected next byte =
    if byte == slice_index expected (length r.field)
    then (if nat_lt (length r.field + 1) 4 then Some (record r { field = r.field ++ byte ∷ [] }) else Some (moved r next))
    else None

-- one byte more; none where no file goes on so
abbrev pub read_at : Spot → Read → ℕ → Option Read
read_at spot.Magic r byte = fixed_read r (codes "TVJ1") spot.Line byte
read_at spot.Line r byte = line_read r byte
read_at spot.Hart r byte = hart_read r byte
read_at (spot.Count hart) r byte = count_read hart r (r.field ++ byte ∷ [])
read_at (spot.Device step) r byte = device_read step r byte
read_at spot.Outcome r byte = outcome_read r byte
read_at (spot.Code device) r byte = code_read device r byte
read_at (spot.Length device code) r byte = length_read device code r byte (r.field ++ byte ∷ [])
read_at (spot.Bytes device len) r byte = bytes_read device len r (r.field ++ byte ∷ [])
read_at spot.Tick r byte = tick_read r (r.field ++ byte ∷ [])
read_at spot.Cause r byte = cause_read r byte
read_at spot.Closing r byte = fixed_read r (number (length r.records)) spot.Done byte
read_at spot.Done r byte = None

unfoldable pub read_byte : Read → ℕ → Option Read
read_byte r byte = read_at r.spot r byte

-- bytes, one after the other
abbrev pub read_next : Option Read → ℕ → Option Read
read_next None byte = None
read_next (Some r) byte = read_byte r byte

unfoldable pub read_all : Option Read → List ℕ → Option Read
read_all r [] = r
read_all r (byte ∷ bytes) = read_all (read_next r byte) bytes

-- bytes within 0 to 255
abbrev pub AreBytes : List ℕ → Type 0
AreBytes bytes = AllByRecursion (λ b. b < 256) bytes

-- a record more has its place
abbrev pub IsBelowFull : Read → Type 0
IsBelowFull r = length r.records < 2 ^ 32 - 1

-- a first byte of a length
abbrev pub IsLengthByte : Code → ℕ → Type 0
IsLengthByte code b = (b < 256) × (b ≤ greatest_length code)

-- what holds at each place of a file
abbrev pub IsAt : Spot → Read → Type 0
IsAt spot.Magic r = (length r.field < 4) × (r.field ≡ take (length r.field) (codes "TVJ1")) × (r.records ≡ []) × (r.end ≡ None)
IsAt spot.Line r = r.field ≡ []
IsAt spot.Hart r = (r.end ≡ None) × (length r.records < 2 ^ 32 - 1)
IsAt (spot.Count hart) r = (length r.field < 4) × AreBytes r.field × (r.end ≡ None) × (length r.records < 2 ^ 32 - 1) × (hart < 8) × Differs (last_record r.records) (Run hart 1)
IsAt (spot.Device step) r = IsBelowFull r
IsAt spot.Outcome r = IsBelowFull r
IsAt (spot.Code device) r = IsBelowFull r × (device < 8)
IsAt (spot.Length device code) r = (length r.field < 2) × AllByRecursion (IsLengthByte code) r.field × IsBelowFull r × (device < 8)
IsAt (spot.Bytes device len) r = (length r.field < len) × (len ≤ PIECE_BYTES) × IsBelowFull r × (device < 8)
IsAt spot.Tick r = (length r.field < 4) × AreBytes r.field × (length r.records < 2 ^ 32 - 1)
IsAt spot.Cause r = r.end ≡ None
IsAt spot.Closing r = (length r.field < 4) × (r.field ≡ take (length r.field) (number (length r.records)))
IsAt spot.Done r = Unit {0}

-- the bytes of the line that is being read
abbrev pub line_so_far : Spot → Read → List ℕ
line_so_far spot.Magic r = []
line_so_far spot.Line r = []
line_so_far spot.Hart r = 0x01 ∷ []
line_so_far (spot.Count hart) r = 0x01 ∷ hart ∷ r.field
line_so_far (spot.Device step) r = step_kind step ∷ []
line_so_far spot.Outcome r = 0x0A ∷ []
line_so_far (spot.Code device) r = 0x0A ∷ device ∷ []
line_so_far (spot.Length device code) r = 0x0A ∷ device ∷ code_byte code ∷ r.field
line_so_far (spot.Bytes device len) r = 0x0A ∷ device ∷ 2 ∷ (short len ++ r.field)
line_so_far spot.Tick r = 0x0B ∷ r.field
line_so_far spot.Cause r = 0x10 ∷ []
line_so_far spot.Closing r = 0x00 ∷ r.field
line_so_far spot.Done r = closing_bytes (length r.records)

abbrev pub bytes_so_far : Spot → Read → List ℕ
bytes_so_far spot.Magic r = r.field
bytes_so_far s r = codes "TVJ1" ++ (lines_bytes r.records r.end ++ line_so_far s r)

-- these bytes were read so
pub record Follows (r : Read) (bytes : List ℕ) : Type 0 where
  pub lines : AreLines (record { records = r.records; end = r.end })
  pub at : IsAt r.spot r
  pub bytes_are : bytes ≡ bytes_so_far r.spot r

-- these bytes were read, and the reader stands so
pub record HasRead (r : Read) (bytes : List ℕ) : Type 0 where
  pub reads : read_all (Some first_read) bytes ≡ Some r
  pub follows : Follows r bytes

-- what a step of the reader gives, by the reader behind it
abbrev pub StepGives : Result ⊤ StepFault → Option Read → Read → Type 0
StepGives (Ok _) read now = read ≡ Some now
StepGives (Err step_fault.Refused) read now = read ≡ None
StepGives (Err step_fault.Memory) read now = Unit {0}

-- the reader as it stands
abbrev pub read_of : Reader → Read
read_of reader = record { spot = reader.spot; field = reader.field; records = held reader.store; end = reader.end }

-- the records that were read have so many entries, and all bytes of the payload
pub record IsTallied (store : Store) (events : ℕ) : Type 0 where
  pub counted : events ≡ length (entries_of (held store))
  pub carried : length store.payload.items ≡ payload_bytes (entries_of (held store))
  pub lies : Lies store

abbrev pub IsCounted : Reader → Type 0
IsCounted reader = IsTallied reader.store reader.events

-- a number of which these are the bytes so far, and the reader with them
abbrev pub number_so_far : Reader → List ℕ → Option ℕ × Reader
number_so_far reader field =
    (if nat_lt (length field) 4 then None else Some (from_le_bytes w32 field), record reader { field = field })
