-- Records as a journal keeps them: their fields in a list, and the bytes that some of them carry in another.
use Rattle.std.specs.Prelude.{◌==◌, ℕ, ◌+◌, ◌-◌, ◌^◌, ◌<◌, ◌≤◌, if◌then◌else◌, List, [], ◌∷◌, ◌++◌, Option, Some, None, Bool, false, flat_map, length, map, take, drop, slice_set}
use Rattle.std.specs.List.{AllByRecursion}
use Rattle.tv_base.specs.declared.limits.TheConstants.{PIECE_BYTES}
use Rattle.tv_items.specs.declared.action.Heard.TheVariants as heard
use Rattle.tv_journal.specs.declared.Entry.{Entry}
use Rattle.tv_journal.specs.declared.Entry.TheVariants as entry
use Rattle.tv_journal.specs.declared.record.DeviceStep.{DeviceStep}
use Rattle.tv_journal.specs.declared.record.DeviceStep.TheVariants as step
use Rattle.tv_journal.specs.declared.record.EndLine.{EndLine}
use Rattle.tv_journal.specs.declared.record.Store.{Store}
use Rattle.tv_journal.specs.declared.record.Stored.{Stored}
use Rattle.tv_journal.specs.declared.record.Stored.TheVariants as stored
use Rattle.tv_journal.specs.Entries.{Record, Run, One}
use Rattle.tv_journal.specs.Grammar.{last_record, number, short, end_bytes}

-- a step of a device as an entry, and the kind of its record
abbrev pub step_entry : DeviceStep → ℕ → Entry
step_entry step.Take device = entry.Take device
step_entry step.Send device = entry.Send device
step_entry step.ServeMem device = entry.ServeMem device
step_entry step.ServeIrq device = entry.ServeIrq device
step_entry step.Got device = entry.Got device
step_entry step.Reply device = entry.Reply device
step_entry step.Deliver device = entry.Deliver device
step_entry step.Intend device = entry.Intend device

abbrev pub step_kind : DeviceStep → ℕ
step_kind step.Take = 0x02
step_kind step.Send = 0x03
step_kind step.ServeMem = 0x04
step_kind step.ServeIrq = 0x05
step_kind step.Got = 0x06
step_kind step.Reply = 0x07
step_kind step.Deliver = 0x08
step_kind step.Intend = 0x09

abbrev pub step_at : ℕ → Option DeviceStep
step_at kind =
    if kind == 0x02 then Some step.Take
    else if kind == 0x03 then Some step.Send
    else if kind == 0x04 then Some step.ServeMem
    else if kind == 0x05 then Some step.ServeIrq
    else if kind == 0x06 then Some step.Got
    else if kind == 0x07 then Some step.Reply
    else if kind == 0x08 then Some step.Deliver
    else if kind == 0x09 then Some step.Intend
    else None

-- a record, of which these are all bytes that records carry
abbrev pub record_in : List ℕ → Stored → Record
record_in payload (stored.Run hart count) = Run hart count
record_in payload (stored.Step s device) = One (step_entry s device)
record_in payload (stored.Done device) = One (entry.Did device heard.Done)
record_in payload (stored.Failed device) = One (entry.Did device heard.Failed)
record_in payload (stored.Bytes device len at) = One (entry.Did device (heard.Bytes (take len (drop at payload))))
record_in payload (stored.Taken device count) = One (entry.Did device (heard.Taken count))
record_in payload (stored.Tick n) = One (entry.Tick n)

abbrev pub records_in : List ℕ → List Stored → List Record
records_in payload all = map (record_in payload) all

abbrev pub held : Store → List Record
held store = records_in store.payload.items store.records.items

-- the bytes of a record lie among so many
abbrev pub LiesIn : ℕ → Stored → Type 0
LiesIn size (stored.Bytes device len at) = (len ≤ PIECE_BYTES) × (at + len ≤ size)
LiesIn size _ = Unit {0}

abbrev pub Lies : Store → Type 0
Lies store = AllByRecursion (LiesIn (length store.payload.items)) store.records.items

-- the run that a record is, if it is one
abbrev pub run_of : Option Record → Option (ℕ × ℕ)
run_of (Some (Run hart count)) = Some (hart, count)
run_of _ = None

-- the tick that a record is, if it is one
abbrev pub tick_of : Option Record → Option ℕ
tick_of (Some (One (entry.Tick n))) = Some n
tick_of _ = None

-- records with so many events of a hart after them: they join a last record of the same hart
abbrev pub events_behind : List Record → ℕ → ℕ → Option (ℕ × ℕ) → List Record
events_behind records hart more None = records ++ Run hart more ∷ []
events_behind records hart more (Some (last, count)) =
    if hart == last then slice_set records (length records - 1) (Run last (count + more)) else records ++ Run hart more ∷ []

abbrev pub events_added : List Record → ℕ → ℕ → List Record
events_added records hart more = events_behind records hart more (run_of (last_record records))

-- records with an entry after them
abbrev pub added : List Record → Entry → List Record
added records (entry.Hart hart) = events_added records hart 1
added records e = records ++ One e ∷ []

-- an entry joins a last record of its hart
abbrev pub joins_run : Option (ℕ × ℕ) → ℕ → Bool
joins_run None hart = false
joins_run (Some (last, count)) hart = hart == last

abbrev pub joins_last : Option Record → Entry → Bool
joins_last last (entry.Hart hart) = joins_run (run_of last) hart
joins_last last e = false

-- how many records more an entry needs behind such a last one
abbrev pub record_needed : Option Record → Entry → ℕ
record_needed last e = if joins_last last e then 0 else 1

-- a last record of a hart can count so many events more
abbrev pub CanCount : Option Record → ℕ → Type 0
CanCount (Some (Run last count)) more = count + more < 2 ^ 32
CanCount _ more = more < 2 ^ 32

-- what the type of an entry says, and what its caller must
abbrev pub FitsEntry : Entry → Type 0
FitsEntry (entry.Hart hart) = hart < 8
FitsEntry (entry.Take device) = device < 8
FitsEntry (entry.Send device) = device < 8
FitsEntry (entry.ServeMem device) = device < 8
FitsEntry (entry.ServeIrq device) = device < 8
FitsEntry (entry.Got device) = device < 8
FitsEntry (entry.Reply device) = device < 8
FitsEntry (entry.Deliver device) = device < 8
FitsEntry (entry.Intend device) = device < 8
FitsEntry (entry.Did device (heard.Bytes bytes)) = (device < 8) × (length bytes ≤ PIECE_BYTES)
FitsEntry (entry.Did device _) = device < 8
FitsEntry (entry.Tick n) = n < 2 ^ 32

-- what a record is: an entry, and how often it comes
abbrev pub entry_and_count : Record → Entry × ℕ
entry_and_count (Run hart count) = (entry.Hart hart, count)
entry_and_count (One e) = (e, 1)

-- a record in the file: what stands before the bytes that it carries, and those
abbrev pub head_bytes : Stored → List ℕ
head_bytes (stored.Run hart count) = 0x01 ∷ hart ∷ number count
head_bytes (stored.Step s device) = step_kind s ∷ device ∷ []
head_bytes (stored.Done device) = 0x0A ∷ device ∷ 0 ∷ short 0
head_bytes (stored.Failed device) = 0x0A ∷ device ∷ 1 ∷ short 0
head_bytes (stored.Bytes device len at) = 0x0A ∷ device ∷ 2 ∷ short len
head_bytes (stored.Taken device count) = 0x0A ∷ device ∷ 3 ∷ short count
head_bytes (stored.Tick n) = 0x0B ∷ number n

abbrev pub carried_bytes : List ℕ → Stored → List ℕ
carried_bytes payload (stored.Bytes device len at) = take len (drop at payload)
carried_bytes payload _ = []

abbrev pub stored_bytes : List ℕ → Stored → List ℕ
stored_bytes payload r = head_bytes r ++ carried_bytes payload r

-- records in the file with an end line at its place
abbrev pub stored_lines : List ℕ → List Stored → Option EndLine → List ℕ
stored_lines payload all None = flat_map (stored_bytes payload) all
stored_lines payload all (Some end) =
    flat_map (stored_bytes payload) (take end.records all) ++ end_bytes end ++ flat_map (stored_bytes payload) (drop end.records all)
