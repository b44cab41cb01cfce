-- Entries, and the records that a journal keeps of them: a run of events of one hart is one record.
use Rattle.std.specs.Prelude.{◌==◌, ℕ, ◌+◌, if◌then◌else◌, List, [], ◌∷◌, replicate, flat_map, length}
use Rattle.std.specs.List.{sum_by}
use Rattle.tv_items.specs.declared.action.Heard.{Heard}
use Rattle.tv_items.specs.declared.action.Heard.TheVariants as heard
use Rattle.tv_journal.specs.declared.Entry.{Entry}
use Rattle.tv_journal.specs.declared.Entry.TheVariants as entry

-- a record: a run of so many events of a hart, or one entry of any other kind
pub data Record : Type 0 where
  Run : ℕ → ℕ → Record
  One : Entry → Record

-- the entries of a record, and of records
abbrev pub entries_in : Record → List Entry
entries_in (Run hart count) = replicate count (entry.Hart hart)
entries_in (One e) = e ∷ []

abbrev pub entries_of : List Record → List Entry
entries_of records = flat_map entries_in records

-- an event of a hart before records: it joins a first record of the same hart
abbrev pub run_joined : ℕ → List Record → List Record
run_joined hart (Run other count ∷ records) =
    if hart == other then Run other (count + 1) ∷ records else Run hart 1 ∷ Run other count ∷ records
run_joined hart records = Run hart 1 ∷ records

abbrev pub joined : Entry → List Record → List Record
joined (entry.Hart hart) records = run_joined hart records
joined e records = One e ∷ records

-- the records of a list of entries: each of them as long as it can be
unfoldable pub records_of : List Entry → List Record
records_of [] = []
records_of (e ∷ entries) = joined e (records_of entries)

unfoldable pub record_count : List Entry → ℕ
record_count entries = length (records_of entries)

-- how many bytes of payload an entry has: those that a device heard from outside
abbrev pub heard_bytes : Heard → ℕ
heard_bytes (heard.Bytes bytes) = length bytes
heard_bytes _ = 0

abbrev pub payload_in : Entry → ℕ
payload_in (entry.Did device h) = heard_bytes h
payload_in _ = 0

unfoldable pub payload_bytes : List Entry → ℕ
payload_bytes entries = sum_by payload_in entries
