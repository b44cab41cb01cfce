-- The fields of a journal.
use Rattle.std.specs.Prelude.{◌≡◌, ℕ, ◌+◌, ◌≤◌, List, Option, length, vec_capacity}
use Rattle.tv_journal.specs.declared.Journal.TheInside.{Inside}
use Rattle.tv_journal.specs.declared.record.EndLine.{EndLine}
use Rattle.tv_journal.specs.Entries.{Record, entries_of, payload_bytes}
use Rattle.tv_journal.specs.Grammar.{AreLines}
use Rattle.tv_journal.specs.Stores.{held, Lies}

-- records with an end line, and what is counted of them
pub record IsKept (records : List Record) (end : Option EndLine) (events payload : ℕ) : Type 0 where
  pub are : AreLines (record { records = records; end = end })
  pub counted : events ≡ length (entries_of records)
  pub carried : payload ≡ payload_bytes (entries_of records)

-- there is room for what is there and what is reserved
pub record HasRoom (records payload record_room payload_room reserved_records reserved_bytes : ℕ) : Type 0 where
  pub records_fit : records + reserved_records ≤ record_room
  pub payload_fits : payload + reserved_bytes ≤ payload_room

-- what is true of them: there is memory for all its room, of records and of payload
pub record IsJournal (journal : Inside) : Type 0 where
  pub kept : IsKept (held journal.store) journal.end journal.events (length journal.store.payload.items)
  pub lies : Lies journal.store
  pub room : HasRoom (length journal.store.records.items) (length journal.store.payload.items) journal.record_room journal.payload_room journal.reserved_records journal.reserved_bytes
  pub record_memory : journal.record_room ≤ vec_capacity journal.store.records
  pub payload_memory : journal.payload_room ≤ vec_capacity journal.store.payload
