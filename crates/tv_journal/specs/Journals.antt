-- A journal as contracts see it.
use Rattle.std.specs.Option.{is_some}
use Rattle.std.specs.Prelude.{◌≡◌, ℕ, ◌+◌, ◌-◌, ◌≤◌, ◌<◌, ◌&&◌, ◌++◌, ◌∷◌, [], List, Option, Some, None, Bool, true, false, nat_le, if◌then◌else◌, slice_get}
use Rattle.tv_base.specs.declared.limits.TheConstants.{PIECE_BYTES}
use Rattle.tv_base.specs.declared.Why.{Why}
use Rattle.tv_items.specs.declared.action.Heard.TheVariants as heard
use Rattle.tv_journal.specs.declared.Entry.{Entry}
use Rattle.tv_journal.specs.declared.Entry.TheVariants as entry
use Rattle.tv_journal.specs.declared.record.EndLine.{EndLine}
use Rattle.tv_journal.specs.Entries.{Record, Run, One, record_count, records_of, payload_in, payload_bytes}
use Rattle.tv_journal.specs.Grammar.{EndFits, last_record, outer_of}
use Rattle.tv_journal.specs.Stores.{entry_and_count, tick_of}

-- its entries, one for each event; the end that no event made, with the number of entries before it; its room, in records
-- and in bytes of payload; and what of that is reserved for entries to come
pub record JournalState : Type 0 where
  pub entries : List Entry
  pub outer : Option (ℕ × Why)
  pub record_room : ℕ
  pub payload_room : ℕ
  pub reserved_records : ℕ
  pub reserved_bytes : ℕ

-- the records that there may be, beside those that are reserved; and the bytes of payload that are neither there nor reserved
abbrev pub record_limit : JournalState → ℕ
record_limit journal = journal.record_room - journal.reserved_records

abbrev pub free_bytes : JournalState → ℕ
free_bytes journal = journal.payload_room - (payload_bytes journal.entries + journal.reserved_bytes)

-- whether so many records and bytes are free
abbrev pub has_free : JournalState → ℕ → ℕ → Bool
has_free journal records bytes =
    nat_le (record_count journal.entries + records) (record_limit journal) && nat_le bytes (free_bytes journal)

-- whether there is free room for these entries
abbrev pub has_room_for : JournalState → List Entry → Bool
has_room_for journal es =
    nat_le (record_count (journal.entries ++ es)) (record_limit journal) && nat_le (payload_bytes es) (free_bytes journal)

-- whether there is free room for an entry and for so many records and bytes behind it
abbrev pub has_room_with : JournalState → Entry → ℕ → ℕ → Bool
has_room_with journal e records bytes =
    nat_le (record_count (journal.entries ++ e ∷ []) + records) (record_limit journal)
    && nat_le (payload_in e + bytes) (free_bytes journal)

abbrev pub has_room : JournalState → Entry → Bool
has_room journal e = has_room_for journal (e ∷ [])

-- entries are added exactly where there is room for them
abbrev pub pushed_all : JournalState → List Entry → Bool × JournalState
pushed_all journal es =
    if has_room_for journal es
    then (true, record journal { entries = journal.entries ++ es })
    else (false, journal)

abbrev pub pushed : JournalState → Entry → Bool × JournalState
pushed journal e = pushed_all journal (e ∷ [])

-- the records that an entry adds: none where it joins the last one
abbrev pub records_for : JournalState → Entry → ℕ
records_for journal e = record_count (journal.entries ++ e ∷ []) - record_count journal.entries

-- so much more is reserved
abbrev pub with_reserved : JournalState → ℕ → ℕ → JournalState
with_reserved journal records bytes = record journal {
  reserved_records = journal.reserved_records + records;
  reserved_bytes = journal.reserved_bytes + bytes;
}

-- room is reserved exactly where it is free
abbrev pub reserved : JournalState → ℕ → ℕ → Bool × JournalState
reserved journal records bytes =
    if has_free journal records bytes then (true, with_reserved journal records bytes) else (false, journal)

-- and so is room for an entry, with so many records and bytes behind it
abbrev pub reserved_for : JournalState → Entry → ℕ → ℕ → Bool × JournalState
reserved_for journal e records bytes =
    if has_room_with journal e records bytes
    then (true, with_reserved journal (records_for journal e + records) (payload_in e + bytes))
    else (false, journal)

-- what an entry takes is reserved
pub record IsReserved (journal : JournalState) (e : Entry) : Type 0 where
  pub records : records_for journal e ≤ journal.reserved_records
  pub bytes : payload_in e ≤ journal.reserved_bytes

-- so much less is reserved
abbrev pub given_back : JournalState → ℕ → ℕ → JournalState
given_back journal records bytes = record journal {
  reserved_records = journal.reserved_records - records;
  reserved_bytes = journal.reserved_bytes - bytes;
}

-- an entry is added, and takes what was reserved for it
abbrev pub pushed_reserved : JournalState → Entry → JournalState
pushed_reserved journal e =
    record (given_back journal (records_for journal e) (payload_in e)) { entries = journal.entries ++ e ∷ [] }

-- an entry that some file has: a tick adds something, and nothing outside the machine is refused
abbrev pub IsEntry : Entry → Type 0
IsEntry (entry.Tick n) = 0 < n
IsEntry (entry.Did device heard.Refused) = ⊥
IsEntry (entry.Did device (heard.Taken count)) = count ≤ PIECE_BYTES
IsEntry _ = Unit {0}

-- no event of a hart comes after the end that no event made
abbrev pub MayFollow : Option (ℕ × Why) → Entry → Type 0
MayFollow (Some _) (entry.Hart hart) = ⊥
MayFollow _ _ = Unit {0}

-- an end that no event made is that of an end line after some of the records
pub record IsOuterEnd (entries : List Entry) (outer : Option (ℕ × Why)) : Type 0 where
  pub line : Option EndLine
  pub fits : EndFits (records_of entries) line
  pub outer_is : outer ≡ outer_of line

-- the record behind so many, and the place behind it; where there is none, the same place
abbrev pub next_from : ℕ → Option Record → Option (Entry × ℕ) × ℕ
next_from at None = (None, at)
next_from at (Some r) = (Some (entry_and_count r), at + 1)

abbrev pub next_record : List Record → ℕ → Option (Entry × ℕ) × ℕ
next_record records at = next_from at (slice_get records at)

-- the same of runs alone
abbrev pub run_from : ℕ → Option Record → Option (ℕ × ℕ) × ℕ
run_from at (Some (Run hart count)) = (Some (hart, count), at + 1)
run_from at _ = (None, at)

abbrev pub next_run : List Record → ℕ → Option (ℕ × ℕ) × ℕ
next_run records at = run_from at (slice_get records at)

-- the same of ticks alone
abbrev pub tick_from : ℕ → Option Record → Option ℕ × ℕ
tick_from at (Some (One (entry.Tick n))) = (Some n, at + 1)
tick_from at _ = (None, at)

abbrev pub next_tick : List Record → ℕ → Option ℕ × ℕ
next_tick records at = tick_from at (slice_get records at)

-- whether the last entry is a tick
unfoldable pub ends_with_tick : List Entry → Bool
ends_with_tick entries = is_some (tick_of (last_record (records_of entries)))
