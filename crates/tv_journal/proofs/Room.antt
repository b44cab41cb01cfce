-- The room of a journal, as the definition has it and as the code counts it.
use Rattle.std.proofs.Common.{◌≡◌, ◌&&◌, ℕ, zero, suc, ◌+◌, ◌-◌, ◌^◌, ◌<◌, ◌≤◌, leb, List, [], ◌++◌, Option, None, Bool, true, false, replicate, length, vec_capacity, refl, ap, sym, ◌∙◌, arith}
use Rattle.std.proofs.lemmas.Bool.{leb-true, le-leb, lt-leb, false≢true}
use Rattle.std.proofs.lemmas.List.{length-map}
use Rattle.tv_journal.specs.declared.Entry.{Entry}
use Rattle.tv_journal.specs.declared.Entry.TheVariants as entry
use Rattle.tv_journal.specs.declared.record.EndLine.{EndLine}
use Rattle.tv_journal.specs.declared.record.Store.{Store}
use Rattle.tv_journal.specs.Entries.{Record, entries_of, record_count, payload_in, payload_bytes}
use Rattle.tv_journal.specs.Grammar.{last_record, outer_of}
use Rattle.tv_journal.specs.JournalFields.{IsKept, IsJournal, HasRoom}
use Rattle.tv_journal.specs.Journals.{JournalState, has_free, free_bytes, record_limit, has_room, has_room_for, has_room_with, pushed_all, pushed_reserved, records_for, reserved, reserved_for, with_reserved, IsEntry, MayFollow}
use Rattle.tv_journal.specs.Stores.{held, record_in, Lies, FitsEntry, added, events_added, record_needed}
use Rattle.tv_journal.proofs.Added.{entries-added}
use Rattle.tv_journal.proofs.Kept.{count-kept, count-added, length-added, length-events, kept-added, kept-events, payload-one, payload-run}
use Rattle.tv_journal.proofs.Records.{run-count}

-- a journal with these records and this room
abbrev pub seen : List Record → Option EndLine → ℕ → ℕ → ℕ → ℕ → JournalState
seen rs end room proom kept_records kept_bytes = record {
  entries = entries_of rs;
  outer = outer_of end;
  record_room = room;
  payload_room = proom;
  reserved_records = kept_records;
  reserved_bytes = kept_bytes;
}

pub held-length : (store : Store) → length (held store) ≡ length store.records.items
held-length store = length-map store.records.items (record_in store.payload.items)

-- what is free
pub free-is : (rs : List Record) (end : Option EndLine) (events payload room proom rr rb records bytes : ℕ) → IsKept rs end events payload
    → has_free (seen rs end room proom rr rb) records bytes ≡ (leb (length rs + records) (room - rr) && leb bytes (proom - (payload + rb)))
free-is rs end events payload room proom rr rb records bytes kept = rw (count-kept rs end events payload kept, ← kept.carried) refl

pub free-yes : (rs : List Record) (end : Option EndLine) (events payload room proom rr rb records bytes : ℕ) → IsKept rs end events payload
    → length rs + records ≤ room - rr → leb bytes (proom - (payload + rb)) ≡ has_free (seen rs end room proom rr rb) records bytes
free-yes rs end events payload room proom rr rb records bytes kept test =
    sym (free-is rs end events payload room proom rr rb records bytes kept
    ∙ ap (λ (b : Bool). b && leb bytes (proom - (payload + rb))) (le-leb (length rs + records) (room - rr) test))

pub free-no : (rs : List Record) (end : Option EndLine) (events payload room proom rr rb records bytes n : ℕ) → IsKept rs end events payload → n ≡ length rs
    → room - rr < n + records → leb (n + records) (room - rr) ≡ has_free (seen rs end room proom rr rb) records bytes
free-no rs end events payload room proom rr rb records bytes n kept is test =
    lt-leb (n + records) (room - rr) test
    ∙ sym (free-is rs end events payload room proom rr rb records bytes kept
    ∙ ap (λ (b : Bool). b && leb bytes (proom - (payload + rb))) (lt-leb (length rs + records) (room - rr) (omega arith)))

both-true : (a b : Bool) → true ≡ (a && b) → (a ≡ true) × (b ≡ true)
both-true true b is = (refl, sym is)
both-true false b is = absurd (false≢true (sym is))

-- so much more fits
pub free-fits : (rs : List Record) (end : Option EndLine) (events payload room proom rr rb records bytes : ℕ) → IsKept rs end events payload
    → HasRoom (length rs) payload room proom rr rb → true ≡ has_free (seen rs end room proom rr rb) records bytes
    → HasRoom (length rs + records) (payload + bytes) room proom rr rb
free-fits rs end events payload room proom rr rb records bytes kept fits test =
    let parts = both-true _ _ (test ∙ free-is rs end events payload room proom rr rb records bytes kept) in
    let enough = leb-true (length rs + records) (room - rr) parts.0 in
    let small = leb-true bytes (proom - (payload + rb)) parts.1 in
    record {
      records_fit = let before = fits.records_fit in omega arith;
      payload_fits = let before = fits.payload_fits in omega arith;
    }

-- room for an entry is what it needs
pub room-is : (rs : List Record) (end : Option EndLine) (events payload room proom rr rb records bytes : ℕ) (e : Entry) → IsKept rs end events payload
    → records ≡ record_needed (last_record rs) e → bytes ≡ payload_in e
    → has_free (seen rs end room proom rr rb) records bytes ≡ has_room (seen rs end room proom rr rb) e
room-is rs end events payload room proom rr rb records bytes e kept records_is bytes_is =
    rw (count-added rs end events payload e kept, count-kept rs end events payload kept, payload-one e, records_is, bytes_is) refl

pub room-with : (rs : List Record) (end : Option EndLine) (events payload room proom rr rb records bytes more size : ℕ) (e : Entry) → IsKept rs end events payload
    → records ≡ record_needed (last_record rs) e → bytes ≡ payload_in e
    → has_free (seen rs end room proom rr rb) (records + more) (bytes + size) ≡ has_room_with (seen rs end room proom rr rb) e more size
room-with rs end events payload room proom rr rb records bytes more size e kept records_is bytes_is =
    let need = record_needed (last_record rs) e in
    let sum : length rs + (need + more) ≡ (length rs + need) + more = omega arith in
    rw (count-added rs end events payload e kept, count-kept rs end events payload kept, records_is, bytes_is, sum) refl

pub room-fits : (rs : List Record) (end : Option EndLine) (events payload room proom rr rb : ℕ) (e : Entry) → IsKept rs end events payload
    → HasRoom (length rs) payload room proom rr rb → true ≡ has_room (seen rs end room proom rr rb) e
    → HasRoom (length rs + record_needed (last_record rs) e) (payload + payload_in e) room proom rr rb
room-fits rs end events payload room proom rr rb e kept fits test =
    free-fits rs end events payload room proom rr rb (record_needed (last_record rs) e) (payload_in e) kept fits
    (test ∙ sym (room-is rs end events payload room proom rr rb (record_needed (last_record rs) e) (payload_in e) e kept refl refl))

-- entries without payload find room where their records do
and-true : (b : Bool) → (b && true) ≡ b
and-true true = refl
and-true false = refl

pub room-of-records : (journal : JournalState) (es : List Entry) → payload_bytes es ≡ 0 → has_room_for journal es ≡ leb (record_count (journal.entries ++ es)) (record_limit journal)
room-of-records journal es none =
    ap (λ (n : ℕ). leb (record_count (journal.entries ++ es)) (record_limit journal) && leb n (free_bytes journal)) none
    ∙ ap (λ (b : Bool). leb (record_count (journal.entries ++ es)) (record_limit journal) && b) (le-leb 0 (free_bytes journal) (omega arith))
    ∙ and-true (leb (record_count (journal.entries ++ es)) (record_limit journal))

pub records-for : (rs : List Record) (end : Option EndLine) (events payload room proom rr rb : ℕ) (e : Entry) → IsKept rs end events payload
    → records_for (seen rs end room proom rr rb) e ≡ record_needed (last_record rs) e
records-for rs end events payload room proom rr rb e kept =
    let need = record_needed (last_record rs) e in
    let rest : (length rs + need) - length rs ≡ need = omega arith in
    rw (count-added rs end events payload e kept, count-kept rs end events payload kept) rest

-- some events of a hart take as much room as one
pub run-room : (journal : JournalState) (hart n : ℕ) → 0 < n → has_room_for journal (replicate n (entry.Hart hart)) ≡ has_room journal (entry.Hart hart)
run-room journal hart zero some = absurd (omega arith)
run-room journal hart (suc k) some = rw (run-count journal.entries hart k, payload-run (suc k) hart, payload-one (entry.Hart hart)) refl

-- the answers of the calls
pub pushed-yes : (rs later : List Record) (end : Option EndLine) (room proom rr rb : ℕ) (es : List Entry) → entries_of later ≡ entries_of rs ++ es
    → true ≡ has_room_for (seen rs end room proom rr rb) es → ◌≡◌ {A = Bool × JournalState} (true, seen later end room proom rr rb) (pushed_all (seen rs end room proom rr rb) es)
pushed-yes rs later end room proom rr rb es entries_is test = rw (← test, entries_is) refl

pub pushed-no : (journal : JournalState) (es : List Entry) → false ≡ has_room_for journal es → ◌≡◌ {A = Bool × JournalState} (false, journal) (pushed_all journal es)
pushed-no journal es test = rw (← test) refl

pub reserved-yes : (journal : JournalState) (records bytes : ℕ) → true ≡ has_free journal records bytes
    → ◌≡◌ {A = Bool × JournalState} (true, with_reserved journal records bytes) (reserved journal records bytes)
reserved-yes journal records bytes test = rw (← test) refl

pub reserved-for-yes : (rs : List Record) (end : Option EndLine) (events payload room proom rr rb records bytes more size : ℕ) (e : Entry) → IsKept rs end events payload
    → records ≡ record_needed (last_record rs) e → bytes ≡ payload_in e → true ≡ has_free (seen rs end room proom rr rb) (records + more) (bytes + size)
    → ◌≡◌ {A = Bool × JournalState} (true, seen rs end room proom (rr + (records + more)) (rb + (bytes + size))) (reserved_for (seen rs end room proom rr rb) e more size)
reserved-for-yes rs end events payload room proom rr rb records bytes more size e kept records_is bytes_is test =
    let journal = seen rs end room proom rr rb in
    let same : true ≡ has_room_with journal e more size =
    test ∙ room-with rs end events payload room proom rr rb records bytes more size e kept records_is bytes_is in
    rw (← same, records-for rs end events payload room proom rr rb e kept, records_is, bytes_is) refl

pub reserved-for-no : (rs : List Record) (end : Option EndLine) (events payload room proom rr rb records bytes more size : ℕ) (e : Entry) → IsKept rs end events payload
    → records ≡ record_needed (last_record rs) e → bytes ≡ payload_in e → false ≡ has_free (seen rs end room proom rr rb) (records + more) (bytes + size)
    → ◌≡◌ {A = Bool × JournalState} (false, seen rs end room proom rr rb) (reserved_for (seen rs end room proom rr rb) e more size)
reserved-for-no rs end events payload room proom rr rb records bytes more size e kept records_is bytes_is test =
    let journal = seen rs end room proom rr rb in
    let same : false ≡ has_room_with journal e more size =
    test ∙ room-with rs end events payload room proom rr rb records bytes more size e kept records_is bytes_is in
    rw (← same) refl

pub pushed-reserved : (rs later : List Record) (end : Option EndLine) (events payload room proom rr rb records bytes : ℕ) (e : Entry) → IsKept rs end events payload
    → records ≡ record_needed (last_record rs) e → bytes ≡ payload_in e → later ≡ added rs e
    → seen later end room proom (rr - records) (rb - bytes) ≡ pushed_reserved (seen rs end room proom rr rb) e
pushed-reserved rs later end events payload room proom rr rb records bytes e kept records_is bytes_is later_is =
    rw (records-for rs end events payload room proom rr rb e kept, records_is, bytes_is, later_is, entries-added rs e) refl

-- a journal with one entry more
pub pushed-journal : (old new : Store) (end : Option EndLine) (events room proom rr rb : ℕ) (e : Entry)
    → IsKept (held old) end events (length old.payload.items) → length (entries_of (held old)) < 2 ^ 32 - 1 → room < 2 ^ 32 → FitsEntry e → IsEntry e → MayFollow (outer_of end) e
    → held new ≡ added (held old) e → Lies new → length new.payload.items ≡ length old.payload.items + payload_in e → room ≤ vec_capacity new.records → proom ≤ vec_capacity new.payload
    → HasRoom (length (held old) + record_needed (last_record (held old)) e) (length old.payload.items + payload_in e) room proom rr rb
    → IsJournal (record { store = new; end = end; events = events + 1; record_room = room; payload_room = proom; reserved_records = rr; reserved_bytes = rb })
pushed-journal old new end events room proom rr rb e kept few bound fits is follows held_is lies payload_is record_memory payload_memory has =
    let count = length-added (held old) e in
    let length_is : length new.records.items ≡ length (held old) + record_needed (last_record (held old)) e = sym (held-length new) ∙ ap length held_is ∙ count in
    let records_fit = has.records_fit in
    record {
      kept = rw (held_is, payload_is) (kept-added (held old) end events (length old.payload.items) e kept few (omega arith) fits is follows);
      lies = lies;
      room = rw (length_is, payload_is) has;
      record_memory = record_memory;
      payload_memory = payload_memory;
    }

pub events-journal : (old new : Store) (end : Option EndLine) (events room proom rr rb hart more : ℕ)
    → IsKept (held old) end events (length old.payload.items) → length (entries_of (held old)) + more < 2 ^ 32 → room < 2 ^ 32 → hart < 8 → 0 < more → outer_of end ≡ None
    → held new ≡ events_added (held old) hart more → Lies new → new.payload ≡ old.payload → room ≤ vec_capacity new.records → proom ≤ vec_capacity old.payload
    → HasRoom (length (held old) + record_needed (last_record (held old)) (entry.Hart hart)) (length old.payload.items) room proom rr rb
    → IsJournal (record { store = new; end = end; events = events + more; record_room = room; payload_room = proom; reserved_records = rr; reserved_bytes = rb })
events-journal old new end events room proom rr rb hart more kept few bound fits some none held_is lies payload_is record_memory payload_memory has =
    let count = length-events (held old) hart more in
    let length_is : length new.records.items ≡ length (held old) + record_needed (last_record (held old)) (entry.Hart hart) = sym (held-length new) ∙ ap length held_is ∙ count in
    let records_fit = has.records_fit in
    record {
      kept = rw (held_is, payload_is) (kept-events (held old) end events (length old.payload.items) hart more kept few (omega arith) fits some none);
      lies = lies;
      room = rw (length_is, payload_is) has;
      record_memory = record_memory;
      payload_memory = rw payload_is payload_memory;
    }

-- one without entries
pub new-journal : (store : Store) (end : Option EndLine) (room proom : ℕ) → end ≡ None → store.records.items ≡ [] → store.payload.items ≡ [] → room ≤ vec_capacity store.records → proom ≤ vec_capacity store.payload
    → IsJournal (record { store = store; end = end; events = 0; record_room = room; payload_room = proom; reserved_records = 0; reserved_bytes = 0 })
unfolding payload_bytes
new-journal store end room proom end_is records payload record_memory payload_memory = record {
  kept = rw (end_is, records, payload) (record { are = record { each = tt; apart = tt; few = omega arith; ended = tt }; counted = refl; carried = refl });
  lies = rw records tt;
  room = rw (records, payload) (record { records_fit = omega arith; payload_fits = omega arith });
  record_memory = record_memory;
  payload_memory = payload_memory;
}
