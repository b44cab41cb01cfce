use Rattle.std.proofs.Common.{◌≡◌, ◌<◌, ◌-◌, ◌^◌, length, ap, sym, ◌∙◌, rules, arith}
use Rattle.tv_journal.specs.Entries.{entries_of}
use Rattle.tv_journal.specs.Grammar.{last_record, outer_of}
use Rattle.tv_journal.specs.Journals.{JournalState, MayFollow, records_for}
use Rattle.tv_journal.specs.Stores.{held, record_needed}
use Rattle.tv_journal.proofs.Kept.{can-count, length-added}
use Rattle.tv_journal.proofs.Room.{held-length, records-for, pushed-reserved, pushed-journal}
use Rattle.tv_journal.proofs.Journal.push_reserved.Goals as goal

pub overflow_sub-self : goal.overflow_sub-self
overflow_sub-self c =
    let store = c.self.inside.store in
    let e = c.args.entry.now in
    let need : records_for c.args.self.now e ≡ record_needed (last_record (held store)) e =
    ap (λ (j : JournalState). records_for j e) (sym c.self.view_is) ∙ records-for (held store) c.self.inside.end c.self.inside.events (length c.self.inside.store.payload.items) c.self.inside.record_room c.self.inside.payload_room c.self.inside.reserved_records c.self.inside.reserved_bytes e c.self.invariant.kept in
    let reserved : c.args.self.now.reserved_records ≡ c.self.inside.reserved_records = ap (λ (j : JournalState). j.reserved_records) (sym c.self.view_is) in
    let bytes : c.args.self.now.reserved_bytes ≡ c.self.inside.reserved_bytes = ap (λ (j : JournalState). j.reserved_bytes) (sym c.self.view_is) in
    let records_taken = c.requires.taken.records in
    let bytes_taken = c.requires.taken.bytes in
    let records_fit = c.self.invariant.room.records_fit in
    let payload_fits = c.self.invariant.room.payload_fits in
    omega (arith, c.records_for.ensures)

pub add-requires-clause-memory : goal.add-requires-clause-memory
add-requires-clause-memory c =
    let store = c.self.inside.store in
    let e = c.args.entry.now in
    let need : records_for c.args.self.now e ≡ record_needed (last_record (held store)) e =
    ap (λ (j : JournalState). records_for j e) (sym c.self.view_is) ∙ records-for (held store) c.self.inside.end c.self.inside.events (length c.self.inside.store.payload.items) c.self.inside.record_room c.self.inside.payload_room c.self.inside.reserved_records c.self.inside.reserved_bytes e c.self.invariant.kept in
    let reserved : c.args.self.now.reserved_records ≡ c.self.inside.reserved_records = ap (λ (j : JournalState). j.reserved_records) (sym c.self.view_is) in
    let bytes : c.args.self.now.reserved_bytes ≡ c.self.inside.reserved_bytes = ap (λ (j : JournalState). j.reserved_bytes) (sym c.self.view_is) in
    let records_taken = c.requires.taken.records in
    let bytes_taken = c.requires.taken.bytes in
    let records_fit = c.self.invariant.room.records_fit in
    let payload_fits = c.self.invariant.room.payload_fits in
    omega (arith, length-added (held store) e, held-length store, c.self.invariant.record_memory)

pub add-requires-clause-few : goal.add-requires-clause-few
add-requires-clause-few c =
    let few : length (entries_of (held c.self.inside.store)) < 2 ^ 32 - 1 = rw (ap (λ (j : JournalState). length j.entries) c.self.view_is) c.requires.few in
    can-count (held c.self.inside.store) 1 (omega arith)

pub invariant_of-self : goal.invariant_of-self
invariant_of-self c =
    let store = c.self.inside.store in
    let e = c.args.entry.now in
    let need : records_for c.args.self.now e ≡ record_needed (last_record (held store)) e =
    ap (λ (j : JournalState). records_for j e) (sym c.self.view_is) ∙ records-for (held store) c.self.inside.end c.self.inside.events (length c.self.inside.store.payload.items) c.self.inside.record_room c.self.inside.payload_room c.self.inside.reserved_records c.self.inside.reserved_bytes e c.self.invariant.kept in
    let reserved : c.args.self.now.reserved_records ≡ c.self.inside.reserved_records = ap (λ (j : JournalState). j.reserved_records) (sym c.self.view_is) in
    let bytes : c.args.self.now.reserved_bytes ≡ c.self.inside.reserved_bytes = ap (λ (j : JournalState). j.reserved_bytes) (sym c.self.view_is) in
    let records_taken = c.requires.taken.records in
    let bytes_taken = c.requires.taken.bytes in
    let records_fit = c.self.invariant.room.records_fit in
    let payload_fits = c.self.invariant.room.payload_fits in
    let few : length (entries_of (held store)) < 2 ^ 32 - 1 = rw (ap (λ (j : JournalState). length j.entries) c.self.view_is) c.requires.few in
    let follows : MayFollow (outer_of c.self.inside.end) e = rw (ap (λ (j : JournalState). j.outer) c.self.view_is) c.requires.follows in
    pushed-journal store c.add.new.self c.self.inside.end c.self.inside.events c.self.inside.record_room c.self.inside.payload_room
    (c.self.inside.reserved_records - c.records_for.result) (c.self.inside.reserved_bytes - c.payload_of.result) e
    c.self.invariant.kept few (search rules) c.add.ensures.fits c.requires.entry follows c.add.ensures.added c.add.ensures.lies c.add.ensures.payload
    (omega (arith, c.self.invariant.record_memory, c.add.ensures.record_capacity)) (omega (arith, c.self.invariant.payload_memory, c.add.ensures.payload_capacity))
    (record {
      records_fit = omega (arith, held-length store, c.records_for.ensures);
      payload_fits = omega (arith, c.payload_of.ensures.bytes);
    })

pub returns : goal.returns
returns c =
    let store = c.self.inside.store in
    rw (← c.self.view_is)
    (pushed-reserved (held store) (held c.add.new.self) c.self.inside.end c.self.inside.events (length c.self.inside.store.payload.items) c.self.inside.record_room c.self.inside.payload_room c.self.inside.reserved_records c.self.inside.reserved_bytes
    c.records_for.result c.payload_of.result c.args.entry.now c.self.invariant.kept c.records_for.ensures c.payload_of.ensures.bytes c.add.ensures.added)
