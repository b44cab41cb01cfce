use Rattle.std.proofs.Common.{◌≡◌, ◌+◌, ◌<◌, ◌^◌, None, length, replicate, ap, sym, ◌∙◌, rules, arith}
use Rattle.tv_journal.specs.declared.Entry.TheVariants as entry
use Rattle.tv_journal.specs.Entries.{entries_of}
use Rattle.tv_journal.specs.Grammar.{outer_of}
use Rattle.tv_journal.specs.Journals.{JournalState, has_room}
use Rattle.tv_journal.specs.Stores.{held, events_added}
use Rattle.tv_journal.proofs.Added.{entries-events}
use Rattle.tv_journal.proofs.Kept.{can-count, length-events}
use Rattle.tv_journal.proofs.Room.{seen, held-length, room-fits, run-room, pushed-yes, pushed-no, events-journal}
use Rattle.tv_journal.proofs.Journal.push_events.Goals as goal

pub returns-then-not-has_room : goal.returns-then-not-has_room
returns-then-not-has_room c =
    pushed-no c.args.self.now (replicate c.args.count (entry.Hart c.args.hart)) (c.if-not-has_room.ensures ∙ sym (run-room c.args.self.now c.args.hart c.args.count c.requires.some))

pub add_events-requires-clause-memory : goal.add_events-requires-clause-memory
add_events-requires-clause-memory c =
    let store = c.self.inside.store in
    let fits =
    room-fits (held store) c.self.inside.end c.self.inside.events (length c.self.inside.store.payload.items) c.self.inside.record_room c.self.inside.payload_room c.self.inside.reserved_records c.self.inside.reserved_bytes
    (entry.Hart c.args.hart) c.self.invariant.kept (rw (held-length store) c.self.invariant.room)
    (c.if-not-has_room.ensures ∙ ap (λ (j : JournalState). has_room j (entry.Hart c.args.hart)) (sym c.self.view_is)) in
    let records_fit = fits.records_fit in
    let payload_fits = fits.payload_fits in
    omega (arith, length-events (held store) c.args.hart c.args.count, c.self.invariant.record_memory)

pub add_events-requires-clause-few : goal.add_events-requires-clause-few
add_events-requires-clause-few c =
    can-count (held c.self.inside.store) c.args.count (rw (ap (λ (j : JournalState). length j.entries) c.self.view_is) c.requires.few)

pub invariant_of-self : goal.invariant_of-self
invariant_of-self c =
    let store = c.self.inside.store in
    let fits =
    room-fits (held store) c.self.inside.end c.self.inside.events (length c.self.inside.store.payload.items) c.self.inside.record_room c.self.inside.payload_room c.self.inside.reserved_records c.self.inside.reserved_bytes
    (entry.Hart c.args.hart) c.self.invariant.kept (rw (held-length store) c.self.invariant.room)
    (c.if-not-has_room.ensures ∙ ap (λ (j : JournalState). has_room j (entry.Hart c.args.hart)) (sym c.self.view_is)) in
    let records_fit = fits.records_fit in
    let payload_fits = fits.payload_fits in
    let few : length (entries_of (held store)) + c.args.count < 2 ^ 32 = rw (ap (λ (j : JournalState). length j.entries) c.self.view_is) c.requires.few in
    let none : outer_of c.self.inside.end ≡ None = rw (ap (λ (j : JournalState). j.outer) c.self.view_is) c.requires.open in
    let same : c.from.result ≡ c.args.count = omega (arith, c.from.ensures) in
    rw same
    (events-journal store c.add_events.new.self c.self.inside.end c.self.inside.events c.self.inside.record_room c.self.inside.payload_room c.self.inside.reserved_records c.self.inside.reserved_bytes c.args.hart c.args.count
    c.self.invariant.kept few (search rules) c.add_events.ensures.fits c.requires.some none c.add_events.ensures.added c.add_events.ensures.lies c.add_events.ensures.payload
    (omega (arith, c.self.invariant.record_memory, c.add_events.ensures.capacity)) c.self.invariant.payload_memory
    (record { records_fit = records_fit; payload_fits = omega arith }))

pub returns : goal.returns
returns c =
    let store = c.self.inside.store in
    rw (← c.self.view_is, c.add_events.ensures.added)
    (pushed-yes (held store) (events_added (held store) c.args.hart c.args.count) c.self.inside.end c.self.inside.record_room c.self.inside.payload_room c.self.inside.reserved_records c.self.inside.reserved_bytes (replicate c.args.count (entry.Hart c.args.hart)) (entries-events (held store) c.args.hart c.args.count)
    (c.if-not-has_room.ensures ∙ ap (λ (j : JournalState). has_room j (entry.Hart c.args.hart)) (sym c.self.view_is)
    ∙ sym (run-room (seen (held store) c.self.inside.end c.self.inside.record_room c.self.inside.payload_room c.self.inside.reserved_records c.self.inside.reserved_bytes) c.args.hart c.args.count c.requires.some)))
