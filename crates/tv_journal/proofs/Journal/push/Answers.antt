use Rattle.std.proofs.Common.{◌<◌, ◌-◌, ◌^◌, ◌∷◌, [], length, ap, sym, ◌∙◌, rules, arith}
use Rattle.tv_journal.specs.Entries.{entries_of}
use Rattle.tv_journal.specs.Grammar.{outer_of}
use Rattle.tv_journal.specs.Journals.{JournalState, MayFollow, has_room}
use Rattle.tv_journal.specs.Stores.{held, added}
use Rattle.tv_journal.proofs.Added.{entries-added}
use Rattle.tv_journal.proofs.Kept.{can-count, length-added}
use Rattle.tv_journal.proofs.Room.{held-length, room-fits, pushed-yes, pushed-journal}
use Rattle.tv_journal.proofs.Journal.push.Goals as goal

pub add-requires-clause-memory : goal.add-requires-clause-memory
add-requires-clause-memory c =
    let store = c.self.inside.store in
    let fits =
    room-fits (held store) c.self.inside.end c.self.inside.events (length c.self.inside.store.payload.items) c.self.inside.record_room c.self.inside.payload_room c.self.inside.reserved_records c.self.inside.reserved_bytes
    c.args.entry.now c.self.invariant.kept (rw (held-length store) c.self.invariant.room)
    (c.if-not-has_room.ensures ∙ ap (λ (j : JournalState). has_room j c.args.entry.now) (sym c.self.view_is)) in
    let records_fit = fits.records_fit in
    let payload_fits = fits.payload_fits in
    omega (arith, length-added (held store) c.args.entry.now, c.self.invariant.record_memory)

pub add-requires-clause-payload_memory : goal.add-requires-clause-payload_memory
add-requires-clause-payload_memory c =
    let store = c.self.inside.store in
    let fits =
    room-fits (held store) c.self.inside.end c.self.inside.events (length c.self.inside.store.payload.items) c.self.inside.record_room c.self.inside.payload_room c.self.inside.reserved_records c.self.inside.reserved_bytes
    c.args.entry.now c.self.invariant.kept (rw (held-length store) c.self.invariant.room)
    (c.if-not-has_room.ensures ∙ ap (λ (j : JournalState). has_room j c.args.entry.now) (sym c.self.view_is)) in
    let records_fit = fits.records_fit in
    let payload_fits = fits.payload_fits in
    omega (arith, c.self.invariant.payload_memory)

pub add-requires-clause-few : goal.add-requires-clause-few
add-requires-clause-few c =
    let few : length (entries_of (held c.self.inside.store)) < 2 ^ 32 - 1 = rw (ap (λ (j : JournalState). length j.entries) c.self.view_is) c.requires.few in
    can-count (held c.self.inside.store) 1 (omega arith)

pub invariant_of-self : goal.invariant_of-self
invariant_of-self c =
    let store = c.self.inside.store in
    let fits =
    room-fits (held store) c.self.inside.end c.self.inside.events (length c.self.inside.store.payload.items) c.self.inside.record_room c.self.inside.payload_room c.self.inside.reserved_records c.self.inside.reserved_bytes
    c.args.entry.now c.self.invariant.kept (rw (held-length store) c.self.invariant.room)
    (c.if-not-has_room.ensures ∙ ap (λ (j : JournalState). has_room j c.args.entry.now) (sym c.self.view_is)) in
    let records_fit = fits.records_fit in
    let payload_fits = fits.payload_fits in
    let few : length (entries_of (held store)) < 2 ^ 32 - 1 = rw (ap (λ (j : JournalState). length j.entries) c.self.view_is) c.requires.few in
    let follows : MayFollow (outer_of c.self.inside.end) c.args.entry.now = rw (ap (λ (j : JournalState). j.outer) c.self.view_is) c.requires.follows in
    pushed-journal store c.add.new.self c.self.inside.end c.self.inside.events c.self.inside.record_room c.self.inside.payload_room c.self.inside.reserved_records c.self.inside.reserved_bytes c.args.entry.now
    c.self.invariant.kept few (search rules) c.add.ensures.fits c.requires.entry follows c.add.ensures.added c.add.ensures.lies c.add.ensures.payload
    (omega (arith, c.self.invariant.record_memory, c.add.ensures.record_capacity)) (omega (arith, c.self.invariant.payload_memory, c.add.ensures.payload_capacity)) fits

pub returns : goal.returns
returns c =
    let store = c.self.inside.store in
    rw (← c.self.view_is, c.add.ensures.added)
    (pushed-yes (held store) (added (held store) c.args.entry.now) c.self.inside.end c.self.inside.record_room c.self.inside.payload_room c.self.inside.reserved_records c.self.inside.reserved_bytes (c.args.entry.now ∷ []) (entries-added (held store) c.args.entry.now)
    (c.if-not-has_room.ensures ∙ ap (λ (j : JournalState). has_room j c.args.entry.now) (sym c.self.view_is)))
