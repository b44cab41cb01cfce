use Rattle.std.proofs.Common.{◌+◌, length, ap, sym, ◌∙◌, arith}
use Rattle.tv_journal.specs.Journals.{JournalState, has_free}
use Rattle.tv_journal.specs.Stores.{held}
use Rattle.tv_journal.proofs.Room.{held-length, free-fits, reserved-for-yes, reserved-for-no}
use Rattle.tv_journal.proofs.Journal.reserve_for.Goals as goal

pub overflow_add-bytes : goal.overflow_add-bytes
overflow_add-bytes c = omega (arith, c.payload_of.ensures.few, c.ranges.bytes)

pub returns-then-not-has_free : goal.returns-then-not-has_free
returns-then-not-has_free c =
    rw (← c.self.view_is)
    (reserved-for-no (held c.self.inside.store) c.self.inside.end c.self.inside.events (length c.self.inside.store.payload.items) c.self.inside.record_room c.self.inside.payload_room c.self.inside.reserved_records c.self.inside.reserved_bytes
    c.records_for.result c.payload_of.result c.args.records c.args.bytes c.args.entry.now c.self.invariant.kept c.records_for.ensures c.payload_of.ensures.bytes
    (c.if-not-has_free.ensures ∙ ap (λ (j : JournalState). has_free j (c.records_for.result + c.args.records) (c.payload_of.result + c.args.bytes)) (sym c.self.view_is)))

pub invariant_of-self : goal.invariant_of-self
invariant_of-self c =
    let store = c.self.inside.store in
    let fits =
    free-fits (held store) c.self.inside.end c.self.inside.events (length c.self.inside.store.payload.items) c.self.inside.record_room c.self.inside.payload_room c.self.inside.reserved_records c.self.inside.reserved_bytes
    (c.records_for.result + c.args.records) (c.payload_of.result + c.args.bytes) c.self.invariant.kept (rw (held-length store) c.self.invariant.room)
    (c.if-not-has_free.ensures ∙ ap (λ (j : JournalState). has_free j (c.records_for.result + c.args.records) (c.payload_of.result + c.args.bytes)) (sym c.self.view_is)) in
    let records_fit = fits.records_fit in
    let payload_fits = fits.payload_fits in
    record {
      kept = c.self.invariant.kept;
      lies = c.self.invariant.lies;
      room = record { records_fit = omega (arith, held-length store); payload_fits = omega arith };
      record_memory = c.self.invariant.record_memory;
      payload_memory = c.self.invariant.payload_memory;
    }

pub returns : goal.returns
returns c =
    rw (← c.self.view_is)
    (reserved-for-yes (held c.self.inside.store) c.self.inside.end c.self.inside.events (length c.self.inside.store.payload.items) c.self.inside.record_room c.self.inside.payload_room c.self.inside.reserved_records c.self.inside.reserved_bytes
    c.records_for.result c.payload_of.result c.args.records c.args.bytes c.args.entry.now c.self.invariant.kept c.records_for.ensures c.payload_of.ensures.bytes
    (c.if-not-has_free.ensures ∙ ap (λ (j : JournalState). has_free j (c.records_for.result + c.args.records) (c.payload_of.result + c.args.bytes)) (sym c.self.view_is)))
