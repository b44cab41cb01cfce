use Rattle.std.proofs.Common.{length, ap, sym, ◌∙◌, arith}
use Rattle.tv_journal.specs.Journals.{JournalState, has_free}
use Rattle.tv_journal.specs.Stores.{held}
use Rattle.tv_journal.proofs.Room.{seen, free-fits, held-length, reserved-yes}
use Rattle.tv_journal.proofs.Journal.reserve.Goals as goal

pub invariant_of-self : goal.invariant_of-self
invariant_of-self c =
    let store = c.self.inside.store in
    let fits =
    free-fits (held store) c.self.inside.end c.self.inside.events (length store.payload.items) c.self.inside.record_room c.self.inside.payload_room c.self.inside.reserved_records c.self.inside.reserved_bytes
    c.args.records c.args.bytes c.self.invariant.kept (rw (held-length store) c.self.invariant.room)
    (c.if-not-has_free.ensures ∙ ap (λ (j : JournalState). has_free j c.args.records c.args.bytes) (sym c.self.view_is)) in
    let records_fit = fits.records_fit in
    let payload_fits = fits.payload_fits in
    record {
      kept = c.self.invariant.kept;
      lies = c.self.invariant.lies;
      room = record { records_fit = omega (arith, held-length store); payload_fits = omega arith };
      record_memory = c.self.invariant.record_memory;
      payload_memory = c.self.invariant.payload_memory;
    }

pub returns : goal.returns
returns c =
    let store = c.self.inside.store in
    rw (← c.self.view_is)
    (reserved-yes (seen (held store) c.self.inside.end c.self.inside.record_room c.self.inside.payload_room c.self.inside.reserved_records c.self.inside.reserved_bytes) c.args.records c.args.bytes
    (c.if-not-has_free.ensures ∙ ap (λ (j : JournalState). has_free j c.args.records c.args.bytes) (sym c.self.view_is)))
