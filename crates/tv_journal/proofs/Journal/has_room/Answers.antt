use Rattle.std.proofs.Common.{length, ap, sym, ◌∙◌}
use Rattle.tv_journal.specs.Journals.{JournalState, has_free, has_room}
use Rattle.tv_journal.specs.Stores.{held}
use Rattle.tv_journal.proofs.Room.{room-is}
use Rattle.tv_journal.proofs.Journal.has_room.Goals as goal

pub returns : goal.returns
returns c =
    let store = c.self.inside.store in
    c.has_free.ensures
    ∙ ap (λ (j : JournalState). has_free j c.records_for.result c.payload_of.result) (sym c.self.view_is)
    ∙ room-is (held store) c.self.inside.end c.self.inside.events (length store.payload.items) c.self.inside.record_room c.self.inside.payload_room c.self.inside.reserved_records c.self.inside.reserved_bytes
    c.records_for.result c.payload_of.result c.args.entry.now c.self.invariant.kept c.records_for.ensures c.payload_of.ensures.bytes
    ∙ ap (λ (j : JournalState). has_room j c.args.entry.now) c.self.view_is
