use Rattle.std.proofs.Common.{◌≡◌, ap, arith, length}
use Rattle.tv_journal.specs.Entries.{entries_of, record_count}
use Rattle.tv_journal.specs.Journals.{JournalState}
use Rattle.tv_journal.specs.Stores.{held}
use Rattle.tv_journal.proofs.Kept.{count-kept}
use Rattle.tv_journal.proofs.Room.{held-length}
use Rattle.tv_journal.proofs.Journal.records.Goals as goal

pub returns : goal.returns
returns c =
    let store = c.self.inside.store in
    let counted : record_count (entries_of (held store)) ≡ length (held store) = count-kept (held store) c.self.inside.end c.self.inside.events (length store.payload.items) c.self.invariant.kept in
    let viewed : record_count (entries_of (held store)) ≡ record_count c.args.self.now.entries = ap (λ (j : JournalState). record_count j.entries) c.self.view_is in
    omega (arith, c.len.ensures, held-length store)
