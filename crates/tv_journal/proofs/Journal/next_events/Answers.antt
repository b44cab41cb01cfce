use Rattle.std.proofs.Common.{◌≡◌, ap}
use Rattle.std.specs.List.{slice_get}
use Rattle.tv_journal.specs.Entries.{records_of}
use Rattle.tv_journal.specs.Journals.{JournalState}
use Rattle.tv_journal.specs.Stores.{held}
use Rattle.tv_journal.proofs.Records.{kept-records}
use Rattle.tv_journal.proofs.Stored.{run-none, run-some}
use Rattle.tv_journal.proofs.Journal.next_events.Goals as goal

pub returns-in-None : goal.returns-in-None
returns-in-None c =
    let store = c.self.inside.store in
    let records : records_of c.args.self.now.entries ≡ held store =
    kept-records (held store) c.args.self.now.entries c.self.invariant.kept.are.each c.self.invariant.kept.are.apart (ap (λ (j : JournalState). j.entries) c.self.view_is) in
    rw (records, ← c.cursor.view_is) (run-none c.cursor.inside.next (slice_get (held store) c.cursor.inside.next) c.in-None.ensures)

pub returns-in-Some : goal.returns-in-Some
returns-in-Some c =
    let store = c.self.inside.store in
    let records : records_of c.args.self.now.entries ≡ held store =
    kept-records (held store) c.args.self.now.entries c.self.invariant.kept.are.each c.self.invariant.kept.are.apart (ap (λ (j : JournalState). j.entries) c.self.view_is) in
    rw (records, ← c.cursor.view_is) (run-some c.cursor.inside.next (slice_get (held store) c.cursor.inside.next) c.in-Some.run' c.in-Some.ensures)
