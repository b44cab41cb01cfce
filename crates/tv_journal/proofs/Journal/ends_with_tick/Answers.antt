use Rattle.std.proofs.Common.{◌≡◌, List, ap, sym, ◌∙◌}
use Rattle.std.specs.Option.{is_some}
use Rattle.tv_journal.specs.Entries.{Record, records_of}
use Rattle.tv_journal.specs.Grammar.{last_record}
use Rattle.tv_journal.specs.Journals.{JournalState, ends_with_tick}
use Rattle.tv_journal.specs.Stores.{held, tick_of}
use Rattle.tv_journal.proofs.Records.{kept-records}
use Rattle.tv_journal.proofs.Journal.ends_with_tick.Goals as goal

pub returns : goal.returns
unfolding ends_with_tick
returns c =
    let store = c.self.inside.store in
    let records : records_of c.args.self.now.entries ≡ held store =
    kept-records (held store) c.args.self.now.entries c.self.invariant.kept.are.each c.self.invariant.kept.are.apart (ap (λ (j : JournalState). j.entries) c.self.view_is) in
    c.is_some.ensures ∙ ap is_some c.last_tick.ensures ∙ ap (λ (rs : List Record). is_some (tick_of (last_record rs))) (sym records)
