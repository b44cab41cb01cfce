use Rattle.std.proofs.Common.{ap, subst, length}
use Rattle.tv_journal.specs.Grammar.{outer_of}
use Rattle.tv_journal.specs.Journals.{JournalState, IsOuterEnd}
use Rattle.tv_journal.specs.Stores.{held}
use Rattle.tv_journal.proofs.Kept.{has-line}
use Rattle.tv_journal.proofs.Journal.outer.Goals as goal

pub returns-in-Some-clause-line : goal.returns-in-Some-clause-line
returns-in-Some-clause-line c =
    subst (IsOuterEnd c.args.self.now.entries) (ap outer_of c.in-Some.is) (has-line (held c.self.inside.store) c.self.inside.end c.self.inside.events (length c.self.inside.store.payload.items) c.args.self.now.entries c.self.invariant.kept (ap (λ (j : JournalState). j.entries) c.self.view_is))
