-- A journal that was put to a file.
use Rattle.std.proofs.Common.{◌≡◌, Bool, is_ok, Result, Ok, Err, sym, subst}
use Rattle.std.specs.Prelude.{⊤}
use Rattle.tv_journal.specs.Journals.{JournalState}
use Rattle.tv_journal.specs.Writing.{IsSaved}
use Rattle.tv_base.specs.declared.Failed.{Failed}
use Rattle.tv_out.specs.Told.{ToldSink}
use Rattle.tv_top.specs.Steps.{IsPutTo}

by-answer : (created closed : ToldSink) (journal : JournalState) (result : Result ⊤ Failed) → IsSaved result journal.entries journal.outer created closed
    → IsPutTo created journal (is_ok result)
by-answer created closed journal (Ok done) saved = record { bytes = saved.bytes; spells = saved.spells; puts = saved.gives.was_room }
by-answer created closed journal (Err failed) saved = record { bytes = saved.bytes; spells = saved.spells; puts = saved.gives.fell_short }

pub put-to : (created closed : ToldSink) (journal : JournalState) (result : Result ⊤ Failed) (saved : Bool)
    → IsSaved result journal.entries journal.outer created closed → saved ≡ is_ok result → IsPutTo created journal saved
put-to created closed journal result saved so is = subst (λ (b : Bool). IsPutTo created journal b) (sym is) (by-answer created closed journal result so)
