use Rattle.std.proofs.Common.{ap, Err, inl, refl}
use Rattle.tv_top.proofs.Chains.{passed-as}
use Rattle.tv_top.proofs.Loads.{no-journal-in}
use Rattle.tv_top.specs.Refusals.{journal_refused}
use Rattle.tv_top.proofs.files.load_journal.Goals as goal

pub returns-in_err-read_file : goal.returns-in_err-read_file
returns-in_err-read_file g c =
    rw (passed-as (λ journal. journal) c.from_residual-in_err-read_file.result (journal_refused c.in_err-read_file.field-0.0) c.from_residual-in_err-read_file.ensures)
    (inl (record {
      value = c.in_ok-bytes.bytes.items;
      middle = g.S.Store.told c.load.new.store;
      done = c.in_ok-bytes.ensures.loads;
      then = record {
        holds = no-journal-in c.in_ok-bytes.bytes.items c.in_err-read_file.field-0.0
            (λ at is. rw c.deref.ensures.value at c.in_err-read_file.ensures.no_file at (ap Err is))
            (λ at is. rw c.deref.ensures.value at c.in_err-read_file.ensures.front at (ap Err is));
        still = refl;
      };
    }))
