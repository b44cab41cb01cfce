use Rattle.std.proofs.Common.{refl}
use Rattle.std.proofs.lemmas.Result.{err_from_is_err_and}
use Rattle.tv_journal.specs.declared.Entry.TheVariants as entry
use Rattle.tv_journal.specs.Entries.{records_of}
use Rattle.tv_model.proofs.Played.{tick-found}
use Rattle.tv_model.proofs.replays.step_other.Goals as goal

pub returns-in_err-step_each-in-Some : goal.returns-in_err-step_each-in-Some
returns-in_err-step_each-in-Some g c =
    let p = err_from_is_err_and c.from_residual.result c.from_residual.ensures.1 in
    rw (p.1, p.2) (record {
      entry = entry.Tick c.in-Some.n;
      count = 1;
      next = tick-found (records_of c.args.journal.now.entries) c.args.cursor.now c.next_tick.new.cursor c.in-Some.n c.in-Some.ensures;
      counted = tt;
      steps = c.in_err-step_each-in-Some.ensures;
    })

pub returns-in_ok-step_each-in-Some : goal.returns-in_ok-step_each-in-Some
returns-in_ok-step_each-in-Some g c = record {
  entry = entry.Tick c.in-Some.n;
  count = 1;
  next = tick-found (records_of c.args.journal.now.entries) c.args.cursor.now c.next_tick.new.cursor c.in-Some.n c.in-Some.ensures;
  counted = refl;
  steps = c.in_ok-step_each-in-Some.ensures;
}
