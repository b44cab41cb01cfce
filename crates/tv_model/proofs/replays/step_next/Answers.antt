use Rattle.std.proofs.lemmas.Result.{err_from_is_err_and}
use Rattle.tv_journal.specs.Entries.{records_of}
use Rattle.tv_model.proofs.Played.{run-stops}
use Rattle.tv_model.proofs.replays.step_next.Goals as goal

pub returns-in_err-step_events-in-Some : goal.returns-in_err-step_events-in-Some
returns-in_err-step_events-in-Some g c =
    let p = err_from_is_err_and c.from_residual.result c.from_residual.ensures.1 in
    rw (p.1, p.2) (run-stops (records_of c.args.journal.now.entries) c.args.cursor.now c.next_events.new.cursor c.args.monitor.now c.step_events.new.monitor _ c.in_err-step_events-in-Some.field-0.0
    c.in-Some.ensures c.in_err-step_events-in-Some.ensures)
