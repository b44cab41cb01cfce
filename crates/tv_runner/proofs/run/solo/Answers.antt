use Rattle.tv_runner.proofs.CoreRuns.{run_is}
use Rattle.tv_runner.proofs.run.solo.Goals as goal

pub returns-clause-ran : goal.returns-clause-ran
returns-clause-ran g c =
    run_is c.args.machine.now c.args.image.now c.in_ok-engine.engine.line.core c.rounds-lost.new.self.line.core c.into_journal.result c.stop-stop.result c.rounds-lost.result
    (g.O.Sink.told c.args.out.now) (g.O.Sink.told c.rounds-lost.new.out) c.in_ok-engine.ensures.core c.rounds-lost.ensures.rounds c.stop-stop.ensures
    c.into_journal.ensures.entries c.into_journal.ensures.outer c.into_journal.ensures.legal c.into_journal.ensures.cause
