use Rattle.tv_model.proofs.Stepping.{made-again}
use Rattle.tv_model.proofs.replays.step_each.Goals as goal

pub loop-time-preserved : goal.loop-time-preserved
loop-time-preserved g c =
    made-again c.args.monitor.now c.loop-time.monitor c.step.new.self c.args.entry.now c.loop-time._time c.loop-time.invariant c.in_ok-step.ensures.step
