use Rattle.std.proofs.Common.{◌-◌, arith}
use Rattle.tv_model.proofs.Stepping.{made-events}
use Rattle.tv_model.proofs.replays.step_events.Goals as goal

pub loop-left-preserved : goal.loop-left-preserved
loop-left-preserved g c =
    let done = c.args.count - c.loop-left.left in
    record {
      few = omega (arith, c.loop-left.invariant.few);
      made = made-events c.args.monitor.now c.loop-left.monitor c.burst.new.self c.args.hart done c.in_ok-made.made (c.args.count - (c.loop-left.left - c.in_ok-made.made))
          c.loop-left.invariant.made c.in_ok-made.ensures.moves (omega (arith, c.loop-left.invariant.few, c.in_ok-made.ensures.few));
    }
