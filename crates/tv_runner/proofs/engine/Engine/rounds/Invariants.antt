use Rattle.std.specs.Prelude.{◌-◌}
use Rattle.tv_core.specs.Seen.{state_of}
use Rattle.tv_runner.specs.Engines.{IsReady}
use Rattle.tv_runner.proofs.RoundLoops.{IsAtRounds}
use Rattle.tv_runner.proofs.engine.Engine.rounds.Given as goal

-- the rounds so far went on
abbrev pub invariant-loop-bytes : goal.invariant-loop-bytes
invariant-loop-bytes g l = record {
  ready : IsReady l.self.line.core l.self.devices.items l.self.harts;
  at : IsAtRounds l.fn.self.line.core l.self.line.core (g.O.Sink.told l.fn.out) (g.O.Sink.told l.out);
}

-- the events that the run may still have
abbrev pub decreases-loop-bytes : goal.decreases-loop-bytes
decreases-loop-bytes g l = l.fn.self.line.core.machine.steps - (state_of l.self.line.core).events
