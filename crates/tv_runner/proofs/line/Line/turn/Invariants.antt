use Rattle.tv_runner.proofs.LineTurns.{IsTurning, items_left}
use Rattle.tv_runner.proofs.line.Line.turn.Given as goal

-- the device is at rest between two items
abbrev pub invariant-loop-tag : goal.invariant-loop-tag
invariant-loop-tag g l = IsTurning l.fn.self.at l.self.at l.fn.self.core l.self.core (g.D.Device.state l.device)

abbrev pub decreases-loop-tag : goal.decreases-loop-tag
decreases-loop-tag g l = items_left l.self.core l.self.at
