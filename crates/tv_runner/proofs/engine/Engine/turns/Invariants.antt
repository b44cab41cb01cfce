use Rattle.std.specs.Prelude.{◌≡◌}
use Rattle.tv_runner.proofs.HartLoops.{AreTurnedSo}
use Rattle.tv_runner.proofs.engine.Engine.turns.Given as goal

-- the harts before this one had their turns
abbrev pub invariant-loop-number : goal.invariant-loop-number
invariant-loop-number l = record {
  turned : AreTurnedSo l.fn.self.line.core l.self.line.core l.self.devices.items l.number;
  harts : l.self.harts ≡ l.fn.self.harts;
}
