use Rattle.std.specs.Prelude.{◌≡◌}
use Rattle.tv_runner.proofs.DeviceLoops.{AreServed}
use Rattle.tv_runner.proofs.engine.Engine.serve.Given as goal

-- the devices before this slot had their turns
abbrev pub invariant-loop-slot : goal.invariant-loop-slot
invariant-loop-slot l = record {
  served : AreServed l.fn.self.line.core l.self.line.core l.self.devices.items l.slot;
  harts : l.self.harts ≡ l.fn.self.harts;
}
