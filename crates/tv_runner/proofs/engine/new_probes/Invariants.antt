use Rattle.std.specs.Prelude.{◌≡◌, replicate}
use Rattle.tv_plan.specs.Probe.{new_probe}
use Rattle.tv_runner.proofs.engine.new_probes.Given as goal

-- as many as devices were passed
abbrev pub invariant-loop-device : goal.invariant-loop-device
invariant-loop-device l = l.probes.items ≡ replicate l._device-index new_probe
