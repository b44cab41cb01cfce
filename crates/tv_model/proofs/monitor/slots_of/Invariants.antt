use Rattle.std.proofs.Common.{◌≡◌, map, take}
use Rattle.tv_spec.specs.State.{first_run}
use Rattle.tv_model.specs.Parts.{run_of}
use Rattle.tv_model.proofs.monitor.slots_of.Given as goal

-- a slot of each device so far
abbrev pub invariant-loop-device : goal.invariant-loop-device
invariant-loop-device g l = map run_of l.slots.items ≡ map first_run (map g.D.Device.state (take l.device-index l.devices))
