use Rattle.std.proofs.Common.{◌≡◌, take}
use Rattle.tv_core.proofs.copies.copy_devices.Given as goal

-- those so far
abbrev pub invariant-loop-device : goal.invariant-loop-device
invariant-loop-device l = l.copy ≡ take l.device-index l.device-items
