use Rattle.std.proofs.Common.{◌≡◌, drop}
use Rattle.tv_machine.specs.Capabilities.{capabilities_from}
use Rattle.tv_machine.proofs.Spots.{found}
use Rattle.tv_machine.proofs.capabilities.disk_slot.Given as goal

abbrev pub invariant-loop-slot : goal.invariant-loop-slot
invariant-loop-slot l = found (capabilities_from 0 l.devices) l.cap ≡ found (capabilities_from l.slot (drop l.slot l.devices)) l.at
