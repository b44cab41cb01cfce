use Rattle.std.proofs.Common.{◌≡◌, ◌++◌, codes, drop}
use Rattle.toml.specs.View.{items_view}
use Rattle.tv_machine_file.specs.DeviceFiles.{devices_in, slot_faults}
use Rattle.tv_machine_file.proofs.device.read_each.Given as goal

abbrev pub invariant-loop-slot : goal.invariant-loop-slot
invariant-loop-slot l =
    record {
      faults : slot_faults (codes "device") l.ram 0 (items_view l.items) ≡ slot_faults (codes "device") l.ram l.slot (items_view (drop l.slot l.items));
      devices : devices_in l.ram (items_view l.items) ≡ l.devices ++ devices_in l.ram (items_view (drop l.slot l.items));
    }
