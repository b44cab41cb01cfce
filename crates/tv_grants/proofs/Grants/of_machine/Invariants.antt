use Rattle.std.proofs.Common.{◌≡◌, ◌≤◌, ◌*◌, ℕ, None, drop, length, slice_index_or}
use Rattle.tv_grants.specs.Grants.{no_grants, ram_bytes}
use Rattle.tv_grants.specs.Machines.{with_devices}
use Rattle.tv_grants.proofs.Grants.of_machine.Given as goal

-- with the devices that are yet to come, the grants become what they have to be
abbrev pub invariant-loop-slot : goal.invariant-loop-slot
invariant-loop-slot l = record {
  state : with_devices 0 l.machine.device (no_grants l.machine.ram) ≡ with_devices l.slot (drop l.slot l.devices) l.grants;
  devices : l.devices ≡ l.machine.device;
  room : length l.grants.ranges ≤ 8 * l.slot;
  numbers : l.grants.taken ≤ 12 * l.slot;
  free : (slot : ℕ) → l.slot ≤ slot → slice_index_or l.grants.sources slot None ≡ None;
  pages : ram_bytes l.grants ≡ l.machine.ram;
}
