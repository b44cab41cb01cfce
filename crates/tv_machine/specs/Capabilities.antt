-- The capabilities of a machine, and the sectors of its disks.
use Rattle.std.specs.Prelude.{ℕ, zero, suc, ◌+◌, ◌++◌, Bool, true, false, List, [], ◌∷◌, map, slice_get, Option, Some, None, option_map, option_and_then, option_to_list}
use Rattle.tv_machine.specs.declared.kinds.MemRange.{MemRange}
use Rattle.tv_machine.specs.declared.kinds.DeviceSpec.{DeviceSpec}
use Rattle.tv_machine.specs.declared.machine.Machine.{Machine}
use Rattle.tv_machine.specs.declared.capabilities.Spot.{Spot}
use Rattle.tv_machine.specs.declared.capabilities.Spot.TheVariants as spot

-- what the device in a slot is granted: a memory range, a file by its name, or an interrupt source
pub data Capability : Type 0 where
  memory : ℕ → MemRange → Capability
  disk : ℕ → List ℕ → Capability
  output : ℕ → List ℕ → Capability
  input : ℕ → List ℕ → Capability
  source : ℕ → Capability

-- an interrupt source, if there is one
abbrev pub source_capability : ℕ → Bool → List Capability
source_capability slot false = []
source_capability slot true = source slot ∷ []

-- the capabilities of the device in a slot: its ranges, its files, its interrupt source
abbrev pub device_capabilities : ℕ → DeviceSpec → List Capability
device_capabilities slot d =
    map (memory slot) d.mem ++ (map (disk slot) (option_to_list d.disk)
    ++ (map (output slot) (option_to_list d.output) ++ (map (input slot) (option_to_list d.input) ++ source_capability slot d.irq)))

-- those of devices in the slots from this one on
abbrev pub capabilities_from : ℕ → List DeviceSpec → List Capability
capabilities_from slot [] = []
capabilities_from slot (d ∷ ds) = device_capabilities slot d ++ capabilities_from (slot + 1) ds

-- the capabilities of a machine; a capability's number is its place in this list
abbrev pub capabilities : Machine → List Capability
capabilities m = capabilities_from 0 m.device

-- the slot of a disk
abbrev pub slot_of_disk : Capability → Option ℕ
slot_of_disk (disk slot name) = Some slot
slot_of_disk _ = None

-- the slot of the disk that has this capability number, if it is a disk's
abbrev pub disk_slot_of : Machine → ℕ → Option ℕ
disk_slot_of m cap = option_and_then slot_of_disk (slice_get (capabilities m) cap)

abbrev pub sectors_at : List DeviceSpec → ℕ → Option ℕ
sectors_at ds slot = option_map (λ d. d.sectors) (slice_get ds slot)

-- how many sectors the disk with this capability number has
abbrev pub sectors_of : Machine → ℕ → Option ℕ
sectors_of m cap = option_and_then (sectors_at m.device) (disk_slot_of m cap)

-- the devices, with this number of sectors for the disk of one of them
abbrev pub resized_at : ℕ → ℕ → List DeviceSpec → List DeviceSpec
resized_at slot sectors [] = []
resized_at zero sectors (d ∷ ds) = record d { sectors = sectors } ∷ ds
resized_at (suc slot) sectors (d ∷ ds) = d ∷ resized_at slot sectors ds

-- the machine with this number of sectors for the disk in a slot, if there is one
abbrev pub resized_in : Machine → ℕ → Option ℕ → Machine
resized_in m sectors None = m
resized_in m sectors (Some slot) = record m { device = resized_at slot sectors m.device }

-- the machine with this number of sectors for the disk that has this capability number
abbrev pub resized : Machine → ℕ → ℕ → Machine
resized m cap sectors = resized_in m sectors (disk_slot_of m cap)

-- where a place in these capabilities points to; past them it is a place in those that follow
abbrev pub spot_of : Capability → Spot
spot_of (disk slot name) = spot.Disk
spot_of _ = spot.Other

abbrev pub spot_at : List Capability → ℕ → Spot
spot_at [] at = spot.After at
spot_at (c ∷ cs) zero = spot_of c
spot_at (c ∷ cs) (suc at) = spot_at cs at
