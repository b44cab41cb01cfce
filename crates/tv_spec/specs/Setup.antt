-- What the steps of a run read of its machine.
use Rattle.std.specs.Prelude.{ℕ, ◌+◌, List, [], ◌∷◌, map, Bool}
use Rattle.tv_machine.specs.declared.kinds.DeviceKind.{DeviceKind}
use Rattle.tv_machine.specs.declared.kinds.DeviceKind.TheVariants as kind
use Rattle.tv_machine.specs.declared.kinds.DeviceSpec.{DeviceSpec}
use Rattle.tv_machine.specs.declared.kinds.MemRange.{MemRange}
use Rattle.tv_machine.specs.declared.machine.Machine.{Machine}
use Rattle.tv_plan.specs.Balloon.{new_balloon}
use Rattle.tv_plan.specs.Block.{new_block}
use Rattle.tv_plan.specs.Console.{new_console}
use Rattle.tv_plan.specs.Devices.{DeviceState}
use Rattle.tv_plan.specs.Entropy.{new_entropy}
use Rattle.tv_plan.specs.Probe.{new_probe}

-- a device: its ranges of memory with their rights, and whether it has an interrupt source
pub record DeviceSetup : Type 0 where
  pub mem : List MemRange
  pub irq : Bool

-- how many harts it has, how many events its harts may make together, and its devices by their slots
pub record Setup : Type 0 where
  pub harts : ℕ
  pub steps : ℕ
  pub devices : List DeviceSetup

-- the device of a slot as a run begins, by its kind
abbrev pub device_of : DeviceKind → ℕ → DeviceSpec → DeviceState
device_of kind.Block slot device = DeviceState.Block (new_block slot device.sectors device.readonly)
device_of kind.Console slot device = DeviceState.Console new_console
device_of kind.Entropy slot device = DeviceState.Entropy new_entropy
device_of kind.Balloon slot device = DeviceState.Balloon new_balloon
device_of kind.Probe slot device = DeviceState.Probe new_probe

abbrev pub first_device : ℕ → DeviceSpec → DeviceState
first_device slot device = device_of device.kind slot device

-- those of slots in a row
abbrev pub first_devices : ℕ → List DeviceSpec → List DeviceState
first_devices slot [] = []
first_devices slot (device ∷ devices) = first_device slot device ∷ first_devices (slot + 1) devices

abbrev pub device_setup : DeviceSpec → DeviceSetup
device_setup device = record { mem = device.mem; irq = device.irq }

abbrev pub setup_of : Machine → Setup
setup_of machine =
    record { harts = machine.harts; steps = machine.steps; devices = map device_setup machine.device }
