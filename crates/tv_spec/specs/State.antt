-- The state of the in-process monitor. There is no message, no tube and no thread in it.
use Rattle.std.specs.Prelude.{ℕ, ◌/◌, List, [], length, replicate, slice_get, slice_index_or, Option, Some, None, Bool, false}
use Rattle.tv_base.specs.declared.limits.TheConstants.{PAGE_BYTES}
use Rattle.tv_hart.specs.Hart.{first_hart}
use Rattle.tv_hart.specs.HartState.{HartState}
use Rattle.tv_items.specs.declared.action.Heard.{Heard}
use Rattle.tv_machine.specs.declared.kinds.DeviceSpec.{DeviceSpec}
use Rattle.tv_machine.specs.declared.machine.Machine.{Machine}
use Rattle.tv_plan.specs.Devices.{DeviceState}
use Rattle.tv_plan.specs.Probe.{new_probe}
use Rattle.tv_ram.specs.Memory.{with_image}
use Rattle.tv_spec.specs.declared.Mode.{Mode}
use Rattle.tv_spec.specs.declared.Mode.TheVariants as mode
use Rattle.tv_spec.specs.LocalState.{LocalState, first_local}
use Rattle.tv_spec.specs.declared.Due.{Due}
use Rattle.tv_spec.specs.declared.Made.{Made}
use Rattle.tv_spec.specs.declared.Pending.{Pending}
use Rattle.tv_spec.specs.declared.Phase.{Phase}
use Rattle.tv_spec.specs.Setup.{DeviceSetup, first_device}

-- 1. A device, and what is under way at it

-- all its items in order; on how many of them it acted; its state when it last acted; the replies that it got since then; how
-- far its next action is; the answers without a Reply, and those with a Reply that were not delivered, oldest first
pub record DeviceRun : Type 0 where
  pub made : List Made
  pub acted : ℕ
  pub device : DeviceState
  pub got : List Heard
  pub phase : Phase
  pub due : List Due
  pub replied : List Due

-- a device before its first item
abbrev pub first_run : DeviceState → DeviceRun
first_run device =
    record { made = []; acted = 0; device = device; got = []; phase = Phase.Quiet; due = []; replied = [] }

-- in a slot without a device nothing is ever made; a probe stands there, without grants
abbrev pub first_in : ℕ → Option DeviceSpec → DeviceState
first_in slot None = DeviceState.Probe new_probe
first_in slot (Some device) = first_device slot device

abbrev pub no_device : DeviceSetup
no_device = record { mem = []; irq = false }

abbrev pub device_in : List DeviceSetup → ℕ → DeviceSetup
device_in devices slot = slice_index_or devices slot no_device

-- 2. The machine

-- the harts by their numbers, each with the value of its load as soon as the device acted on it; by the number of a hart the
-- load that was not delivered to it; the devices by their slots; what harts reach and share; by page of memory whether it is
-- withdrawn from all devices; whether the run goes on; how many events the harts made; and whether the last entry was a tick
pub record State : Type 0 where
  pub harts : ℕ → HartState
  pub pending : ℕ → Option Pending
  pub devs : ℕ → DeviceRun
  pub local : LocalState
  pub withdrawn : List Bool
  pub mode : Mode
  pub events : ℕ
  pub ticked : Bool

-- the image lies at the start of memory, each hart begins at its first byte with its number in x10, and no device has an item
abbrev pub first_state : Machine → List ℕ → State
first_state machine image = record {
  harts = first_hart;
  pending = λ hart. None;
  devs = λ slot. first_run (first_in slot (slice_get machine.device slot));
  local = first_local machine.harts (length machine.device) (with_image machine.ram image);
  withdrawn = replicate (machine.ram / PAGE_BYTES) false;
  mode = mode.Running;
  events = 0;
  ticked = false;
}
