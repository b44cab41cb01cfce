-- The monitor as contracts see it.
use Rattle.std.specs.Prelude.{ℕ, suc, zero, ◌+◌, List, [], ◌∷◌, length, slice_index_or, Option, None, Bool, true}
use Rattle.tv_grants.specs.Grants.{GrantState}
use Rattle.tv_guest.specs.Direct.{granted_to}
use Rattle.tv_guest.specs.GuestState.{GuestState}
use Rattle.tv_hart.specs.Hart.{first_hart}
use Rattle.tv_spec.specs.declared.Pending.{Pending}
use Rattle.tv_spec.specs.Setup.{DeviceSetup, Setup}
use Rattle.tv_spec.specs.State.{DeviceRun, State, first_in, first_run}

-- a device, and whether memory is there for an item more
pub record SlotState : Type 0 where
  pub run : DeviceRun
  pub spare : Bool

-- harts, memory and local ports; what the devices were granted; the devices; by the number of a hart the load that was not
-- delivered to it; whether the last entry was a tick; and the bytes at the debug port so far
pub record MonitorState : Type 0 where
  pub guest : GuestState
  pub grants : GrantState
  pub slots : List SlotState
  pub pending : List (Option Pending)
  pub ticked : Bool
  pub console : List ℕ

-- the grants of so many devices from a slot on
abbrev pub grants_from : GrantState → ℕ → ℕ → List DeviceSetup
grants_from grants slot zero = []
grants_from grants slot (suc count) = granted_to grants slot ∷ grants_from grants (slot + 1) count

-- what its steps read of the machine
abbrev pub setup_in : MonitorState → Setup
setup_in m = record { harts = length m.guest.harts; steps = m.guest.steps; devices = grants_from m.grants 0 (length m.slots) }

-- in a slot without a device nothing is ever made
abbrev pub no_slot : SlotState
no_slot = record { run = first_run (first_in 0 None); spare = true }

abbrev pub run_at : List SlotState → ℕ → DeviceRun
run_at slots slot = (slice_index_or slots slot no_slot).run

-- the state that it is; a number past its harts stands for a hart at its start
abbrev pub state_in : MonitorState → State
state_in m = record {
  harts = λ hart. slice_index_or m.guest.harts hart (first_hart hart);
  pending = λ hart. slice_index_or m.pending hart None;
  devs = run_at m.slots;
  local = m.guest.local;
  withdrawn = m.grants.withdrawn;
  mode = m.guest.mode;
  events = m.guest.events;
  ticked = m.ticked;
}
