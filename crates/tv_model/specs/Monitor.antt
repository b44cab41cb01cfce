-- What the monitor's calls do.
use Rattle.std.specs.Prelude.{◌≡◌, ◌*◌, ◌^◌, ℕ, suc, ◌<◌, ◌≤◌, ◌++◌, [], List, length, Option, Some, None, Bool, true, false, Result, Ok, Err, ⊤, replicate}
use Rattle.tv_base.specs.declared.limits.TheConstants.{PAGE_BYTES}
use Rattle.tv_base.specs.declared.Why.{Why}
use Rattle.tv_guest.specs.Burst.{Stops, events_of}
use Rattle.tv_journal.specs.declared.Entry.{Entry}
use Rattle.tv_journal.specs.declared.Entry.TheVariants as entry
use Rattle.tv_machine.specs.declared.machine.Machine.{Machine}
use Rattle.tv_spec.specs.declared.Closed.{Closed}
use Rattle.tv_spec.specs.declared.Mode.{Mode}
use Rattle.tv_spec.specs.declared.Mode.TheVariants as mode
use Rattle.tv_spec.specs.declared.Shown.{Shown}
use Rattle.tv_plan.specs.Devices.{DeviceState}
use Rattle.tv_spec.specs.Legal.{after}
use Rattle.tv_spec.specs.Setup.{first_devices, setup_of}
use Rattle.tv_spec.specs.Shows.{bytes_of, debug_bytes, exit_status}
use Rattle.tv_spec.specs.State.{first_state}
use Rattle.tv_spec.specs.Step.{Move, made, ended, Can, event_of}
use Rattle.tv_spec.proofs.Valid.{HasRun}
use Rattle.tv_spec.proofs.Whole.{AreInRam}
use Rattle.tv_model.specs.declared.fault.StepFault.{StepFault}
use Rattle.tv_model.specs.declared.fault.StepFault.TheVariants as step_fault
use Rattle.tv_model.specs.MonitorState.{MonitorState, setup_in, state_in}
use Rattle.tv_model.specs.Moves.{AreMade, IsMade, IsSame}

-- it has what each state of a legal run has
pub record IsMonitor (m : MonitorState) : Type 0 where
  pub bytes : ℕ
  pub pages : ℕ
  pub run : HasRun (setup_in m) bytes pages (state_in m)
  pub within : AreInRam bytes (setup_in m).devices
  pub memory : pages * PAGE_BYTES ≡ bytes
  pub steps : m.guest.steps < 2 ^ 32
  pub few : length m.guest.harts ≤ 8

-- as the run of a machine with an image begins
pub record IsFirst (m : MonitorState) (machine : Machine) (image : List ℕ) : Type 0 where
  pub setup : setup_in m ≡ setup_of machine
  pub state : state_in m ≡ first_state machine image
  pub console : m.console ≡ []

-- the devices of a machine's slots, each as a run begins
abbrev pub AreDevices : Machine → List DeviceState → Type 0
AreDevices machine devices = devices ≡ first_devices 0 machine.device

-- a step was made, and its byte at the debug port came after those before
pub record IsStep (old new : MonitorState) (move : Move) : Type 0 where
  pub step : IsMade old new move
  pub console : new.console ≡ old.console ++ bytes_of (state_in old) move

-- there is no such step
pub record IsNoStep (old new : MonitorState) (move : Move) : Type 0 where
  pub cannot : Can (setup_in old) (state_in old) move → ⊥
  pub same : IsSame old new

-- an entry by the answer to it
abbrev pub StepsSo : MonitorState → MonitorState → Entry → Result ⊤ StepFault → Type 0
StepsSo old new entry (Ok _) = IsStep old new (made entry)
StepsSo old new entry (Err step_fault.Illegal) = IsNoStep old new (made entry)
StepsSo old new entry (Err step_fault.Memory) = IsSame old new

-- nothing is closed
abbrev pub gates_open : Closed
gates_open = record { debug = false; loads = replicate 8 false; stores = replicate 8 false }

-- some events of a hart were made, of up to so many, and their bytes came after those before; there are fewer only where the last
-- one showed something, or the run ended
pub record IsMonitorBurst (old new : MonitorState) (hart most count : ℕ) : Type 0 where
  pub seen : Shown
  pub some : 0 < count
  pub few : count ≤ most
  pub moves : AreMade old new (events_of hart count)
  pub console : new.console ≡ old.console ++ debug_bytes (setup_in old) (state_in old) (events_of hart count)
  pub last : (n : ℕ) → count ≡ suc n → seen ≡ (event_of (after (setup_in old) (state_in old) (events_of hart n)) hart).2.shown
  pub stops : count < most → Stops gates_open (state_in new) hart seen

-- a burst by the answer to it
abbrev pub BurstsSo : MonitorState → MonitorState → ℕ → ℕ → Result ℕ StepFault → Type 0
BurstsSo old new hart most (Ok count) = IsMonitorBurst old new hart most count
BurstsSo old new hart most (Err step_fault.Illegal) = IsNoStep old new (made (entry.Hart hart))
BurstsSo old new hart most (Err step_fault.Memory) = IsSame old new

-- an outer end by the answer to it
abbrev pub EndsSo : MonitorState → MonitorState → Why → Bool → Type 0
EndsSo old new cause true = IsStep old new (ended cause)
EndsSo old new cause false = IsNoStep old new (ended cause)

-- the exit status; none where the run has not ended
abbrev pub status_of : Mode → Option ℕ
status_of (mode.Ending cause) = Some (exit_status cause)
status_of _ = None
