-- An engine of probes: a core between the parts of a round, with the probes in its slots.
use Rattle.std.specs.List.{AllByRecursion}
use Rattle.std.specs.Prelude.{◌≡◌, ℕ, suc, ◌<◌, ◌≤◌, Bool, true, false, List, length, get_or, None, IfNone}
use Rattle.tv_machine.specs.declared.kinds.DeviceKind.TheVariants as kind
use Rattle.tv_machine.specs.declared.kinds.DeviceSpec.{DeviceSpec}
use Rattle.tv_machine.specs.Valid.{IsValid}
use Rattle.tv_out.specs.Told.{ToldSink}
use Rattle.tv_plan.specs.Devices.{DeviceState}
use Rattle.tv_plan.specs.Probe.{ProbeState}
use Rattle.tv_spec.specs.Solo.{device_turn, device_turns}
use Rattle.tv_core.specs.Calls.{why_of}
use Rattle.tv_core.specs.Seen.{Seen, debug_of, dev_of, state_of}
use Rattle.tv_runner.specs.Cores.{IsRunTo, stop_of}
use Rattle.tv_runner.specs.Lines.{IsAtRest, IsGoing}
use Rattle.tv_runner.specs.Parts.{Part}
use Rattle.tv_runner.specs.Runs.{IsPut, rounds_of}

-- 1. Probes

-- each of these devices is a probe
abbrev pub AreProbes : List DeviceSpec → Type 0
AreProbes = AllByRecursion (λ device. device.kind ≡ kind.Probe)

-- there are as many as the machine has, and each is at rest
pub record AreAtRest (p : Seen) (probes : List ProbeState) : Type 0 where
  pub count : length probes ≡ length p.machine.device
  pub each : (d : ℕ) (none : ProbeState) → d < length probes → IsAtRest (dev_of p d) (DeviceState.Probe (get_or probes d none))

-- those before a slot have no item left
abbrev pub AreThrough : Seen → ℕ → Type 0
AreThrough p slot = (d : ℕ) → d < slot → length (dev_of p d).made ≤ (dev_of p d).acted

-- all are at rest and have no item left
pub record AreDone (p : Seen) (probes : List ProbeState) : Type 0 where
  pub rest : AreAtRest p probes
  pub through : AreThrough p (length probes)

-- 2. A round

-- the turn of a device, in which it makes all entries that it can: each is a record
abbrev pub device_part : ℕ → Part
device_part d setup bounds solo = device_turn setup bounds d (suc bounds.room) solo

-- the turns of so many devices from one on, and of all
abbrev pub devices_from : ℕ → ℕ → Part
devices_from d left setup bounds solo = device_turns setup bounds d left solo

abbrev pub all_devices : Part
all_devices setup bounds solo = device_turns setup bounds 0 (length setup.devices) solo

-- a run that goes on, in which a round begins: no device has an item, and all debug bytes were handed out
pub record IsReady (p : Seen) (probes : List ProbeState) (count : ℕ) : Type 0 where
  pub valid : IsValid p.machine
  pub harts : count ≡ p.machine.harts
  pub going : IsGoing p
  pub devices : AreDone p probes
  pub handed : length (debug_of p) ≤ p.handed

-- events were made, and the last entry is none but theirs
pub record HasEvents (old new : Seen) : Type 0 where
  pub events : (state_of old).events < (state_of new).events
  pub unticked : (state_of new).ticked ≡ false

-- the harts had their turns, and the run goes on
pub record AreTurnsDone (old new : Seen) (probes : List ProbeState) : Type 0 where
  pub going : IsGoing new
  pub events : HasEvents old new
  pub rest : AreAtRest new probes

-- so did the devices
pub record AreDevicesDone (p : Seen) (probes : List ProbeState) : Type 0 where
  pub going : IsGoing p
  pub devices : AreDone p probes

-- a round is over, in which there were events, and the run goes on
pub record IsRoundDone (old new : Seen) (probes : List ProbeState) : Type 0 where
  pub going : IsGoing new
  pub events : (state_of old).events < (state_of new).events
  pub devices : AreDone new probes

-- 3. Rounds

-- so many rounds and one more, in the last of which the run stopped or bytes were lost
pub record AreRounds (old new : Seen) (lost : Bool) (told now : ToldSink) : Type 0 where
  pub earlier : ℕ
  pub middle : Seen
  pub goes : stop_of middle ≡ None
  pub before : IsRunTo (rounds_of earlier) old middle
  pub part : IsRunTo (rounds_of (suc earlier)) old new
  pub few : suc earlier ≤ old.machine.steps
  pub stopped : IfNone (why_of new) (lost ≡ true)
  pub put : IsPut lost (debug_of middle) (debug_of new) told now
