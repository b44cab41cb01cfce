-- What each state of a legal run has of the services under way, for proofs alone: each reply answers the action before it, and
-- what is under way is the device's next action, on its way.
use Rattle.std.specs.Prelude.{ℕ}
use Rattle.tv_plan.specs.Devices.{DeviceState, next}
use Rattle.tv_script.specs.Answers.{IsHeard}
use Rattle.tv_script.specs.Services.{Next}
use Rattle.tv_spec.specs.Devices.{GoesInside, GoesOutside, heard_by, next_of}
use Rattle.tv_spec.specs.declared.Phase.{Phase}
use Rattle.tv_spec.specs.State.{DeviceRun}

abbrev pub FitsPhase : Phase → Next DeviceState → Type 0
FitsPhase Phase.Quiet n = Unit {0}
FitsPhase Phase.Sent n = GoesInside n
FitsPhase (Phase.Served reply) n = Unit {0}
FitsPhase Phase.Intended n = GoesOutside n

pub record IsServing (v : DeviceRun) : Type 0 where
  pub heard : IsHeard (next v.device) (heard_by v)
  pub way : FitsPhase v.phase (next_of v)

abbrev pub AreServing : (ℕ → DeviceRun) → Type 0
AreServing devs = (d : ℕ) → IsServing (devs d)
