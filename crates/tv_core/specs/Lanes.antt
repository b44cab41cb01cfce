-- What lies in the lanes between a worker and the services.
use Rattle.std.specs.Prelude.{◌≡◌, ◌⊎◌, Bool, true, if◌then◌else◌, Option, Some, None}
use Rattle.tv_items.specs.declared.action.Heard.{Heard}
use Rattle.tv_items.specs.declared.action.Way.{Way}
use Rattle.tv_side.specs.Sides.{SideState, heard_by, lane_of, with_answer}

-- no reply waits for the worker
abbrev pub IsUnanswered : SideState → Type 0
IsUnanswered s = (s.memory.answered ≡ None) × (s.interrupts.answered ≡ None)

-- a service's reply was taken out of its lane
pub record IsHeardBy (old new : SideState) (way : Way) (heard : Heard) : Type 0 where
  pub said : heard_by (lane_of old way).answered ≡ Some heard
  pub new_is : new ≡ with_answer old way None

abbrev pub IsHeardFrom : SideState → SideState → Heard → Type 0
IsHeardFrom old new heard = IsHeardBy old new Way.Memory heard ⊎ IsHeardBy old new Way.Interrupt heard

-- where no reply lies in a lane, nothing changes but that after the ending the worker is told
abbrev pub HeardSo : SideState → SideState → Bool → Option Heard → Type 0
HeardSo old new ended (Some heard) = IsHeardFrom old new heard
HeardSo old new ended None = IsUnanswered old × (new ≡ (if ended then record old { told = true } else old))
