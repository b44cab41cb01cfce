-- Actions of devices on memory and interrupts, by the grants as code keeps them.
use Rattle.std.specs.Prelude.{ℕ, List, length, Option}
use Rattle.tv_base.specs.declared.limits.TheConstants.{PAGE_BYTES}
use Rattle.tv_grants.specs.Grants.{GrantState, owns_source, ranges_of}
use Rattle.tv_items.specs.declared.action.Action.{Action}
use Rattle.tv_items.specs.declared.action.Action.TheVariants as action
use Rattle.tv_items.specs.declared.action.Heard.{Heard}
use Rattle.tv_items.specs.declared.action.Heard.TheVariants as heard
use Rattle.tv_ram.specs.Memory.{page_base}
use Rattle.tv_spec.specs.Reservations.{after_other_write}
use Rattle.tv_spec.specs.Setup.{DeviceSetup}

-- what the device in a slot was granted
abbrev pub granted_to : GrantState → ℕ → DeviceSetup
granted_to grants slot = record { mem = ranges_of slot grants.ranges; irq = owns_source grants slot }

-- the reservations after an action with this reply: those end of which it wrote a byte
abbrev pub reservations_after : Action → Heard → List (Option ℕ) → List (Option ℕ)
reservations_after (action.Write addr bytes) heard.Done reservations = after_other_write addr (length bytes) reservations
reservations_after (action.Release page hold) heard.Done reservations = after_other_write (page_base page) PAGE_BYTES reservations
reservations_after action reply reservations = reservations
