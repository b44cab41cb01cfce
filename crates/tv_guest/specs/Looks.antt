-- What the next event of a hart would show, found without making it.
use Rattle.std.specs.Prelude.{◌≡◌, ◌≢◌, ℕ, ◌%◌, ◌^◌, ◌++◌, ◌≤◌, if◌then◌else◌, length, slice_index_or, Option, Some, None}
use Rattle.tv_base.specs.declared.Access.TheVariants as access
use Rattle.tv_base.specs.declared.Width.{Width}
use Rattle.tv_base.specs.Width.{width_bytes}
use Rattle.tv_bus.specs.declared.Target.{Target}
use Rattle.tv_bus.specs.declared.Target.TheVariants as target
use Rattle.tv_bus.specs.Ranges.{range_at}
use Rattle.tv_hart.specs.declared.place.Loaded.{Loaded}
use Rattle.tv_hart.specs.declared.place.Loaded.TheVariants as loaded
use Rattle.tv_hart.specs.declared.place.Stored.{Stored}
use Rattle.tv_hart.specs.declared.place.Stored.TheVariants as stored
use Rattle.tv_hart.specs.Hart.{first_hart}
use Rattle.tv_hart.specs.Place.{Meaning}
use Rattle.tv_intc.specs.declared.ending.Finish.{Finish}
use Rattle.tv_ram.specs.Memory.{is_inside, loaded as number_in}
use Rattle.tv_spec.specs.declared.Mode.TheVariants as mode
use Rattle.tv_spec.specs.declared.Shown.{Shown}
use Rattle.tv_spec.specs.declared.Shown.TheVariants as shown
use Rattle.tv_spec.specs.Local.{device_ranges, finish_by, port_ranges}
use Rattle.tv_spec.specs.Reach.{Reach}
use Rattle.tv_spec.specs.Setup.{Setup}
use Rattle.tv_spec.specs.State.{State}
use Rattle.tv_spec.specs.Step.{event_of}
use Rattle.tv_guest.specs.Burst.{Hosts}
use Rattle.tv_guest.specs.GuestState.{GuestState}

-- it is what the event of this hart shows in each state for which the guest stands and in which the run goes on; nothing where the
-- run doesn't go on, there is no such hart, or it waits for a load
pub record LooksSo (guest : GuestState) (hart : ℕ) (seen : Shown) : Type 0 where
  pub would : (setup : Setup) (s : State) → Hosts setup s hart guest → s.mode ≡ mode.Running → seen ≡ (event_of s hart).2.shown
  pub over : guest.mode ≢ mode.Running → seen ≡ shown.Nothing
  pub absent : length guest.harts ≤ hart → seen ≡ shown.Nothing
  pub waits : (slice_index_or guest.harts hart (first_hart hart)).waits ≢ None → seen ≡ shown.Nothing

-- where an access past so many bytes of memory leads
abbrev pub port_at : ℕ → ℕ → ℕ → ℕ → Option (Target × ℕ)
port_at ram devices addr n = if is_inside ram addr n then None else range_at (port_ranges ++ device_ranges devices) addr n

-- accesses as they show, by where they lead: what a load finds and what a store leaves behind doesn't matter to that
abbrev pub load_looked : Reach → Width → Option (Target × ℕ) → Loaded × Reach
load_looked p width (Some (target.Device slot, off)) = (loaded.Held, record p { shown = shown.Access slot (access.Load width off) })
load_looked p width _ = (loaded.Nothing, p)

abbrev pub finish_looked : Reach → Option Finish → Stored × Reach
finish_looked p None = (stored.Nothing, p)
finish_looked p (Some finish) = (stored.Done, record p { shown = shown.Finish finish })

abbrev pub store_looked : Reach → Width → ℕ → Option (Target × ℕ) → Stored × Reach
store_looked p width value (Some (target.Debug, off)) = (stored.Done, record p { shown = shown.Byte (value % 2 ^ 8) })
store_looked p width value (Some (target.Finisher, off)) = finish_looked p (finish_by width value)
store_looked p width value (Some (target.Device slot, off)) =
    (stored.Done, record p { shown = shown.Access slot (access.Store width off (value % 256 ^ width_bytes width)) })
store_looked p width value _ = (stored.Nothing, p)

abbrev pub looked_at : Reach → Width → ℕ → Option (Target × ℕ)
looked_at p width addr = port_at (length p.local.ram) p.local.devices addr (width_bytes width)

-- all that as the place of a hart; memory alone is fetched from
abbrev pub looked : Meaning Reach
looked = record {
  fetch = λ p addr. number_in p.local.ram addr 4;
  load = λ p hart width addr. load_looked p width (looked_at p width addr);
  store = λ p hart width addr value. store_looked p width value (looked_at p width addr);
  amo = λ p hart width addr op value. (None, p);
  reserve = λ p hart width addr. (None, p);
  conditional = λ p hart width addr value. (None, p);
}
