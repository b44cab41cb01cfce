-- What a hart reaches: guest memory, the local ports, and the registers of devices.
use Rattle.std.specs.Prelude.{ℕ, zero, suc, ◌+◌, ◌*◌, ◌%◌, ◌^◌, Bool, true, false, if◌then◌else◌, List, [], ◌∷◌, ◌++◌, length, Option, Some, None}
use Rattle.tv_base.specs.declared.Access.TheVariants as access
use Rattle.tv_base.specs.declared.Width.{Width}
use Rattle.tv_base.specs.declared.Width.TheVariants.{B4}
use Rattle.tv_base.specs.Width.{width_bytes}
use Rattle.tv_bus.specs.declared.ranges.Range.{Range}
use Rattle.tv_bus.specs.declared.Target.{Target}
use Rattle.tv_bus.specs.declared.Target.TheVariants as target
use Rattle.tv_bus.specs.Ranges.{range_at}
use Rattle.tv_hart.specs.declared.place.Loaded.{Loaded}
use Rattle.tv_hart.specs.declared.place.Loaded.TheVariants as loaded
use Rattle.tv_hart.specs.declared.place.Stored.{Stored}
use Rattle.tv_hart.specs.declared.place.Stored.TheVariants as stored
use Rattle.tv_hart.specs.Place.{Meaning}
use Rattle.tv_intc.specs.declared.ending.Finish.{Finish}
use Rattle.tv_intc.specs.Controller.{load_at as load_of_controller, store_at as store_to_controller}
use Rattle.tv_intc.specs.ControllerState.{Controller}
use Rattle.tv_intc.specs.Finisher.{finish_of}
use Rattle.tv_intc.specs.Timer.{load_at as load_of_timer, store_at as store_to_timer}
use Rattle.tv_intc.specs.TimerState.{Clock}
use Rattle.tv_ram.specs.Memory.{loaded as number_in, number_at}
use Rattle.tv_spec.specs.declared.Shown.TheVariants as shown
use Rattle.tv_spec.specs.LocalState.{LocalState, with_reservation, written_by}
use Rattle.tv_spec.specs.Reach.{Reach, is_closed}
use Rattle.tv_spec.specs.Reservations.{granule, is_reserved, reserved_by}
use Rattle.tv_isa.specs.declared.AmoOp.{AmoOp}
use Rattle.tv_exec.specs.Atomic.{amo_of}

-- the ranges of addresses of the local ports
abbrev pub port_ranges : List Range
port_ranges =
    record { base = 0x0010_0000; len = 4; target = target.Finisher }
    ∷ record { base = 0x0200_0000; len = 0xC000; target = target.Timer }
    ∷ record { base = 0x0C00_0000; len = 0x40_0000; target = target.Intc }
    ∷ record { base = 0x1000_0000; len = 1; target = target.Debug }
    ∷ []

-- those of the devices in so many slots
abbrev pub device_ranges : ℕ → List Range
device_ranges zero = []
device_ranges (suc slot) =
    device_ranges slot ++ record { base = 0x1000_1000 + 0x1000 * slot; len = 0x1000; target = target.Device slot } ∷ []

-- those of a machine with so many bytes of memory and so many devices
abbrev pub local_ranges : ℕ → ℕ → List Range
local_ranges ram devices =
    record { base = 0x8000_0000; len = ram; target = target.Ram } ∷ port_ranges ++ device_ranges devices

-- where the n bytes from an address on lie, with their offset there
abbrev pub target_at : Reach → ℕ → ℕ → Option (Target × ℕ)
target_at p addr n = range_at (local_ranges (length p.local.ram) p.local.devices) addr n

-- what a store to the finisher asks for; only one of 4 bytes asks for something
abbrev pub finish_by : Width → ℕ → Option Finish
finish_by B4 value = finish_of (value % 2 ^ 32)
finish_by _ value = None

abbrev pub after_finish : Reach → Option Finish → Reach
after_finish p None = p
after_finish p (Some finish) = record p { shown = shown.Finish finish }

-- the place with another timer block or interrupt controller
abbrev pub with_timer : Reach → Clock → Reach
with_timer p timer = record p { local = record p.local { timer = timer } }

abbrev pub with_controller : Reach → Controller → Reach
with_controller p intc = record p { local = record p.local { intc = intc } }

-- a load from the interrupt controller by what that gives, which may be a claim
abbrev pub after_controller_load : Reach → ℕ × Controller → Loaded × Reach
after_controller_load p (value, intc) = (loaded.Value value, with_controller p intc)

-- a load: memory gives the number there, a block its register, the finisher and the debug port 0. The load of a device is
-- issued, and its value comes later
abbrev pub load_from : Reach → Width → ℕ → Option (Target × ℕ) → Loaded × Reach
load_from p width addr None = (loaded.Nothing, p)
load_from p width addr (Some (target.Ram, off)) = (loaded.Value (number_at p.local.ram addr (width_bytes width)), p)
load_from p width addr (Some (target.Finisher, off)) = (loaded.Value 0, p)
load_from p width addr (Some (target.Timer, off)) = (loaded.Value (load_of_timer p.local.timer off width), p)
load_from p width addr (Some (target.Intc, off)) = after_controller_load p (load_of_controller p.local.intc off width)
load_from p width addr (Some (target.Debug, off)) = (loaded.Value 0, p)
load_from p width addr (Some (target.Device slot, off)) =
    if is_closed p.closed.loads slot then (loaded.Full, p)
    else (loaded.Held, record p { shown = shown.Access slot (access.Load width off) })

-- a store: memory has the bytes, a block its register, the debug port shows its byte, the finisher may end the run. The store
-- to a device is issued, and the hart goes on
abbrev pub store_to : Reach → ℕ → Width → ℕ → ℕ → Option (Target × ℕ) → Stored × Reach
store_to p hart width addr value None = (stored.Nothing, p)
store_to p hart width addr value (Some (target.Ram, off)) =
    (stored.Done, record p { local = written_by p.local hart addr (width_bytes width) value })
store_to p hart width addr value (Some (target.Finisher, off)) = (stored.Done, after_finish p (finish_by width value))
store_to p hart width addr value (Some (target.Timer, off)) =
    (stored.Done, with_timer p (store_to_timer p.local.timer off width value))
store_to p hart width addr value (Some (target.Intc, off)) =
    (stored.Done, with_controller p (store_to_controller p.local.intc off width value))
store_to p hart width addr value (Some (target.Debug, off)) =
    if p.closed.debug then (stored.Full, p) else (stored.Done, record p { shown = shown.Byte (value % 2 ^ 8) })
store_to p hart width addr value (Some (target.Device slot, off)) =
    if is_closed p.closed.stores slot then (stored.Full, p)
    else (stored.Done, record p { shown = shown.Access slot (access.Store width off (value % 256 ^ width_bytes width)) })

-- AMO, LR and SC of a hart, by the number in memory; they reach memory alone
abbrev pub after_amo : Reach → ℕ → Width → ℕ → AmoOp → ℕ → Option ℕ → Option ℕ × Reach
after_amo p hart width addr op value None = (None, p)
after_amo p hart width addr op value (Some old) =
    (Some old, record p { local = written_by p.local hart addr (width_bytes width) (amo_of op width old value) })

abbrev pub after_reserve : Reach → ℕ → ℕ → Option ℕ → Option ℕ × Reach
after_reserve p hart addr None = (None, p)
after_reserve p hart addr (Some value) =
    (Some value, record p { local = with_reservation p.local hart (Some (granule addr)) })

-- SC: the hart's reservation ends, whether or not the value was stored
abbrev pub after_conditional : Reach → ℕ → Width → ℕ → ℕ → Option ℕ → Option Bool × Reach
after_conditional p hart width addr value None = (None, p)
after_conditional p hart width addr value (Some old) =
    let ended : LocalState = with_reservation p.local hart None in
    if is_reserved (reserved_by p.local.reservations hart) addr then
    (Some true, record p { local = written_by ended hart addr (width_bytes width) value })
    else (Some false, record p { local = ended })

-- all that as the place of harts
abbrev pub local_meaning : Meaning Reach
local_meaning = record {
  fetch = λ p addr. number_in p.local.ram addr 4;
  load = λ p hart width addr. load_from p width addr (target_at p addr (width_bytes width));
  store = λ p hart width addr value. store_to p hart width addr value (target_at p addr (width_bytes width));
  amo = λ p hart width addr op value.
      after_amo p hart width addr op value (number_in p.local.ram addr (width_bytes width));
  reserve = λ p hart width addr. after_reserve p hart addr (number_in p.local.ram addr (width_bytes width));
  conditional = λ p hart width addr value.
      after_conditional p hart width addr value (number_in p.local.ram addr (width_bytes width));
}
