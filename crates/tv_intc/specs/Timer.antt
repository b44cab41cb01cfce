-- What the timer block does (RISC-V Privileged Architecture, "Machine Timer Registers").
use Rattle.std.specs.Prelude.{◌==◌, ℕ, ◌+◌, ◌-◌, ◌*◌, ◌/◌, ◌%◌, ◌^◌, Bool, false, if◌then◌else◌, nat_le, replicate, slice_index_or, slice_set, Option, Some, None}
use Rattle.tv_base.specs.declared.Width.{Width}
use Rattle.tv_intc.specs.declared.timer_map.Part.{Part}
use Rattle.tv_intc.specs.declared.timer_map.Part.TheVariants.{Whole, Low, High}
use Rattle.tv_intc.specs.declared.timer_map.Register.{Register}
use Rattle.tv_intc.specs.declared.timer_map.Register.TheVariants.{Software, Compare, Time}
use Rattle.tv_intc.specs.TimerMap.{register_at}
use Rattle.tv_intc.specs.TimerState.{Clock}

-- the timer block of a machine with this many harts, at the start
abbrev pub started : ℕ → Clock
started harts = record {
  harts = harts;
  software = replicate 8 false;
  compare = replicate 8 (2 ^ 64 - 1);
  time = 0;
}

abbrev pub software_of : Clock → ℕ → Bool
software_of t hart = slice_index_or t.software hart false

abbrev pub compare_of : Clock → ℕ → ℕ
compare_of t hart = slice_index_or t.compare hart 0

-- the time after n more
abbrev pub ticked : Clock → ℕ → Clock
ticked t n = record t { time = (t.time + n) % 2 ^ 64 }

-- the software line as bit 3 of mip, and the timer line as bit 7: it is up where the time is at least the hart's compare value
abbrev pub lines_of : Clock → ℕ → ℕ
lines_of t hart =
    (if software_of t hart then 2 ^ 3 else 0) + (if nat_le (compare_of t hart) t.time then 2 ^ 7 else 0)

-- Registers

-- a part of a number of 8 bytes
abbrev pub part_of : Part → ℕ → ℕ
part_of Whole number = number
part_of Low number = number % 2 ^ 32
part_of High number = number / 2 ^ 32

-- the number of 8 bytes with one part stored, of which the value's low bytes are taken
abbrev pub with_part : Part → ℕ → ℕ → ℕ
with_part Whole number value = value
with_part Low number value = number / 2 ^ 32 * 2 ^ 32 + value % 2 ^ 32
with_part High number value = value % 2 ^ 32 * 2 ^ 32 + number % 2 ^ 32

-- a load from a register
abbrev pub load_of : Clock → Register → ℕ
load_of t (Software hart) = if software_of t hart then 1 else 0
load_of t (Compare hart part) = part_of part (compare_of t hart)
load_of t (Time part) = part_of part t.time

-- a store to a register: of a software interrupt register bit 0 is kept
abbrev pub store_of : Clock → Register → ℕ → Clock
store_of t (Software hart) value = record t { software = slice_set t.software hart (value % 2 == 1) }
store_of t (Compare hart part) value =
    record t { compare = slice_set t.compare hart (with_part part (compare_of t hart) value) }
store_of t (Time part) value = record t { time = with_part part t.time value }

-- a load: where no register of this width is, it gives 0
abbrev pub load_by : Clock → Option Register → ℕ
load_by t (Some register) = load_of t register
load_by t None = 0

abbrev pub load_at : Clock → ℕ → Width → ℕ
load_at t off width = load_by t (register_at t.harts off width)

-- a store: where no register of this width is, it does nothing
abbrev pub store_by : Clock → Option Register → ℕ → Clock
store_by t (Some register) value = store_of t register value
store_by t None value = t

abbrev pub store_at : Clock → ℕ → Width → ℕ → Clock
store_at t off width value = store_by t (register_at t.harts off width) value
