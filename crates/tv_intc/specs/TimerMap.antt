-- Where the registers of the timer block lie, as RISC-V's core-local interruptor has them.
use Rattle.std.specs.Prelude.{◌==◌, ◌&&◌, ℕ, ◌+◌, ◌-◌, ◌*◌, ◌/◌, ◌%◌, ◌<◌, if◌then◌else◌, nat_lt, nat_le, Option, Some, None}
use Rattle.tv_base.specs.declared.Width.{Width}
use Rattle.tv_base.specs.declared.Width.TheVariants.{B4, B8}
use Rattle.tv_intc.specs.declared.timer_map.Part.{Part}
use Rattle.tv_intc.specs.declared.timer_map.Part.TheVariants.{Whole, Low, High}
use Rattle.tv_intc.specs.declared.timer_map.Register.{Register}
use Rattle.tv_intc.specs.declared.timer_map.Register.TheVariants.{Software, Compare, Time}

-- where a part of a register of 8 bytes begins
abbrev pub part_offset : Part → ℕ
part_offset Whole = 0
part_offset Low = 0
part_offset High = 4

-- the width of a part
abbrev pub part_width : Part → Width
part_width Whole = B8
part_width Low = B4
part_width High = B4

-- the offset of a register
abbrev pub offset_of : Register → ℕ
offset_of (Software hart) = 4 * hart
offset_of (Compare hart part) = 0x4000 + 8 * hart + part_offset part
offset_of (Time part) = 0xBFF8 + part_offset part

-- the width of an access that reaches it
abbrev pub width_of : Register → Width
width_of (Software hart) = B4
width_of (Compare hart part) = part_width part
width_of (Time part) = part_width part

-- the registers that a machine with this many harts has
abbrev pub IsThere : ℕ → Register → Type 0
IsThere harts (Software hart) = hart < harts
IsThere harts (Compare hart part) = hart < harts
IsThere harts (Time part) = Unit {0}

-- the half at an offset that is a multiple of 4
abbrev pub half_at : ℕ → Part
half_at off = if off % 8 == 0 then Low else High

-- the register of 4 bytes at an offset, if one is there
abbrev pub word_at : ℕ → ℕ → Option Register
word_at harts off =
    if nat_lt off (4 * harts) && off % 4 == 0 then Some (Software (off / 4))
    else if nat_le 0x4000 off && nat_lt off (0x4000 + 8 * harts) && off % 4 == 0
    then Some (Compare ((off - 0x4000) / 8) (half_at off))
    else if off == 0xBFF8 then Some (Time Low)
    else if off == 0xBFFC then Some (Time High)
    else None

-- the register of 8 bytes at an offset, if one is there
abbrev pub double_at : ℕ → ℕ → Option Register
double_at harts off =
    if nat_le 0x4000 off && nat_lt off (0x4000 + 8 * harts) && off % 8 == 0
    then Some (Compare ((off - 0x4000) / 8) Whole)
    else if off == 0xBFF8 then Some (Time Whole)
    else None

-- the register at an offset for an access of a width, if one is there
abbrev pub register_at : ℕ → ℕ → Width → Option Register
register_at harts off B4 = word_at harts off
register_at harts off B8 = double_at harts off
register_at harts off _ = None
