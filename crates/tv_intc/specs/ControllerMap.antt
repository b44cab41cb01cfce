-- Where the registers of the interrupt controller lie (RISC-V PLIC Specification, "Memory Map"), with a context for each hart.
use Rattle.std.specs.Prelude.{◌==◌, ◌&&◌, ℕ, ◌+◌, ◌-◌, ◌*◌, ◌/◌, ◌%◌, ◌<◌, ◌≤◌, if◌then◌else◌, nat_lt, nat_le, Option, Some, None}
use Rattle.tv_intc.specs.declared.controller_map.Register.{Register}
use Rattle.tv_intc.specs.declared.controller_map.Register.TheVariants.{Priority, Pending, Enables, Threshold, Claim}

-- the offset of a register
abbrev pub offset_of : Register → ℕ
offset_of (Priority source) = 4 * source
offset_of Pending = 0x1000
offset_of (Enables hart) = 0x2000 + 0x80 * hart
offset_of (Threshold hart) = 0x20_0000 + 0x1000 * hart
offset_of (Claim hart) = 0x20_0004 + 0x1000 * hart

-- the registers that a machine with this many harts has
abbrev pub IsThere : ℕ → Register → Type 0
IsThere harts (Priority source) = (1 ≤ source) × (source ≤ 8)
IsThere harts Pending = Unit {0}
IsThere harts (Enables hart) = hart < harts
IsThere harts (Threshold hart) = hart < harts
IsThere harts (Claim hart) = hart < harts

-- the threshold or the claim register at an offset from the first threshold
abbrev pub context_at : ℕ → ℕ → Option Register
context_at hart at =
    if at == 0 then Some (Threshold hart)
    else if at == 4 then Some (Claim hart)
    else None

-- the register at an offset, if one is there
abbrev pub register_at : ℕ → ℕ → Option Register
register_at harts off =
    if nat_le 4 off && nat_le off 32 && off % 4 == 0 then Some (Priority (off / 4))
    else if off == 0x1000 then Some Pending
    else if nat_le 0x2000 off && nat_lt off (0x2000 + 0x80 * harts) && (off - 0x2000) % 0x80 == 0
    then Some (Enables ((off - 0x2000) / 0x80))
    else if nat_le 0x20_0000 off && nat_lt off (0x20_0000 + 0x1000 * harts)
    then context_at ((off - 0x20_0000) / 0x1000) ((off - 0x20_0000) % 0x1000)
    else None
