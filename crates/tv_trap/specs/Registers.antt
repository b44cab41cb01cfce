-- The control and status registers of a hart that has machine mode alone: the number of each, what a read
-- gives and what a write keeps (RISC-V Privileged Architecture, chapter "Control and Status Registers (CSRs)",
-- "CSR Listing", and chapter "Machine-Level ISA", "Machine-Level CSRs").
use Rattle.std.specs.Prelude.{◌==◌, ℕ, ◌+◌, ◌-◌, ◌/◌, ◌%◌, ◌^◌, bit_and, Bool, if◌then◌else◌}
use Rattle.std.specs.Prelude.{Option, Some, None, option_map, option_and_then}
use Rattle.tv_trap.specs.declared.registers.Register.{Register}
use Rattle.tv_trap.specs.declared.registers.Register.TheVariants as register
use Rattle.tv_trap.specs.CsrState.{CsrState}

-- the register of each number
abbrev pub register_at : ℕ → Option Register
register_at csr =
    if csr == 0x300 then Some register.Mstatus
    else if csr == 0x301 then Some register.Misa
    else if csr == 0x304 then Some register.Mie
    else if csr == 0x305 then Some register.Mtvec
    else if csr == 0x340 then Some register.Mscratch
    else if csr == 0x341 then Some register.Mepc
    else if csr == 0x342 then Some register.Mcause
    else if csr == 0x343 then Some register.Mtval
    else if csr == 0x344 then Some register.Mip
    else if csr == 0xb00 then Some register.Mcycle
    else if csr == 0xb02 then Some register.Minstret
    else if csr == 0xf11 then Some register.Mvendorid
    else if csr == 0xf12 then Some register.Marchid
    else if csr == 0xf13 then Some register.Mimpid
    else if csr == 0xf14 then Some register.Mhartid
    else None

-- whether a bit of a value is 1
abbrev pub is_set : ℕ → ℕ → Bool
is_set value bit = value / 2 ^ bit % 2 == 1

-- the bits of mie and mip: software in bit 3, timer in bit 7, external in bit 11
abbrev pub interrupt_bits : ℕ → ℕ
interrupt_bits value = bit_and value 0x888

-- an address with its low two bits cleared
abbrev pub aligned : ℕ → ℕ
aligned addr = addr - addr % 4

-- mstatus: MPP in bits 12:11 is 3, MPIE is bit 7, MIE is bit 3
abbrev pub mstatus : CsrState → ℕ
mstatus s = 0x1800 + (if s.mstatus_mpie then 0x80 else 0) + (if s.mstatus_mie then 0x8 else 0)

-- what a read gives, with these interrupt lines up
abbrev pub value_of : Register → CsrState → ℕ → ℕ
value_of register.Mstatus s lines = mstatus s
value_of register.Misa s lines = 0x8000_0000_0000_1101
value_of register.Mie s lines = s.mie
value_of register.Mtvec s lines = s.mtvec
value_of register.Mscratch s lines = s.mscratch
value_of register.Mepc s lines = s.mepc
value_of register.Mcause s lines = s.mcause
value_of register.Mtval s lines = s.mtval
value_of register.Mip s lines = interrupt_bits lines
value_of register.Mcycle s lines = s.mcycle
value_of register.Minstret s lines = s.minstret
value_of register.Mvendorid s lines = 0
value_of register.Marchid s lines = 0
value_of register.Mimpid s lines = 0
value_of register.Mhartid s lines = s.hart

-- what a write of a value leaves, and nothing where the register is read-only
abbrev pub with_value : Register → CsrState → ℕ → Option CsrState
with_value register.Mstatus s value = Some (record s { mstatus_mie = is_set value 3; mstatus_mpie = is_set value 7 })
with_value register.Misa s value = Some s
with_value register.Mie s value = Some (record s { mie = interrupt_bits value })
with_value register.Mtvec s value = Some (record s { mtvec = aligned value })
with_value register.Mscratch s value = Some (record s { mscratch = value })
with_value register.Mepc s value = Some (record s { mepc = aligned value })
with_value register.Mcause s value = Some (record s { mcause = value })
with_value register.Mtval s value = Some (record s { mtval = value })
with_value register.Mip s value = Some s
with_value register.Mcycle s value = Some (record s { mcycle = value })
with_value register.Minstret s value = Some (record s { minstret = value })
with_value register.Mvendorid s value = None
with_value register.Marchid s value = None
with_value register.Mimpid s value = None
with_value register.Mhartid s value = None

-- a read of a number, and nothing where no register has it
abbrev pub csr_read : CsrState → ℕ → ℕ → Option ℕ
csr_read s csr lines = option_map (λ register. value_of register s lines) (register_at csr)

-- the registers after a write to a number, and nothing where the write is refused
abbrev pub csr_write : CsrState → ℕ → ℕ → Option CsrState
csr_write s csr value = option_and_then (λ register. with_value register s value) (register_at csr)
