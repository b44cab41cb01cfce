-- Traps, interrupts and counters of a hart that has machine mode alone (RISC-V Privileged Architecture,
-- chapter "Machine-Level ISA").
use Rattle.std.specs.Prelude.{◌==◌, ℕ, zero, suc, ◌+◌, ◌%◌, ◌^◌, bit_and, Bool, true, false, if◌then◌else◌, Option, Some, None}
use Rattle.tv_trap.specs.CsrState.{CsrState}
use Rattle.tv_trap.specs.Registers.{is_set}

-- a hart that starts: what its registers keep is 0, but for its number
abbrev pub first_csrs : ℕ → CsrState
first_csrs hart = record {
  hart = hart;
  mstatus_mie = false;
  mstatus_mpie = false;
  mie = 0;
  mtvec = 0;
  mscratch = 0;
  mepc = 0;
  mcause = 0;
  mtval = 0;
  mcycle = 0;
  minstret = 0;
}

-- a trap at a pc, after which the hart goes on at mtvec ("Machine Trap-Vector Base-Address Register", "Machine
-- Cause Register" and "Privilege and Global Interrupt-Enable Stack in mstatus register")
abbrev pub trap_entry : CsrState → ℕ → ℕ → ℕ → CsrState
trap_entry s cause tval pc = record s {
  mepc = pc;
  mcause = cause;
  mtval = tval;
  mstatus_mpie = s.mstatus_mie;
  mstatus_mie = false;
}

-- MRET, after which the hart goes on at mepc ("Trap-Return Instructions")
abbrev pub trap_return : CsrState → CsrState
trap_return s = record s { mstatus_mie = s.mstatus_mpie; mstatus_mpie = true }

-- the cause of an interrupt: the number of its bit, with bit 63 set ("Machine Cause Register")
abbrev pub interrupt : ℕ → ℕ
interrupt bit = 2 ^ 63 + bit

-- the interrupt to take of those with a bit here: external before software before timer ("Machine Interrupt Registers")
abbrev pub first_interrupt : ℕ → Option ℕ
first_interrupt bits =
    if is_set bits 11 then Some (interrupt 11)
    else if is_set bits 3 then Some (interrupt 3)
    else if is_set bits 7 then Some (interrupt 7)
    else None

-- the cause of the interrupt to take, while these lines are up
abbrev pub pending_interrupt : CsrState → ℕ → Option ℕ
pending_interrupt s lines = if s.mstatus_mie then first_interrupt (bit_and s.mie lines) else None

-- whether an event wrote the register of this number
abbrev pub wrote : Option ℕ → ℕ → Bool
wrote None csr = false
wrote (Some written) csr = written == csr

-- a counter after an event
abbrev pub risen : ℕ → ℕ
risen count = (count + 1) % 2 ^ 64

-- the counters after an event, which retired an instruction or not, and wrote a register or not. A written
-- counter keeps what was written ("Hardware Performance Monitor", and "CSR Instructions" of the unprivileged manual)
abbrev pub counted : CsrState → Bool → Option ℕ → CsrState
counted s retired written = record s {
  mcycle = if wrote written 0xb00 then s.mcycle else risen s.mcycle;
  minstret = if wrote written 0xb02 then s.minstret else if retired then risen s.minstret else s.minstret;
}

-- so many events counted, each of which retired its instruction and wrote no counter
abbrev pub counted_by : CsrState → ℕ → CsrState
counted_by s zero = s
counted_by s (suc events) = counted (counted_by s events) true None
