-- The registers that a hart keeps, as contracts see them (RISC-V Privileged Architecture, chapter "Machine-Level ISA").
use Rattle.std.specs.Prelude.{ℕ, Bool}

-- the hart's number, the bits MIE and MPIE of mstatus, and each register that can be written otherwise
pub record CsrState : Type 0 where
  pub hart : ℕ
  pub mstatus_mie : Bool
  pub mstatus_mpie : Bool
  pub mie : ℕ
  pub mtvec : ℕ
  pub mscratch : ℕ
  pub mepc : ℕ
  pub mcause : ℕ
  pub mtval : ℕ
  pub mcycle : ℕ
  pub minstret : ℕ
