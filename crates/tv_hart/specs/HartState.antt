-- A hart as contracts see it.
use Rattle.std.specs.Prelude.{ℕ, ◌<◌, List, Option, Some, None}
use Rattle.tv_hart.specs.declared.loads.Waiting.{Waiting}
use Rattle.tv_trap.specs.CsrState.{CsrState}

-- its 32 registers, the address of its next instruction, its control and status registers, which have its number, and the
-- load that it waits for, if any
pub record HartState : Type 0 where
  pub registers : List ℕ
  pub pc : ℕ
  pub csrs : CsrState
  pub waits : Option Waiting

-- the register that a load is for exists
abbrev pub HasRegister : Option Waiting → Type 0
HasRegister None = Unit {0}
HasRegister (Some waiting) = waiting.rd < 32
