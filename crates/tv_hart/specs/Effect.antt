-- What an operation does to its hart and asks of the place, over the values of its registers and its pc (RISC-V
-- Unprivileged ISA, chapters "RV32I", "RV64I", "M", "A" and "Zicsr").
use Rattle.std.specs.Prelude.{◌==◌, ℕ, ◌+◌, ◌-◌, ◌*◌, ◌%◌, ◌^◌, ◌<◌, Bool, true, not, if◌then◌else◌}
use Rattle.std.specs.Prelude.{List, slice_index, slice_set}
use Rattle.std.specs.Int.{w64, bit_not}
use Rattle.std.specs.Int.RustNames.{bit_and, bit_or}
use Rattle.tv_exec.specs.Arithmetic.{alu_of, alu_w_of, HasWordForm, branch_of, sign_extended_from}
use Rattle.tv_exec.specs.Atomic.{IsAmoWidth}
use Rattle.tv_exec.specs.Division.{mul_div_of, mul_div_w_of, MulDivHasWordForm}
use Rattle.tv_hart.specs.declared.operation.CsrOp.{CsrOp}
use Rattle.tv_hart.specs.declared.operation.CsrOp.TheVariants as csr_op
use Rattle.tv_hart.specs.declared.operation.Operation.{Operation}
use Rattle.tv_hart.specs.declared.operation.Operation.TheVariants as op
use Rattle.tv_hart.specs.declared.effect.Effect.{Effect}
use Rattle.tv_hart.specs.declared.effect.Effect.TheVariants as effect

-- the value of a register; x0 reads 0
abbrev pub register : List ℕ → ℕ → ℕ
register x i = if i == 0 then 0 else slice_index x i

-- the registers with a value put into one; x0 stays
abbrev pub with_register : List ℕ → ℕ → ℕ → List ℕ
with_register x i value = if i == 0 then x else slice_set x i value

-- the immediates of the formats, sign-extended to 64 bits: I and S, B, U and J
abbrev pub immediate : ℕ → ℕ
immediate imm = sign_extended_from (2 ^ 11) imm

abbrev pub branch_offset : ℕ → ℕ
branch_offset offset = sign_extended_from (2 ^ 12) offset

abbrev pub upper_immediate : ℕ → ℕ
upper_immediate imm = sign_extended_from (2 ^ 31) (imm * 2 ^ 12)

abbrev pub jump_offset : ℕ → ℕ
jump_offset offset = sign_extended_from (2 ^ 20) offset

-- addresses and sums of 64 bits wrap round
abbrev pub sum_64 : ℕ → ℕ → ℕ
sum_64 a b = (a + b) % 2 ^ 64

-- the same number with bit 0 cleared
abbrev pub even : ℕ → ℕ
even n = n - n % 2

-- CSRRW always writes; CSRRS and CSRRC write where their field rs1, or the immediate in its place, isn't 0 ("Zicsr")
abbrev pub writes : CsrOp → ℕ → Bool
writes csr_op.Write field = true
writes _ field = not (field == 0)

-- what a control and status register gets, by its old value and the operand
abbrev pub csr_value : CsrOp → ℕ → ℕ → ℕ
csr_value csr_op.Write old operand = operand
csr_value csr_op.Set old operand = bit_or old operand
csr_value csr_op.Clear old operand = bit_and old (bit_not w64 operand)

-- the effect of an operation
abbrev pub effect_of : Operation → List ℕ → ℕ → Effect
effect_of (op.Upper rd imm) x pc = effect.Put rd (upper_immediate imm)
effect_of (op.UpperFromPc rd imm) x pc = effect.Put rd (sum_64 pc (upper_immediate imm))
effect_of (op.Link rd offset) x pc = effect.Jump rd (sum_64 pc (jump_offset offset))
effect_of (op.LinkRegister rd rs1 imm) x pc = effect.Jump rd (even (sum_64 (register x rs1) (immediate imm)))
effect_of (op.Branch op rs1 rs2 offset) x pc =
    if branch_of op (register x rs1) (register x rs2) then effect.Goto (sum_64 pc (branch_offset offset))
    else effect.Pass
effect_of (op.Load width extension rd rs1 imm) x pc =
    effect.Load width extension rd (sum_64 (register x rs1) (immediate imm))
effect_of (op.Store width rs1 rs2 imm) x pc =
    effect.Store width (sum_64 (register x rs1) (immediate imm)) (register x rs2)
effect_of (op.Immediate op rd rs1 imm) x pc = effect.Put rd (alu_of op (register x rs1) (immediate imm))
effect_of (op.Shift op rd rs1 shamt) x pc = effect.Put rd (alu_of op (register x rs1) shamt)
effect_of (op.WordImmediate op rd rs1 imm) x pc = effect.Put rd (alu_w_of op (register x rs1) (immediate imm))
effect_of (op.WordShift op rd rs1 shamt) x pc = effect.Put rd (alu_w_of op (register x rs1) shamt)
effect_of (op.Registers op rd rs1 rs2) x pc = effect.Put rd (alu_of op (register x rs1) (register x rs2))
effect_of (op.WordRegisters op rd rs1 rs2) x pc = effect.Put rd (alu_w_of op (register x rs1) (register x rs2))
effect_of (op.Product op rd rs1 rs2) x pc = effect.Put rd (mul_div_of op (register x rs1) (register x rs2))
effect_of (op.WordProduct op rd rs1 rs2) x pc = effect.Put rd (mul_div_w_of op (register x rs1) (register x rs2))
effect_of (op.Reserve width rd rs1) x pc = effect.Reserve width rd (register x rs1)
effect_of (op.Conditional width rd rs1 rs2) x pc = effect.Conditional width rd (register x rs1) (register x rs2)
effect_of (op.Amo op width rd rs1 rs2) x pc = effect.Amo op width rd (register x rs1) (register x rs2)
effect_of (op.Csr op rd rs1 csr) x pc = effect.Csr op rd csr (register x rs1) (writes op rs1)
effect_of (op.CsrImmediate op rd uimm csr) x pc = effect.Csr op rd csr uimm (writes op uimm)
effect_of op.Call x pc = effect.Trap 11
effect_of op.Break x pc = effect.Trap 3
effect_of op.Return x pc = effect.Return
effect_of op.Nothing x pc = effect.Pass

-- registers exist, immediates are within their bits, a W operation has its form, and an atomic one its width
abbrev pub FitsOperation : Operation → Type 0
FitsOperation (op.Upper rd imm) = (rd < 32) × (imm < 2 ^ 20)
FitsOperation (op.UpperFromPc rd imm) = (rd < 32) × (imm < 2 ^ 20)
FitsOperation (op.Link rd offset) = (rd < 32) × (offset < 2 ^ 21)
FitsOperation (op.LinkRegister rd rs1 imm) = (rd < 32) × (rs1 < 32) × (imm < 2 ^ 12)
FitsOperation (op.Branch op rs1 rs2 offset) = (rs1 < 32) × (rs2 < 32) × (offset < 2 ^ 13)
FitsOperation (op.Load width extension rd rs1 imm) = (rd < 32) × (rs1 < 32) × (imm < 2 ^ 12)
FitsOperation (op.Store width rs1 rs2 imm) = (rs1 < 32) × (rs2 < 32) × (imm < 2 ^ 12)
FitsOperation (op.Immediate op rd rs1 imm) = (rd < 32) × (rs1 < 32) × (imm < 2 ^ 12)
FitsOperation (op.Shift op rd rs1 shamt) = (rd < 32) × (rs1 < 32)
FitsOperation (op.WordImmediate op rd rs1 imm) = (rd < 32) × (rs1 < 32) × (imm < 2 ^ 12) × HasWordForm op
FitsOperation (op.WordShift op rd rs1 shamt) = (rd < 32) × (rs1 < 32) × HasWordForm op
FitsOperation (op.Registers op rd rs1 rs2) = (rd < 32) × (rs1 < 32) × (rs2 < 32)
FitsOperation (op.WordRegisters op rd rs1 rs2) = (rd < 32) × (rs1 < 32) × (rs2 < 32) × HasWordForm op
FitsOperation (op.Product op rd rs1 rs2) = (rd < 32) × (rs1 < 32) × (rs2 < 32)
FitsOperation (op.WordProduct op rd rs1 rs2) = (rd < 32) × (rs1 < 32) × (rs2 < 32) × MulDivHasWordForm op
FitsOperation (op.Reserve width rd rs1) = (rd < 32) × (rs1 < 32) × IsAmoWidth width
FitsOperation (op.Conditional width rd rs1 rs2) = (rd < 32) × (rs1 < 32) × (rs2 < 32) × IsAmoWidth width
FitsOperation (op.Amo op width rd rs1 rs2) = (rd < 32) × (rs1 < 32) × (rs2 < 32) × IsAmoWidth width
FitsOperation (op.Csr op rd rs1 csr) = (rd < 32) × (rs1 < 32)
FitsOperation (op.CsrImmediate op rd uimm csr) = rd < 32
FitsOperation op.Call = Unit {0}
FitsOperation op.Break = Unit {0}
FitsOperation op.Return = Unit {0}
FitsOperation op.Nothing = Unit {0}

-- the register that an effect writes exists
abbrev pub FitsEffect : Effect → Type 0
FitsEffect (effect.Put rd value) = rd < 32
FitsEffect (effect.Jump rd target) = rd < 32
FitsEffect (effect.Goto target) = Unit {0}
FitsEffect (effect.Load width extension rd addr) = rd < 32
FitsEffect (effect.Store width addr value) = Unit {0}
FitsEffect (effect.Reserve width rd addr) = (rd < 32) × IsAmoWidth width
FitsEffect (effect.Conditional width rd addr value) = (rd < 32) × IsAmoWidth width
FitsEffect (effect.Amo op width rd addr value) = (rd < 32) × IsAmoWidth width
FitsEffect (effect.Csr op rd csr operand writes) = rd < 32
FitsEffect (effect.Trap cause) = Unit {0}
FitsEffect effect.Return = Unit {0}
FitsEffect effect.Pass = Unit {0}
