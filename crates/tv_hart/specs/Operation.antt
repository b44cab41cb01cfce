-- What each instruction does, a line for each row: the operation, over the instruction's registers and immediate.
use Rattle.tv_base.specs.declared.Width.TheVariants as width
use Rattle.tv_isa.specs.declared.Instr.{Instr}
use Rattle.tv_isa.specs.declared.Instr.TheVariants as instr
use Rattle.tv_isa.specs.declared.Alu.TheVariants as alu
use Rattle.tv_isa.specs.declared.Branch.TheVariants as branch
use Rattle.tv_isa.specs.declared.MulDiv.TheVariants as mul_div
use Rattle.tv_isa.specs.declared.AmoOp.TheVariants as amo
use Rattle.tv_hart.specs.declared.operation.CsrOp.TheVariants as csr_op
use Rattle.tv_hart.specs.declared.loads.Extension.TheVariants as extension
use Rattle.tv_hart.specs.declared.operation.Operation.{Operation}
use Rattle.tv_hart.specs.declared.operation.Operation.TheVariants as op

-- the operation of an instruction; aq and rl ask for nothing, since accesses are made one after the other
abbrev pub operation_of : Instr → Operation
operation_of (instr.Lui rd imm) = op.Upper rd imm
operation_of (instr.Auipc rd imm) = op.UpperFromPc rd imm
operation_of (instr.Jal rd offset) = op.Link rd offset
operation_of (instr.Jalr rd rs1 imm) = op.LinkRegister rd rs1 imm
operation_of (instr.Beq rs1 rs2 offset) = op.Branch branch.Eq rs1 rs2 offset
operation_of (instr.Bne rs1 rs2 offset) = op.Branch branch.Ne rs1 rs2 offset
operation_of (instr.Blt rs1 rs2 offset) = op.Branch branch.Lt rs1 rs2 offset
operation_of (instr.Bge rs1 rs2 offset) = op.Branch branch.Ge rs1 rs2 offset
operation_of (instr.Bltu rs1 rs2 offset) = op.Branch branch.Ltu rs1 rs2 offset
operation_of (instr.Bgeu rs1 rs2 offset) = op.Branch branch.Geu rs1 rs2 offset
operation_of (instr.Lb rd rs1 imm) = op.Load width.B1 extension.Sign rd rs1 imm
operation_of (instr.Lh rd rs1 imm) = op.Load width.B2 extension.Sign rd rs1 imm
operation_of (instr.Lw rd rs1 imm) = op.Load width.B4 extension.Sign rd rs1 imm
operation_of (instr.Ld rd rs1 imm) = op.Load width.B8 extension.Zero rd rs1 imm
operation_of (instr.Lbu rd rs1 imm) = op.Load width.B1 extension.Zero rd rs1 imm
operation_of (instr.Lhu rd rs1 imm) = op.Load width.B2 extension.Zero rd rs1 imm
operation_of (instr.Lwu rd rs1 imm) = op.Load width.B4 extension.Zero rd rs1 imm
operation_of (instr.Sb rs1 rs2 imm) = op.Store width.B1 rs1 rs2 imm
operation_of (instr.Sh rs1 rs2 imm) = op.Store width.B2 rs1 rs2 imm
operation_of (instr.Sw rs1 rs2 imm) = op.Store width.B4 rs1 rs2 imm
operation_of (instr.Sd rs1 rs2 imm) = op.Store width.B8 rs1 rs2 imm
operation_of (instr.Addi rd rs1 imm) = op.Immediate alu.Add rd rs1 imm
operation_of (instr.Slti rd rs1 imm) = op.Immediate alu.Slt rd rs1 imm
operation_of (instr.Sltiu rd rs1 imm) = op.Immediate alu.Sltu rd rs1 imm
operation_of (instr.Xori rd rs1 imm) = op.Immediate alu.Xor rd rs1 imm
operation_of (instr.Ori rd rs1 imm) = op.Immediate alu.Or rd rs1 imm
operation_of (instr.Andi rd rs1 imm) = op.Immediate alu.And rd rs1 imm
operation_of (instr.Slli rd rs1 shamt) = op.Shift alu.Sll rd rs1 shamt
operation_of (instr.Srli rd rs1 shamt) = op.Shift alu.Srl rd rs1 shamt
operation_of (instr.Srai rd rs1 shamt) = op.Shift alu.Sra rd rs1 shamt
operation_of (instr.Addiw rd rs1 imm) = op.WordImmediate alu.Add rd rs1 imm
operation_of (instr.Slliw rd rs1 shamt) = op.WordShift alu.Sll rd rs1 shamt
operation_of (instr.Srliw rd rs1 shamt) = op.WordShift alu.Srl rd rs1 shamt
operation_of (instr.Sraiw rd rs1 shamt) = op.WordShift alu.Sra rd rs1 shamt
operation_of (instr.Add rd rs1 rs2) = op.Registers alu.Add rd rs1 rs2
operation_of (instr.Sub rd rs1 rs2) = op.Registers alu.Sub rd rs1 rs2
operation_of (instr.Sll rd rs1 rs2) = op.Registers alu.Sll rd rs1 rs2
operation_of (instr.Slt rd rs1 rs2) = op.Registers alu.Slt rd rs1 rs2
operation_of (instr.Sltu rd rs1 rs2) = op.Registers alu.Sltu rd rs1 rs2
operation_of (instr.Xor rd rs1 rs2) = op.Registers alu.Xor rd rs1 rs2
operation_of (instr.Srl rd rs1 rs2) = op.Registers alu.Srl rd rs1 rs2
operation_of (instr.Sra rd rs1 rs2) = op.Registers alu.Sra rd rs1 rs2
operation_of (instr.Or rd rs1 rs2) = op.Registers alu.Or rd rs1 rs2
operation_of (instr.And rd rs1 rs2) = op.Registers alu.And rd rs1 rs2
operation_of (instr.Addw rd rs1 rs2) = op.WordRegisters alu.Add rd rs1 rs2
operation_of (instr.Subw rd rs1 rs2) = op.WordRegisters alu.Sub rd rs1 rs2
operation_of (instr.Sllw rd rs1 rs2) = op.WordRegisters alu.Sll rd rs1 rs2
operation_of (instr.Srlw rd rs1 rs2) = op.WordRegisters alu.Srl rd rs1 rs2
operation_of (instr.Sraw rd rs1 rs2) = op.WordRegisters alu.Sra rd rs1 rs2
operation_of (instr.Fence word) = op.Nothing
operation_of (instr.FenceI word) = op.Nothing
operation_of (instr.Mul rd rs1 rs2) = op.Product mul_div.Mul rd rs1 rs2
operation_of (instr.Mulh rd rs1 rs2) = op.Product mul_div.Mulh rd rs1 rs2
operation_of (instr.Mulhsu rd rs1 rs2) = op.Product mul_div.Mulhsu rd rs1 rs2
operation_of (instr.Mulhu rd rs1 rs2) = op.Product mul_div.Mulhu rd rs1 rs2
operation_of (instr.Div rd rs1 rs2) = op.Product mul_div.Div rd rs1 rs2
operation_of (instr.Divu rd rs1 rs2) = op.Product mul_div.Divu rd rs1 rs2
operation_of (instr.Rem rd rs1 rs2) = op.Product mul_div.Rem rd rs1 rs2
operation_of (instr.Remu rd rs1 rs2) = op.Product mul_div.Remu rd rs1 rs2
operation_of (instr.Mulw rd rs1 rs2) = op.WordProduct mul_div.Mul rd rs1 rs2
operation_of (instr.Divw rd rs1 rs2) = op.WordProduct mul_div.Div rd rs1 rs2
operation_of (instr.Divuw rd rs1 rs2) = op.WordProduct mul_div.Divu rd rs1 rs2
operation_of (instr.Remw rd rs1 rs2) = op.WordProduct mul_div.Rem rd rs1 rs2
operation_of (instr.Remuw rd rs1 rs2) = op.WordProduct mul_div.Remu rd rs1 rs2
operation_of (instr.LrW rd rs1 ordering) = op.Reserve width.B4 rd rs1
operation_of (instr.ScW rd rs1 rs2 ordering) = op.Conditional width.B4 rd rs1 rs2
operation_of (instr.AmoSwapW rd rs1 rs2 ordering) = op.Amo amo.Swap width.B4 rd rs1 rs2
operation_of (instr.AmoAddW rd rs1 rs2 ordering) = op.Amo amo.Add width.B4 rd rs1 rs2
operation_of (instr.AmoXorW rd rs1 rs2 ordering) = op.Amo amo.Xor width.B4 rd rs1 rs2
operation_of (instr.AmoAndW rd rs1 rs2 ordering) = op.Amo amo.And width.B4 rd rs1 rs2
operation_of (instr.AmoOrW rd rs1 rs2 ordering) = op.Amo amo.Or width.B4 rd rs1 rs2
operation_of (instr.AmoMinW rd rs1 rs2 ordering) = op.Amo amo.Min width.B4 rd rs1 rs2
operation_of (instr.AmoMaxW rd rs1 rs2 ordering) = op.Amo amo.Max width.B4 rd rs1 rs2
operation_of (instr.AmoMinuW rd rs1 rs2 ordering) = op.Amo amo.Minu width.B4 rd rs1 rs2
operation_of (instr.AmoMaxuW rd rs1 rs2 ordering) = op.Amo amo.Maxu width.B4 rd rs1 rs2
operation_of (instr.LrD rd rs1 ordering) = op.Reserve width.B8 rd rs1
operation_of (instr.ScD rd rs1 rs2 ordering) = op.Conditional width.B8 rd rs1 rs2
operation_of (instr.AmoSwapD rd rs1 rs2 ordering) = op.Amo amo.Swap width.B8 rd rs1 rs2
operation_of (instr.AmoAddD rd rs1 rs2 ordering) = op.Amo amo.Add width.B8 rd rs1 rs2
operation_of (instr.AmoXorD rd rs1 rs2 ordering) = op.Amo amo.Xor width.B8 rd rs1 rs2
operation_of (instr.AmoAndD rd rs1 rs2 ordering) = op.Amo amo.And width.B8 rd rs1 rs2
operation_of (instr.AmoOrD rd rs1 rs2 ordering) = op.Amo amo.Or width.B8 rd rs1 rs2
operation_of (instr.AmoMinD rd rs1 rs2 ordering) = op.Amo amo.Min width.B8 rd rs1 rs2
operation_of (instr.AmoMaxD rd rs1 rs2 ordering) = op.Amo amo.Max width.B8 rd rs1 rs2
operation_of (instr.AmoMinuD rd rs1 rs2 ordering) = op.Amo amo.Minu width.B8 rd rs1 rs2
operation_of (instr.AmoMaxuD rd rs1 rs2 ordering) = op.Amo amo.Maxu width.B8 rd rs1 rs2
operation_of (instr.Csrrw rd rs1 csr) = op.Csr csr_op.Write rd rs1 csr
operation_of (instr.Csrrs rd rs1 csr) = op.Csr csr_op.Set rd rs1 csr
operation_of (instr.Csrrc rd rs1 csr) = op.Csr csr_op.Clear rd rs1 csr
operation_of (instr.Csrrwi rd uimm csr) = op.CsrImmediate csr_op.Write rd uimm csr
operation_of (instr.Csrrsi rd uimm csr) = op.CsrImmediate csr_op.Set rd uimm csr
operation_of (instr.Csrrci rd uimm csr) = op.CsrImmediate csr_op.Clear rd uimm csr
operation_of instr.Ecall = op.Call
operation_of instr.Ebreak = op.Break
operation_of instr.Mret = op.Return
operation_of instr.Wfi = op.Nothing
