-- The instruction listing: a line for each row, and what follows from it. The rows are those of the
-- manual's chapter "RV32/64G Instruction Set Listings", tables "RV32I" and "RV64I Base Instruction Set",
-- "RV32/RV64 Zifencei", "RV32/RV64 Zicsr", "RV32M", "RV64M", "RV32A" and "RV64A Standard Extension", and
-- MRET and WFI of the Privileged Architecture's "RISC-V Privileged Instruction Set Listings".
use Rattle.std.specs.Prelude.{◌≡◌, ◌==◌, ◌&&◌, if◌then◌else◌, ℕ, ◌/◌, ◌%◌, ◌^◌, ◌<◌, Option, Some, None}
use Rattle.tv_isa.specs.declared.fields.Fields.{Fields}
use Rattle.tv_isa.specs.declared.Instr.{Instr}
use Rattle.tv_isa.specs.declared.Instr.TheVariants as instr
use Rattle.tv_isa.specs.Fields.{split, join}
use Rattle.tv_isa.specs.Formats.{r_form, amo_form, i_form, shift_form, shift_w_form, s_form, b_form, u_form, j_form}
use Rattle.tv_isa.specs.Formats.{i_imm, shift_amount, s_imm, b_offset, u_imm, j_offset, funct5, ordering}

-- the fields of each row: the format, then opcode, funct3 and funct7 or funct6 where the format has them
abbrev pub fields_of : Instr → Fields
fields_of (instr.Lui rd imm) = u_form 0x37 rd imm
fields_of (instr.Auipc rd imm) = u_form 0x17 rd imm
fields_of (instr.Jal rd offset) = j_form 0x6f rd offset
fields_of (instr.Jalr rd rs1 imm) = i_form 0x67 0 rd rs1 imm
fields_of (instr.Beq rs1 rs2 offset) = b_form 0x63 0 rs1 rs2 offset
fields_of (instr.Bne rs1 rs2 offset) = b_form 0x63 1 rs1 rs2 offset
fields_of (instr.Blt rs1 rs2 offset) = b_form 0x63 4 rs1 rs2 offset
fields_of (instr.Bge rs1 rs2 offset) = b_form 0x63 5 rs1 rs2 offset
fields_of (instr.Bltu rs1 rs2 offset) = b_form 0x63 6 rs1 rs2 offset
fields_of (instr.Bgeu rs1 rs2 offset) = b_form 0x63 7 rs1 rs2 offset
fields_of (instr.Lb rd rs1 imm) = i_form 0x03 0 rd rs1 imm
fields_of (instr.Lh rd rs1 imm) = i_form 0x03 1 rd rs1 imm
fields_of (instr.Lw rd rs1 imm) = i_form 0x03 2 rd rs1 imm
fields_of (instr.Ld rd rs1 imm) = i_form 0x03 3 rd rs1 imm
fields_of (instr.Lbu rd rs1 imm) = i_form 0x03 4 rd rs1 imm
fields_of (instr.Lhu rd rs1 imm) = i_form 0x03 5 rd rs1 imm
fields_of (instr.Lwu rd rs1 imm) = i_form 0x03 6 rd rs1 imm
fields_of (instr.Sb rs1 rs2 imm) = s_form 0x23 0 rs1 rs2 imm
fields_of (instr.Sh rs1 rs2 imm) = s_form 0x23 1 rs1 rs2 imm
fields_of (instr.Sw rs1 rs2 imm) = s_form 0x23 2 rs1 rs2 imm
fields_of (instr.Sd rs1 rs2 imm) = s_form 0x23 3 rs1 rs2 imm
fields_of (instr.Addi rd rs1 imm) = i_form 0x13 0 rd rs1 imm
fields_of (instr.Slti rd rs1 imm) = i_form 0x13 2 rd rs1 imm
fields_of (instr.Sltiu rd rs1 imm) = i_form 0x13 3 rd rs1 imm
fields_of (instr.Xori rd rs1 imm) = i_form 0x13 4 rd rs1 imm
fields_of (instr.Ori rd rs1 imm) = i_form 0x13 6 rd rs1 imm
fields_of (instr.Andi rd rs1 imm) = i_form 0x13 7 rd rs1 imm
fields_of (instr.Slli rd rs1 shamt) = shift_form 0x13 1 0 rd rs1 shamt
fields_of (instr.Srli rd rs1 shamt) = shift_form 0x13 5 0 rd rs1 shamt
fields_of (instr.Srai rd rs1 shamt) = shift_form 0x13 5 0x10 rd rs1 shamt
fields_of (instr.Addiw rd rs1 imm) = i_form 0x1b 0 rd rs1 imm
fields_of (instr.Slliw rd rs1 shamt) = shift_w_form 0x1b 1 0 rd rs1 shamt
fields_of (instr.Srliw rd rs1 shamt) = shift_w_form 0x1b 5 0 rd rs1 shamt
fields_of (instr.Sraiw rd rs1 shamt) = shift_w_form 0x1b 5 0x20 rd rs1 shamt
fields_of (instr.Add rd rs1 rs2) = r_form 0x33 0 0 rd rs1 rs2
fields_of (instr.Sub rd rs1 rs2) = r_form 0x33 0 0x20 rd rs1 rs2
fields_of (instr.Sll rd rs1 rs2) = r_form 0x33 1 0 rd rs1 rs2
fields_of (instr.Slt rd rs1 rs2) = r_form 0x33 2 0 rd rs1 rs2
fields_of (instr.Sltu rd rs1 rs2) = r_form 0x33 3 0 rd rs1 rs2
fields_of (instr.Xor rd rs1 rs2) = r_form 0x33 4 0 rd rs1 rs2
fields_of (instr.Srl rd rs1 rs2) = r_form 0x33 5 0 rd rs1 rs2
fields_of (instr.Sra rd rs1 rs2) = r_form 0x33 5 0x20 rd rs1 rs2
fields_of (instr.Or rd rs1 rs2) = r_form 0x33 6 0 rd rs1 rs2
fields_of (instr.And rd rs1 rs2) = r_form 0x33 7 0 rd rs1 rs2
fields_of (instr.Addw rd rs1 rs2) = r_form 0x3b 0 0 rd rs1 rs2
fields_of (instr.Subw rd rs1 rs2) = r_form 0x3b 0 0x20 rd rs1 rs2
fields_of (instr.Sllw rd rs1 rs2) = r_form 0x3b 1 0 rd rs1 rs2
fields_of (instr.Srlw rd rs1 rs2) = r_form 0x3b 5 0 rd rs1 rs2
fields_of (instr.Sraw rd rs1 rs2) = r_form 0x3b 5 0x20 rd rs1 rs2
fields_of (instr.Fence word) = split word
fields_of (instr.FenceI word) = split word
fields_of (instr.Mul rd rs1 rs2) = r_form 0x33 0 1 rd rs1 rs2
fields_of (instr.Mulh rd rs1 rs2) = r_form 0x33 1 1 rd rs1 rs2
fields_of (instr.Mulhsu rd rs1 rs2) = r_form 0x33 2 1 rd rs1 rs2
fields_of (instr.Mulhu rd rs1 rs2) = r_form 0x33 3 1 rd rs1 rs2
fields_of (instr.Div rd rs1 rs2) = r_form 0x33 4 1 rd rs1 rs2
fields_of (instr.Divu rd rs1 rs2) = r_form 0x33 5 1 rd rs1 rs2
fields_of (instr.Rem rd rs1 rs2) = r_form 0x33 6 1 rd rs1 rs2
fields_of (instr.Remu rd rs1 rs2) = r_form 0x33 7 1 rd rs1 rs2
fields_of (instr.Mulw rd rs1 rs2) = r_form 0x3b 0 1 rd rs1 rs2
fields_of (instr.Divw rd rs1 rs2) = r_form 0x3b 4 1 rd rs1 rs2
fields_of (instr.Divuw rd rs1 rs2) = r_form 0x3b 5 1 rd rs1 rs2
fields_of (instr.Remw rd rs1 rs2) = r_form 0x3b 6 1 rd rs1 rs2
fields_of (instr.Remuw rd rs1 rs2) = r_form 0x3b 7 1 rd rs1 rs2
fields_of (instr.LrW rd rs1 ordering) = amo_form 0x2f 2 0x02 rd rs1 0 ordering
fields_of (instr.ScW rd rs1 rs2 ordering) = amo_form 0x2f 2 0x03 rd rs1 rs2 ordering
fields_of (instr.AmoSwapW rd rs1 rs2 ordering) = amo_form 0x2f 2 0x01 rd rs1 rs2 ordering
fields_of (instr.AmoAddW rd rs1 rs2 ordering) = amo_form 0x2f 2 0x00 rd rs1 rs2 ordering
fields_of (instr.AmoXorW rd rs1 rs2 ordering) = amo_form 0x2f 2 0x04 rd rs1 rs2 ordering
fields_of (instr.AmoAndW rd rs1 rs2 ordering) = amo_form 0x2f 2 0x0c rd rs1 rs2 ordering
fields_of (instr.AmoOrW rd rs1 rs2 ordering) = amo_form 0x2f 2 0x08 rd rs1 rs2 ordering
fields_of (instr.AmoMinW rd rs1 rs2 ordering) = amo_form 0x2f 2 0x10 rd rs1 rs2 ordering
fields_of (instr.AmoMaxW rd rs1 rs2 ordering) = amo_form 0x2f 2 0x14 rd rs1 rs2 ordering
fields_of (instr.AmoMinuW rd rs1 rs2 ordering) = amo_form 0x2f 2 0x18 rd rs1 rs2 ordering
fields_of (instr.AmoMaxuW rd rs1 rs2 ordering) = amo_form 0x2f 2 0x1c rd rs1 rs2 ordering
fields_of (instr.LrD rd rs1 ordering) = amo_form 0x2f 3 0x02 rd rs1 0 ordering
fields_of (instr.ScD rd rs1 rs2 ordering) = amo_form 0x2f 3 0x03 rd rs1 rs2 ordering
fields_of (instr.AmoSwapD rd rs1 rs2 ordering) = amo_form 0x2f 3 0x01 rd rs1 rs2 ordering
fields_of (instr.AmoAddD rd rs1 rs2 ordering) = amo_form 0x2f 3 0x00 rd rs1 rs2 ordering
fields_of (instr.AmoXorD rd rs1 rs2 ordering) = amo_form 0x2f 3 0x04 rd rs1 rs2 ordering
fields_of (instr.AmoAndD rd rs1 rs2 ordering) = amo_form 0x2f 3 0x0c rd rs1 rs2 ordering
fields_of (instr.AmoOrD rd rs1 rs2 ordering) = amo_form 0x2f 3 0x08 rd rs1 rs2 ordering
fields_of (instr.AmoMinD rd rs1 rs2 ordering) = amo_form 0x2f 3 0x10 rd rs1 rs2 ordering
fields_of (instr.AmoMaxD rd rs1 rs2 ordering) = amo_form 0x2f 3 0x14 rd rs1 rs2 ordering
fields_of (instr.AmoMinuD rd rs1 rs2 ordering) = amo_form 0x2f 3 0x18 rd rs1 rs2 ordering
fields_of (instr.AmoMaxuD rd rs1 rs2 ordering) = amo_form 0x2f 3 0x1c rd rs1 rs2 ordering
fields_of (instr.Csrrw rd rs1 csr) = i_form 0x73 1 rd rs1 csr
fields_of (instr.Csrrs rd rs1 csr) = i_form 0x73 2 rd rs1 csr
fields_of (instr.Csrrc rd rs1 csr) = i_form 0x73 3 rd rs1 csr
fields_of (instr.Csrrwi rd uimm csr) = i_form 0x73 5 rd uimm csr
fields_of (instr.Csrrsi rd uimm csr) = i_form 0x73 6 rd uimm csr
fields_of (instr.Csrrci rd uimm csr) = i_form 0x73 7 rd uimm csr
fields_of instr.Ecall = split 0x00000073
fields_of instr.Ebreak = split 0x00100073
fields_of instr.Mret = split 0x30200073
fields_of instr.Wfi = split 0x10500073

-- the word of an instruction
unfoldable pub word_of : Instr → ℕ
word_of i = join (fields_of i)

-- within range, for the parts of each format
abbrev pub FitsR : ℕ → ℕ → ℕ → Type 0
FitsR rd rs1 rs2 = (rd < 2 ^ 5) × (rs1 < 2 ^ 5) × (rs2 < 2 ^ 5)

-- the two bits aq and rl
abbrev pub FitsAmo : ℕ → ℕ → ℕ → ℕ → Type 0
FitsAmo rd rs1 rs2 ordering = (rd < 2 ^ 5) × (rs1 < 2 ^ 5) × (rs2 < 2 ^ 5) × (ordering < 2 ^ 2)

abbrev pub FitsI : ℕ → ℕ → ℕ → Type 0
FitsI rd rs1 imm = (rd < 2 ^ 5) × (rs1 < 2 ^ 5) × (imm < 2 ^ 12)

abbrev pub FitsShift : ℕ → ℕ → ℕ → Type 0
FitsShift rd rs1 shamt = (rd < 2 ^ 5) × (rs1 < 2 ^ 5) × (shamt < 2 ^ 6)

abbrev pub FitsShiftW : ℕ → ℕ → ℕ → Type 0
FitsShiftW rd rs1 shamt = (rd < 2 ^ 5) × (rs1 < 2 ^ 5) × (shamt < 2 ^ 5)

abbrev pub FitsS : ℕ → ℕ → ℕ → Type 0
FitsS rs1 rs2 imm = (rs1 < 2 ^ 5) × (rs2 < 2 ^ 5) × (imm < 2 ^ 12)

-- the offset of a branch is even
abbrev pub FitsB : ℕ → ℕ → ℕ → Type 0
FitsB rs1 rs2 offset = (rs1 < 2 ^ 5) × (rs2 < 2 ^ 5) × (offset < 2 ^ 13) × (offset % 2 ≡ 0)

abbrev pub FitsU : ℕ → ℕ → Type 0
FitsU rd imm = (rd < 2 ^ 5) × (imm < 2 ^ 20)

-- the offset of a jump is even
abbrev pub FitsJ : ℕ → ℕ → Type 0
FitsJ rd offset = (rd < 2 ^ 5) × (offset < 2 ^ 21) × (offset % 2 ≡ 0)

-- the word of a fence: MISC-MEM with this funct3. The other fields may hold anything: they ask for a
-- weaker order, or are reserved and ignored.
abbrev pub IsFence : ℕ → ℕ → Type 0
IsFence funct3 word = (word < 2 ^ 32) × (word % 2 ^ 7 ≡ 0x0f) × (word / 2 ^ 12 % 2 ^ 3 ≡ funct3)

-- the parts of an instruction are within the bits that its word has for them
abbrev pub InRange : Instr → Type 0
InRange (instr.Lui rd imm) = FitsU rd imm
InRange (instr.Auipc rd imm) = FitsU rd imm
InRange (instr.Jal rd offset) = FitsJ rd offset
InRange (instr.Jalr rd rs1 imm) = FitsI rd rs1 imm
InRange (instr.Beq rs1 rs2 offset) = FitsB rs1 rs2 offset
InRange (instr.Bne rs1 rs2 offset) = FitsB rs1 rs2 offset
InRange (instr.Blt rs1 rs2 offset) = FitsB rs1 rs2 offset
InRange (instr.Bge rs1 rs2 offset) = FitsB rs1 rs2 offset
InRange (instr.Bltu rs1 rs2 offset) = FitsB rs1 rs2 offset
InRange (instr.Bgeu rs1 rs2 offset) = FitsB rs1 rs2 offset
InRange (instr.Lb rd rs1 imm) = FitsI rd rs1 imm
InRange (instr.Lh rd rs1 imm) = FitsI rd rs1 imm
InRange (instr.Lw rd rs1 imm) = FitsI rd rs1 imm
InRange (instr.Ld rd rs1 imm) = FitsI rd rs1 imm
InRange (instr.Lbu rd rs1 imm) = FitsI rd rs1 imm
InRange (instr.Lhu rd rs1 imm) = FitsI rd rs1 imm
InRange (instr.Lwu rd rs1 imm) = FitsI rd rs1 imm
InRange (instr.Sb rs1 rs2 imm) = FitsS rs1 rs2 imm
InRange (instr.Sh rs1 rs2 imm) = FitsS rs1 rs2 imm
InRange (instr.Sw rs1 rs2 imm) = FitsS rs1 rs2 imm
InRange (instr.Sd rs1 rs2 imm) = FitsS rs1 rs2 imm
InRange (instr.Addi rd rs1 imm) = FitsI rd rs1 imm
InRange (instr.Slti rd rs1 imm) = FitsI rd rs1 imm
InRange (instr.Sltiu rd rs1 imm) = FitsI rd rs1 imm
InRange (instr.Xori rd rs1 imm) = FitsI rd rs1 imm
InRange (instr.Ori rd rs1 imm) = FitsI rd rs1 imm
InRange (instr.Andi rd rs1 imm) = FitsI rd rs1 imm
InRange (instr.Slli rd rs1 shamt) = FitsShift rd rs1 shamt
InRange (instr.Srli rd rs1 shamt) = FitsShift rd rs1 shamt
InRange (instr.Srai rd rs1 shamt) = FitsShift rd rs1 shamt
InRange (instr.Addiw rd rs1 imm) = FitsI rd rs1 imm
InRange (instr.Slliw rd rs1 shamt) = FitsShiftW rd rs1 shamt
InRange (instr.Srliw rd rs1 shamt) = FitsShiftW rd rs1 shamt
InRange (instr.Sraiw rd rs1 shamt) = FitsShiftW rd rs1 shamt
InRange (instr.Add rd rs1 rs2) = FitsR rd rs1 rs2
InRange (instr.Sub rd rs1 rs2) = FitsR rd rs1 rs2
InRange (instr.Sll rd rs1 rs2) = FitsR rd rs1 rs2
InRange (instr.Slt rd rs1 rs2) = FitsR rd rs1 rs2
InRange (instr.Sltu rd rs1 rs2) = FitsR rd rs1 rs2
InRange (instr.Xor rd rs1 rs2) = FitsR rd rs1 rs2
InRange (instr.Srl rd rs1 rs2) = FitsR rd rs1 rs2
InRange (instr.Sra rd rs1 rs2) = FitsR rd rs1 rs2
InRange (instr.Or rd rs1 rs2) = FitsR rd rs1 rs2
InRange (instr.And rd rs1 rs2) = FitsR rd rs1 rs2
InRange (instr.Addw rd rs1 rs2) = FitsR rd rs1 rs2
InRange (instr.Subw rd rs1 rs2) = FitsR rd rs1 rs2
InRange (instr.Sllw rd rs1 rs2) = FitsR rd rs1 rs2
InRange (instr.Srlw rd rs1 rs2) = FitsR rd rs1 rs2
InRange (instr.Sraw rd rs1 rs2) = FitsR rd rs1 rs2
InRange (instr.Fence word) = IsFence 0 word
InRange (instr.FenceI word) = IsFence 1 word
InRange (instr.Mul rd rs1 rs2) = FitsR rd rs1 rs2
InRange (instr.Mulh rd rs1 rs2) = FitsR rd rs1 rs2
InRange (instr.Mulhsu rd rs1 rs2) = FitsR rd rs1 rs2
InRange (instr.Mulhu rd rs1 rs2) = FitsR rd rs1 rs2
InRange (instr.Div rd rs1 rs2) = FitsR rd rs1 rs2
InRange (instr.Divu rd rs1 rs2) = FitsR rd rs1 rs2
InRange (instr.Rem rd rs1 rs2) = FitsR rd rs1 rs2
InRange (instr.Remu rd rs1 rs2) = FitsR rd rs1 rs2
InRange (instr.Mulw rd rs1 rs2) = FitsR rd rs1 rs2
InRange (instr.Divw rd rs1 rs2) = FitsR rd rs1 rs2
InRange (instr.Divuw rd rs1 rs2) = FitsR rd rs1 rs2
InRange (instr.Remw rd rs1 rs2) = FitsR rd rs1 rs2
InRange (instr.Remuw rd rs1 rs2) = FitsR rd rs1 rs2
InRange (instr.LrW rd rs1 ordering) = FitsAmo rd rs1 0 ordering
InRange (instr.ScW rd rs1 rs2 ordering) = FitsAmo rd rs1 rs2 ordering
InRange (instr.AmoSwapW rd rs1 rs2 ordering) = FitsAmo rd rs1 rs2 ordering
InRange (instr.AmoAddW rd rs1 rs2 ordering) = FitsAmo rd rs1 rs2 ordering
InRange (instr.AmoXorW rd rs1 rs2 ordering) = FitsAmo rd rs1 rs2 ordering
InRange (instr.AmoAndW rd rs1 rs2 ordering) = FitsAmo rd rs1 rs2 ordering
InRange (instr.AmoOrW rd rs1 rs2 ordering) = FitsAmo rd rs1 rs2 ordering
InRange (instr.AmoMinW rd rs1 rs2 ordering) = FitsAmo rd rs1 rs2 ordering
InRange (instr.AmoMaxW rd rs1 rs2 ordering) = FitsAmo rd rs1 rs2 ordering
InRange (instr.AmoMinuW rd rs1 rs2 ordering) = FitsAmo rd rs1 rs2 ordering
InRange (instr.AmoMaxuW rd rs1 rs2 ordering) = FitsAmo rd rs1 rs2 ordering
InRange (instr.LrD rd rs1 ordering) = FitsAmo rd rs1 0 ordering
InRange (instr.ScD rd rs1 rs2 ordering) = FitsAmo rd rs1 rs2 ordering
InRange (instr.AmoSwapD rd rs1 rs2 ordering) = FitsAmo rd rs1 rs2 ordering
InRange (instr.AmoAddD rd rs1 rs2 ordering) = FitsAmo rd rs1 rs2 ordering
InRange (instr.AmoXorD rd rs1 rs2 ordering) = FitsAmo rd rs1 rs2 ordering
InRange (instr.AmoAndD rd rs1 rs2 ordering) = FitsAmo rd rs1 rs2 ordering
InRange (instr.AmoOrD rd rs1 rs2 ordering) = FitsAmo rd rs1 rs2 ordering
InRange (instr.AmoMinD rd rs1 rs2 ordering) = FitsAmo rd rs1 rs2 ordering
InRange (instr.AmoMaxD rd rs1 rs2 ordering) = FitsAmo rd rs1 rs2 ordering
InRange (instr.AmoMinuD rd rs1 rs2 ordering) = FitsAmo rd rs1 rs2 ordering
InRange (instr.AmoMaxuD rd rs1 rs2 ordering) = FitsAmo rd rs1 rs2 ordering
InRange (instr.Csrrw rd rs1 csr) = FitsI rd rs1 csr
InRange (instr.Csrrs rd rs1 csr) = FitsI rd rs1 csr
InRange (instr.Csrrc rd rs1 csr) = FitsI rd rs1 csr
InRange (instr.Csrrwi rd uimm csr) = FitsI rd uimm csr
InRange (instr.Csrrsi rd uimm csr) = FitsI rd uimm csr
InRange (instr.Csrrci rd uimm csr) = FitsI rd uimm csr
InRange instr.Ecall = Unit {0}
InRange instr.Ebreak = Unit {0}
InRange instr.Mret = Unit {0}
InRange instr.Wfi = Unit {0}

-- JALR
abbrev pub jalr_at : Fields → Option Instr
jalr_at f =
    if f.funct3 == 0 then Some (instr.Jalr f.rd f.rs1 (i_imm f))
    else None

-- BRANCH: the conditional branches
abbrev pub branch_at : Fields → Option Instr
branch_at f =
    if f.funct3 == 0 then Some (instr.Beq f.rs1 f.rs2 (b_offset f))
    else if f.funct3 == 1 then Some (instr.Bne f.rs1 f.rs2 (b_offset f))
    else if f.funct3 == 4 then Some (instr.Blt f.rs1 f.rs2 (b_offset f))
    else if f.funct3 == 5 then Some (instr.Bge f.rs1 f.rs2 (b_offset f))
    else if f.funct3 == 6 then Some (instr.Bltu f.rs1 f.rs2 (b_offset f))
    else if f.funct3 == 7 then Some (instr.Bgeu f.rs1 f.rs2 (b_offset f))
    else None

-- LOAD
abbrev pub load_at : Fields → Option Instr
load_at f =
    if f.funct3 == 0 then Some (instr.Lb f.rd f.rs1 (i_imm f))
    else if f.funct3 == 1 then Some (instr.Lh f.rd f.rs1 (i_imm f))
    else if f.funct3 == 2 then Some (instr.Lw f.rd f.rs1 (i_imm f))
    else if f.funct3 == 3 then Some (instr.Ld f.rd f.rs1 (i_imm f))
    else if f.funct3 == 4 then Some (instr.Lbu f.rd f.rs1 (i_imm f))
    else if f.funct3 == 5 then Some (instr.Lhu f.rd f.rs1 (i_imm f))
    else if f.funct3 == 6 then Some (instr.Lwu f.rd f.rs1 (i_imm f))
    else None

-- STORE
abbrev pub store_at : Fields → Option Instr
store_at f =
    if f.funct3 == 0 then Some (instr.Sb f.rs1 f.rs2 (s_imm f))
    else if f.funct3 == 1 then Some (instr.Sh f.rs1 f.rs2 (s_imm f))
    else if f.funct3 == 2 then Some (instr.Sw f.rs1 f.rs2 (s_imm f))
    else if f.funct3 == 3 then Some (instr.Sd f.rs1 f.rs2 (s_imm f))
    else None

-- OP-IMM: a register and an immediate
abbrev pub op_imm_at : Fields → Option Instr
op_imm_at f =
    if f.funct3 == 0 then Some (instr.Addi f.rd f.rs1 (i_imm f))
    else if f.funct3 == 2 then Some (instr.Slti f.rd f.rs1 (i_imm f))
    else if f.funct3 == 3 then Some (instr.Sltiu f.rd f.rs1 (i_imm f))
    else if f.funct3 == 4 then Some (instr.Xori f.rd f.rs1 (i_imm f))
    else if f.funct3 == 6 then Some (instr.Ori f.rd f.rs1 (i_imm f))
    else if f.funct3 == 7 then Some (instr.Andi f.rd f.rs1 (i_imm f))
    else if (f.funct7 / 2 == 0) && (f.funct3 == 1) then Some (instr.Slli f.rd f.rs1 (shift_amount f))
    else if (f.funct7 / 2 == 0) && (f.funct3 == 5) then Some (instr.Srli f.rd f.rs1 (shift_amount f))
    else if (f.funct7 / 2 == 0x10) && (f.funct3 == 5) then Some (instr.Srai f.rd f.rs1 (shift_amount f))
    else None

-- OP-IMM-32: the same on 32 bits
abbrev pub op_imm_32_at : Fields → Option Instr
op_imm_32_at f =
    if f.funct3 == 0 then Some (instr.Addiw f.rd f.rs1 (i_imm f))
    else if (f.funct7 == 0) && (f.funct3 == 1) then Some (instr.Slliw f.rd f.rs1 f.rs2)
    else if (f.funct7 == 0) && (f.funct3 == 5) then Some (instr.Srliw f.rd f.rs1 f.rs2)
    else if (f.funct7 == 0x20) && (f.funct3 == 5) then Some (instr.Sraiw f.rd f.rs1 f.rs2)
    else None

-- OP: two registers
abbrev pub op_at : Fields → Option Instr
op_at f =
    if (f.funct7 == 0) && (f.funct3 == 0) then Some (instr.Add f.rd f.rs1 f.rs2)
    else if (f.funct7 == 0x20) && (f.funct3 == 0) then Some (instr.Sub f.rd f.rs1 f.rs2)
    else if (f.funct7 == 0) && (f.funct3 == 1) then Some (instr.Sll f.rd f.rs1 f.rs2)
    else if (f.funct7 == 0) && (f.funct3 == 2) then Some (instr.Slt f.rd f.rs1 f.rs2)
    else if (f.funct7 == 0) && (f.funct3 == 3) then Some (instr.Sltu f.rd f.rs1 f.rs2)
    else if (f.funct7 == 0) && (f.funct3 == 4) then Some (instr.Xor f.rd f.rs1 f.rs2)
    else if (f.funct7 == 0) && (f.funct3 == 5) then Some (instr.Srl f.rd f.rs1 f.rs2)
    else if (f.funct7 == 0x20) && (f.funct3 == 5) then Some (instr.Sra f.rd f.rs1 f.rs2)
    else if (f.funct7 == 0) && (f.funct3 == 6) then Some (instr.Or f.rd f.rs1 f.rs2)
    else if (f.funct7 == 0) && (f.funct3 == 7) then Some (instr.And f.rd f.rs1 f.rs2)
    else if (f.funct7 == 1) && (f.funct3 == 0) then Some (instr.Mul f.rd f.rs1 f.rs2)
    else if (f.funct7 == 1) && (f.funct3 == 1) then Some (instr.Mulh f.rd f.rs1 f.rs2)
    else if (f.funct7 == 1) && (f.funct3 == 2) then Some (instr.Mulhsu f.rd f.rs1 f.rs2)
    else if (f.funct7 == 1) && (f.funct3 == 3) then Some (instr.Mulhu f.rd f.rs1 f.rs2)
    else if (f.funct7 == 1) && (f.funct3 == 4) then Some (instr.Div f.rd f.rs1 f.rs2)
    else if (f.funct7 == 1) && (f.funct3 == 5) then Some (instr.Divu f.rd f.rs1 f.rs2)
    else if (f.funct7 == 1) && (f.funct3 == 6) then Some (instr.Rem f.rd f.rs1 f.rs2)
    else if (f.funct7 == 1) && (f.funct3 == 7) then Some (instr.Remu f.rd f.rs1 f.rs2)
    else None

-- OP-32: the same on 32 bits
abbrev pub op_32_at : Fields → Option Instr
op_32_at f =
    if (f.funct7 == 0) && (f.funct3 == 0) then Some (instr.Addw f.rd f.rs1 f.rs2)
    else if (f.funct7 == 0x20) && (f.funct3 == 0) then Some (instr.Subw f.rd f.rs1 f.rs2)
    else if (f.funct7 == 0) && (f.funct3 == 1) then Some (instr.Sllw f.rd f.rs1 f.rs2)
    else if (f.funct7 == 0) && (f.funct3 == 5) then Some (instr.Srlw f.rd f.rs1 f.rs2)
    else if (f.funct7 == 0x20) && (f.funct3 == 5) then Some (instr.Sraw f.rd f.rs1 f.rs2)
    else if (f.funct7 == 1) && (f.funct3 == 0) then Some (instr.Mulw f.rd f.rs1 f.rs2)
    else if (f.funct7 == 1) && (f.funct3 == 4) then Some (instr.Divw f.rd f.rs1 f.rs2)
    else if (f.funct7 == 1) && (f.funct3 == 5) then Some (instr.Divuw f.rd f.rs1 f.rs2)
    else if (f.funct7 == 1) && (f.funct3 == 6) then Some (instr.Remw f.rd f.rs1 f.rs2)
    else if (f.funct7 == 1) && (f.funct3 == 7) then Some (instr.Remuw f.rd f.rs1 f.rs2)
    else None

-- MISC-MEM: the fences, which keep the whole word
abbrev pub misc_mem_at : ℕ → Fields → Option Instr
misc_mem_at word f =
    if f.funct3 == 0 then Some (instr.Fence word)
    else if f.funct3 == 1 then Some (instr.FenceI word)
    else None

-- AMO with a word: LR and SC, and the operations on memory
abbrev pub amo_word_at : Fields → Option Instr
amo_word_at f =
    if (funct5 f == 0x02) && (f.rs2 == 0) then Some (instr.LrW f.rd f.rs1 (ordering f))
    else if funct5 f == 0x03 then Some (instr.ScW f.rd f.rs1 f.rs2 (ordering f))
    else if funct5 f == 0x01 then Some (instr.AmoSwapW f.rd f.rs1 f.rs2 (ordering f))
    else if funct5 f == 0x00 then Some (instr.AmoAddW f.rd f.rs1 f.rs2 (ordering f))
    else if funct5 f == 0x04 then Some (instr.AmoXorW f.rd f.rs1 f.rs2 (ordering f))
    else if funct5 f == 0x0c then Some (instr.AmoAndW f.rd f.rs1 f.rs2 (ordering f))
    else if funct5 f == 0x08 then Some (instr.AmoOrW f.rd f.rs1 f.rs2 (ordering f))
    else if funct5 f == 0x10 then Some (instr.AmoMinW f.rd f.rs1 f.rs2 (ordering f))
    else if funct5 f == 0x14 then Some (instr.AmoMaxW f.rd f.rs1 f.rs2 (ordering f))
    else if funct5 f == 0x18 then Some (instr.AmoMinuW f.rd f.rs1 f.rs2 (ordering f))
    else if funct5 f == 0x1c then Some (instr.AmoMaxuW f.rd f.rs1 f.rs2 (ordering f))
    else None

-- AMO with a double word
abbrev pub amo_double_at : Fields → Option Instr
amo_double_at f =
    if (funct5 f == 0x02) && (f.rs2 == 0) then Some (instr.LrD f.rd f.rs1 (ordering f))
    else if funct5 f == 0x03 then Some (instr.ScD f.rd f.rs1 f.rs2 (ordering f))
    else if funct5 f == 0x01 then Some (instr.AmoSwapD f.rd f.rs1 f.rs2 (ordering f))
    else if funct5 f == 0x00 then Some (instr.AmoAddD f.rd f.rs1 f.rs2 (ordering f))
    else if funct5 f == 0x04 then Some (instr.AmoXorD f.rd f.rs1 f.rs2 (ordering f))
    else if funct5 f == 0x0c then Some (instr.AmoAndD f.rd f.rs1 f.rs2 (ordering f))
    else if funct5 f == 0x08 then Some (instr.AmoOrD f.rd f.rs1 f.rs2 (ordering f))
    else if funct5 f == 0x10 then Some (instr.AmoMinD f.rd f.rs1 f.rs2 (ordering f))
    else if funct5 f == 0x14 then Some (instr.AmoMaxD f.rd f.rs1 f.rs2 (ordering f))
    else if funct5 f == 0x18 then Some (instr.AmoMinuD f.rd f.rs1 f.rs2 (ordering f))
    else if funct5 f == 0x1c then Some (instr.AmoMaxuD f.rd f.rs1 f.rs2 (ordering f))
    else None

-- AMO, by width
abbrev pub amo_at : Fields → Option Instr
amo_at f =
    if f.funct3 == 2 then amo_word_at f
    else if f.funct3 == 3 then amo_double_at f
    else None

-- SYSTEM: the CSR instructions, and four whole words
abbrev pub system_at : ℕ → Fields → Option Instr
system_at word f =
    if f.funct3 == 1 then Some (instr.Csrrw f.rd f.rs1 (i_imm f))
    else if f.funct3 == 2 then Some (instr.Csrrs f.rd f.rs1 (i_imm f))
    else if f.funct3 == 3 then Some (instr.Csrrc f.rd f.rs1 (i_imm f))
    else if f.funct3 == 5 then Some (instr.Csrrwi f.rd f.rs1 (i_imm f))
    else if f.funct3 == 6 then Some (instr.Csrrsi f.rd f.rs1 (i_imm f))
    else if f.funct3 == 7 then Some (instr.Csrrci f.rd f.rs1 (i_imm f))
    else if word == 0x00000073 then Some instr.Ecall
    else if word == 0x00100073 then Some instr.Ebreak
    else if word == 0x30200073 then Some instr.Mret
    else if word == 0x10500073 then Some instr.Wfi
    else None

-- the instruction of a word with these fields, by opcode
unfoldable pub row_at : ℕ → Fields → Option Instr
row_at word f =
    if f.opcode == 0x37 then Some (instr.Lui f.rd (u_imm f))
    else if f.opcode == 0x17 then Some (instr.Auipc f.rd (u_imm f))
    else if f.opcode == 0x6f then Some (instr.Jal f.rd (j_offset f))
    else if f.opcode == 0x67 then jalr_at f
    else if f.opcode == 0x63 then branch_at f
    else if f.opcode == 0x03 then load_at f
    else if f.opcode == 0x23 then store_at f
    else if f.opcode == 0x13 then op_imm_at f
    else if f.opcode == 0x1b then op_imm_32_at f
    else if f.opcode == 0x33 then op_at f
    else if f.opcode == 0x3b then op_32_at f
    else if f.opcode == 0x0f then misc_mem_at word f
    else if f.opcode == 0x2f then amo_at f
    else if f.opcode == 0x73 then system_at word f
    else None

-- the instruction of a word, or none
unfoldable pub reading : ℕ → Option Instr
reading word = row_at word (split word)
