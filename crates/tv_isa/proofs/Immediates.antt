-- The immediates of the formats, put into fields and read back.
use Rattle.std.proofs.Common.{◌≡◌, ℕ, ◌+◌, ◌*◌, ◌/◌, ◌%◌, ◌^◌, ◌<◌, arith}
use Rattle.tv_isa.specs.Fields.{Fits}
use Rattle.tv_isa.specs.Formats.{r_form, amo_form, i_form, shift_form, shift_w_form, s_form, b_form, u_form, j_form}
use Rattle.tv_isa.specs.Formats.{b_offset, u_imm, j_offset}
use Rattle.tv_isa.specs.Table.{FitsR, FitsAmo, FitsI, FitsShift, FitsShiftW, FitsS, FitsB, FitsU, FitsJ}

-- the fields of each format fit, where its parts do
pub fits_r : (opcode funct3 funct7 rd rs1 rs2 : ℕ) → opcode < 2 ^ 7 → funct3 < 2 ^ 3 → funct7 < 2 ^ 7 → FitsR rd rs1 rs2 → Fits (r_form opcode funct3 funct7 rd rs1 rs2)
fits_r opcode funct3 funct7 rd rs1 rs2 h0 h1 h2 fits =
    (omega arith, omega arith, omega arith, omega arith, omega arith, omega arith)

pub fits_amo : (funct3 funct5 rd rs1 rs2 ordering : ℕ) → funct3 < 2 ^ 3 → funct5 < 2 ^ 5 → FitsAmo rd rs1 rs2 ordering → Fits (amo_form 0x2f funct3 funct5 rd rs1 rs2 ordering)
fits_amo funct3 funct5 rd rs1 rs2 ordering h0 h1 fits =
    (omega arith, omega arith, omega arith, omega arith, omega arith, omega arith)

pub fits_i : (opcode funct3 rd rs1 imm : ℕ) → opcode < 2 ^ 7 → funct3 < 2 ^ 3 → FitsI rd rs1 imm → Fits (i_form opcode funct3 rd rs1 imm)
fits_i opcode funct3 rd rs1 imm h0 h1 fits =
    (omega arith, omega arith, omega arith, omega arith, omega arith, omega arith)

pub fits_shift : (opcode funct3 funct6 rd rs1 shamt : ℕ) → opcode < 2 ^ 7 → funct3 < 2 ^ 3 → funct6 < 2 ^ 6 → FitsShift rd rs1 shamt → Fits (shift_form opcode funct3 funct6 rd rs1 shamt)
fits_shift opcode funct3 funct6 rd rs1 shamt h0 h1 h2 fits =
    (omega arith, omega arith, omega arith, omega arith, omega arith, omega arith)

pub fits_shift_w : (opcode funct3 funct7 rd rs1 shamt : ℕ) → opcode < 2 ^ 7 → funct3 < 2 ^ 3 → funct7 < 2 ^ 7 → FitsShiftW rd rs1 shamt → Fits (shift_w_form opcode funct3 funct7 rd rs1 shamt)
fits_shift_w opcode funct3 funct7 rd rs1 shamt h0 h1 h2 fits =
    (omega arith, omega arith, omega arith, omega arith, omega arith, omega arith)

pub fits_s : (opcode funct3 rs1 rs2 imm : ℕ) → opcode < 2 ^ 7 → funct3 < 2 ^ 3 → FitsS rs1 rs2 imm → Fits (s_form opcode funct3 rs1 rs2 imm)
fits_s opcode funct3 rs1 rs2 imm h0 h1 fits =
    (omega arith, omega arith, omega arith, omega arith, omega arith, omega arith)

pub fits_b : (opcode funct3 rs1 rs2 offset : ℕ) → opcode < 2 ^ 7 → funct3 < 2 ^ 3 → FitsB rs1 rs2 offset → Fits (b_form opcode funct3 rs1 rs2 offset)
fits_b opcode funct3 rs1 rs2 offset h0 h1 fits =
    (omega arith, omega arith, omega arith, omega arith, omega arith, omega arith)

pub fits_u : (opcode rd imm : ℕ) → opcode < 2 ^ 7 → FitsU rd imm → Fits (u_form opcode rd imm)
fits_u opcode rd imm h0 fits =
    (omega arith, omega arith, omega arith, omega arith, omega arith, omega arith)

pub fits_j : (opcode rd offset : ℕ) → opcode < 2 ^ 7 → FitsJ rd offset → Fits (j_form opcode rd offset)
fits_j opcode rd offset h0 fits =
    (omega arith, omega arith, omega arith, omega arith, omega arith, omega arith)

-- aq and rl share funct7 with funct5
pub funct5_again : (funct5 ordering : ℕ) → ordering < 2 ^ 2 → (funct5 * 2 ^ 2 + ordering) / 2 ^ 2 ≡ funct5
funct5_again funct5 ordering h = omega arith

pub ordering_again : (funct5 ordering : ℕ) → ordering < 2 ^ 2 → (funct5 * 2 ^ 2 + ordering) % 2 ^ 2 ≡ ordering
ordering_again funct5 ordering h = omega arith

-- the 12 bits of an I immediate
pub i_imm_again : (imm : ℕ) → imm / 2 ^ 5 * 2 ^ 5 + imm % 2 ^ 5 ≡ imm
i_imm_again imm = omega arith

-- the 12 bits of an S immediate
pub s_imm_again : (imm : ℕ) → imm / 2 ^ 5 * 2 ^ 5 + imm % 2 ^ 5 ≡ imm
s_imm_again imm = omega arith

-- a shift amount of 6 bits shares funct7 with funct6
pub funct6_again : (funct6 shamt : ℕ) → shamt < 2 ^ 6 → (funct6 * 2 + shamt / 2 ^ 5) / 2 ≡ funct6
funct6_again funct6 shamt h = omega arith

pub shift_again : (funct6 shamt : ℕ) → shamt < 2 ^ 6 → (funct6 * 2 + shamt / 2 ^ 5) % 2 * 2 ^ 5 + shamt % 2 ^ 5 ≡ shamt
shift_again funct6 shamt h = omega arith

-- the 13 bits of a B offset
pub b_offset_again : (offset : ℕ) → offset < 2 ^ 13 → offset % 2 ≡ 0
    → b_offset (b_form 0 0 0 0 offset) ≡ offset
b_offset_again offset h even = omega arith

-- the 20 bits of a U immediate
pub u_imm_again : (imm : ℕ) → u_imm (u_form 0 0 imm) ≡ imm
u_imm_again imm = omega arith

-- the 21 bits of a J offset
pub j_offset_again : (offset : ℕ) → offset < 2 ^ 21 → offset % 2 ≡ 0 → j_offset (j_form 0 0 offset) ≡ offset
j_offset_again offset h even = omega arith
