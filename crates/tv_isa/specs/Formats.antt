-- The formats R, I, S, B, U and J, from the manual's chapter "RV32I Base Integer Instruction Set",
-- "Base Instruction Formats" and "Immediate Encoding Variants". A form puts the parts of an
-- instruction into the fields of its word. The number of an immediate is read back from the fields
-- by the function of its format. Immediates are raw: two's complement, not sign-extended.
use Rattle.std.specs.Prelude.{ℕ, ◌+◌, ◌*◌, ◌/◌, ◌%◌, ◌^◌}
use Rattle.tv_isa.specs.declared.fields.Fields.{Fields}

-- R: two registers in, one out
abbrev pub r_form : ℕ → ℕ → ℕ → ℕ → ℕ → ℕ → Fields
r_form opcode funct3 funct7 rd rs1 rs2 =
    record { opcode = opcode; rd = rd; funct3 = funct3; rs1 = rs1; rs2 = rs2; funct7 = funct7 }

-- R with funct5 in bits 31:27, and aq and rl in bits 26 and 25
abbrev pub amo_form : ℕ → ℕ → ℕ → ℕ → ℕ → ℕ → ℕ → Fields
amo_form opcode funct3 funct5 rd rs1 rs2 ordering =
    record { opcode = opcode; rd = rd; funct3 = funct3; rs1 = rs1; rs2 = rs2; funct7 = funct5 * 2 ^ 2 + ordering }

-- I: imm[11:0] in bits 31:20
abbrev pub i_form : ℕ → ℕ → ℕ → ℕ → ℕ → Fields
i_form opcode funct3 rd rs1 imm =
    record { opcode = opcode; rd = rd; funct3 = funct3; rs1 = rs1; rs2 = imm % 2 ^ 5; funct7 = imm / 2 ^ 5 }

-- I with a shift amount of 6 bits in bits 25:20, and funct6 in bits 31:26
abbrev pub shift_form : ℕ → ℕ → ℕ → ℕ → ℕ → ℕ → Fields
shift_form opcode funct3 funct6 rd rs1 shamt = record {
  opcode = opcode;
  rd = rd;
  funct3 = funct3;
  rs1 = rs1;
  rs2 = shamt % 2 ^ 5;
  funct7 = funct6 * 2 + shamt / 2 ^ 5;
}

-- I with a shift amount of 5 bits in bits 24:20, and funct7 in bits 31:25
abbrev pub shift_w_form : ℕ → ℕ → ℕ → ℕ → ℕ → ℕ → Fields
shift_w_form opcode funct3 funct7 rd rs1 shamt =
    record { opcode = opcode; rd = rd; funct3 = funct3; rs1 = rs1; rs2 = shamt; funct7 = funct7 }

-- S: imm[11:5] in bits 31:25, imm[4:0] in bits 11:7
abbrev pub s_form : ℕ → ℕ → ℕ → ℕ → ℕ → Fields
s_form opcode funct3 rs1 rs2 imm =
    record { opcode = opcode; rd = imm % 2 ^ 5; funct3 = funct3; rs1 = rs1; rs2 = rs2; funct7 = imm / 2 ^ 5 }

-- B: imm[12|10:5] in bits 31:25, imm[4:1|11] in bits 11:7
abbrev pub b_form : ℕ → ℕ → ℕ → ℕ → ℕ → Fields
b_form opcode funct3 rs1 rs2 offset = record {
  opcode = opcode;
  rd = offset / 2 % 2 ^ 4 * 2 + offset / 2 ^ 11 % 2;
  funct3 = funct3;
  rs1 = rs1;
  rs2 = rs2;
  funct7 = offset / 2 ^ 12 * 2 ^ 6 + offset / 2 ^ 5 % 2 ^ 6;
}

-- U: the 20 bits of the immediate in bits 31:12
abbrev pub u_form : ℕ → ℕ → ℕ → Fields
u_form opcode rd imm = record {
  opcode = opcode;
  rd = rd;
  funct3 = imm % 2 ^ 3;
  rs1 = imm / 2 ^ 3 % 2 ^ 5;
  rs2 = imm / 2 ^ 8 % 2 ^ 5;
  funct7 = imm / 2 ^ 13;
}

-- J: imm[20|10:1|11|19:12] in bits 31:12
abbrev pub j_form : ℕ → ℕ → ℕ → Fields
j_form opcode rd offset = record {
  opcode = opcode;
  rd = rd;
  funct3 = offset / 2 ^ 12 % 2 ^ 3;
  rs1 = offset / 2 ^ 15 % 2 ^ 5;
  rs2 = offset / 2 % 2 ^ 4 * 2 + offset / 2 ^ 11 % 2;
  funct7 = offset / 2 ^ 20 * 2 ^ 6 + offset / 2 ^ 5 % 2 ^ 6;
}

-- funct5, and the two bits aq and rl
abbrev pub funct5 : Fields → ℕ
funct5 f = f.funct7 / 2 ^ 2

abbrev pub ordering : Fields → ℕ
ordering f = f.funct7 % 2 ^ 2

-- the 12 bits of an I immediate
abbrev pub i_imm : Fields → ℕ
i_imm f = f.funct7 * 2 ^ 5 + f.rs2

-- the shift amount of 6 bits
abbrev pub shift_amount : Fields → ℕ
shift_amount f = f.funct7 % 2 * 2 ^ 5 + f.rs2

-- the 12 bits of an S immediate
abbrev pub s_imm : Fields → ℕ
s_imm f = f.funct7 * 2 ^ 5 + f.rd

-- the 13 bits of a B offset
abbrev pub b_offset : Fields → ℕ
b_offset f = f.funct7 / 2 ^ 6 * 2 ^ 12 + f.rd % 2 * 2 ^ 11 + f.funct7 % 2 ^ 6 * 2 ^ 5 + f.rd / 2 * 2

-- the 20 bits of a U immediate
abbrev pub u_imm : Fields → ℕ
u_imm f = f.funct7 * 2 ^ 13 + f.rs2 * 2 ^ 8 + f.rs1 * 2 ^ 3 + f.funct3

-- the 21 bits of a J offset
abbrev pub j_offset : Fields → ℕ
j_offset f =
    f.funct7 / 2 ^ 6 * 2 ^ 20
    + f.rs1 * 2 ^ 15
    + f.funct3 * 2 ^ 12
    + f.rs2 % 2 * 2 ^ 11
    + f.funct7 % 2 ^ 6 * 2 ^ 5
    + f.rs2 / 2 * 2
