-- A word of 32 bits as six fields. The places are those of the R format, from the manual's chapter
-- "RV32I Base Integer Instruction Set", "Base Instruction Formats". Every other format cuts its
-- immediate along the same lines.
use Rattle.std.specs.Prelude.{ℕ, ◌+◌, ◌*◌, ◌/◌, ◌%◌, ◌^◌, ◌<◌}
use Rattle.tv_isa.specs.declared.fields.Fields.{Fields}

-- the fields of a word
abbrev pub split : ℕ → Fields
split w = record {
  opcode = w % 2 ^ 7;
  rd = w / 2 ^ 7 % 2 ^ 5;
  funct3 = w / 2 ^ 12 % 2 ^ 3;
  rs1 = w / 2 ^ 15 % 2 ^ 5;
  rs2 = w / 2 ^ 20 % 2 ^ 5;
  funct7 = w / 2 ^ 25;
}

-- the word with these fields
unfoldable pub join : Fields → ℕ
join f = f.opcode + f.rd * 2 ^ 7 + f.funct3 * 2 ^ 12 + f.rs1 * 2 ^ 15 + f.rs2 * 2 ^ 20 + f.funct7 * 2 ^ 25

-- each field is within its bits
abbrev pub Fits : Fields → Type 0
Fits f =
    (f.opcode < 2 ^ 7) × (f.rd < 2 ^ 5) × (f.funct3 < 2 ^ 3) × (f.rs1 < 2 ^ 5) × (f.rs2 < 2 ^ 5) × (f.funct7 < 2 ^ 7)
