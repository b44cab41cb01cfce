-- The values of the base instructions' operations, after the chapters "RV32I" and "RV64I" of the RISC-V Unprivileged
-- ISA, "Integer Computational Instructions" and "Conditional Branches". Registers are numbers below 2 ^ 64.
use Rattle.std.specs.Prelude.{ℕ, Bool, ◌+◌, ◌-◌, ◌*◌, ◌/◌, ◌%◌, ◌^◌, ◌==◌, if◌then◌else◌, nat_lt, not, int_lt}
use Rattle.std.specs.Int.RustNames.{bit_and, bit_or, bit_xor}
use Rattle.std.specs.Int.{w32, w64, cast_signed, cast_unsigned, int_shr}
use Rattle.tv_isa.specs.declared.Alu.{Alu}
use Rattle.tv_isa.specs.declared.Alu.TheVariants as alu
use Rattle.tv_isa.specs.declared.Branch.{Branch}
use Rattle.tv_isa.specs.declared.Branch.TheVariants as branch

-- a number below 2 * half, read as signed with a sign bit worth half, in two's complement of 64 bits
abbrev pub sign_extended_from : ℕ → ℕ → ℕ
sign_extended_from half n = if nat_lt n half then n else n + (2 ^ 64 - 2 * half)

-- a is below b as signed numbers of 64 bits
abbrev pub signed_lt : ℕ → ℕ → Bool
signed_lt a b = int_lt (cast_signed w64 a) (cast_signed w64 b)

-- a is below b as signed numbers of 32 bits
abbrev pub word_lt : ℕ → ℕ → Bool
word_lt a b = int_lt (cast_signed w32 a) (cast_signed w32 b)

-- 1 where the test holds, else 0
abbrev pub flag : Bool → ℕ
flag b = if b then 1 else 0

-- ADD to AND on registers of 64 bits
abbrev pub alu_of : Alu → ℕ → ℕ → ℕ
alu_of alu.Add a b = (a + b) % 2 ^ 64
alu_of alu.Sub a b = (a + (2 ^ 64 - b)) % 2 ^ 64
alu_of alu.Sll a b = a * 2 ^ (b % 64) % 2 ^ 64
alu_of alu.Slt a b = flag (signed_lt a b)
alu_of alu.Sltu a b = flag (nat_lt a b)
alu_of alu.Xor a b = bit_xor a b
alu_of alu.Srl a b = a / 2 ^ (b % 64)
alu_of alu.Sra a b = cast_unsigned w64 (int_shr (cast_signed w64 a) (b % 64))
alu_of alu.Or a b = bit_or a b
alu_of alu.And a b = bit_and a b

-- the operations that have a W form
abbrev pub HasWordForm : Alu → Type 0
HasWordForm alu.Add = Unit {0}
HasWordForm alu.Sub = Unit {0}
HasWordForm alu.Sll = Unit {0}
HasWordForm alu.Srl = Unit {0}
HasWordForm alu.Sra = Unit {0}
HasWordForm _ = ⊥

-- the same on words of 32 bits; where there is no W form, 0 stands and no contract reads it
abbrev pub word_of_alu : Alu → ℕ → ℕ → ℕ
word_of_alu alu.Add x y = (x + y) % 2 ^ 32
word_of_alu alu.Sub x y = (x + (2 ^ 32 - y)) % 2 ^ 32
word_of_alu alu.Sll x y = x * 2 ^ (y % 32) % 2 ^ 32
word_of_alu alu.Srl x y = x / 2 ^ (y % 32)
word_of_alu alu.Sra x y = cast_unsigned w32 (int_shr (cast_signed w32 x) (y % 32))
word_of_alu _ x y = 0

-- ADDW to SRAW: the low words of the operands, and the word of the result sign-extended
abbrev pub alu_w_of : Alu → ℕ → ℕ → ℕ
alu_w_of op a b = sign_extended_from (2 ^ 31) (word_of_alu op (a % 2 ^ 32) (b % 2 ^ 32))

-- BEQ to BGEU: whether the branch is taken
abbrev pub branch_of : Branch → ℕ → ℕ → Bool
branch_of branch.Eq a b = a == b
branch_of branch.Ne a b = not (a == b)
branch_of branch.Lt a b = signed_lt a b
branch_of branch.Ge a b = not (signed_lt a b)
branch_of branch.Ltu a b = nat_lt a b
branch_of branch.Geu a b = not (nat_lt a b)
