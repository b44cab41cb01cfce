-- The values of the operations of the "M" extension (RISC-V Unprivileged ISA, chapter "M Extension for Integer
-- Multiplication and Division"). Registers are numbers below 2 ^ 64. An operand that is signed is read in two's
-- complement, and a product is that of the integers.
use Rattle.std.specs.Prelude.{ℕ, ℤ, pos, negsuc, ◌*◌, ◌*ℤ◌, ◌/◌, ◌%◌, ◌^◌, ◌==◌, if◌then◌else◌}
use Rattle.std.specs.Int.{Width, w32, w64, w128, cast_signed, cast_unsigned}
use Rattle.std.specs.Int.RustNames.{int_div, int_rem}
use Rattle.tv_isa.specs.declared.MulDiv.{MulDiv}
use Rattle.tv_isa.specs.declared.MulDiv.TheVariants as mul_div
use Rattle.tv_exec.specs.Arithmetic.{sign_extended_from}

-- all bits of a width: -1 as a signed number, and the greatest unsigned one
abbrev pub all_ones : Width → ℕ
all_ones w = cast_unsigned w (negsuc 0)

-- the upper 64 bits of a product of 128 bits
abbrev pub upper_half : ℤ → ℕ
upper_half product = cast_unsigned w128 product / 2 ^ 64

-- the signed quotient, rounded towards zero, at a width; -1 where the divisor is 0. The least number divided by -1 is out
-- of range: the bits of its quotient are those of the dividend again.
abbrev pub signed_quotient : Width → ℕ → ℕ → ℕ
signed_quotient w a b =
    if b == 0 then all_ones w else cast_unsigned w (int_div (cast_signed w a) (cast_signed w b))

-- the signed remainder, with the dividend's sign, at a width; the dividend where the divisor is 0. It is 0 for the least
-- number divided by -1.
abbrev pub signed_remainder : Width → ℕ → ℕ → ℕ
signed_remainder w a b = if b == 0 then a else cast_unsigned w (int_rem (cast_signed w a) (cast_signed w b))

-- the unsigned quotient at a width; all bits are set where the divisor is 0
abbrev pub unsigned_quotient : Width → ℕ → ℕ → ℕ
unsigned_quotient w a b = if b == 0 then all_ones w else a / b

-- the unsigned remainder; the dividend where the divisor is 0
abbrev pub unsigned_remainder : ℕ → ℕ → ℕ
unsigned_remainder a b = if b == 0 then a else a % b

-- MUL to REMU
abbrev pub mul_div_of : MulDiv → ℕ → ℕ → ℕ
mul_div_of mul_div.Mul a b = a * b % 2 ^ 64
mul_div_of mul_div.Mulh a b = upper_half (cast_signed w64 a *ℤ cast_signed w64 b)
mul_div_of mul_div.Mulhsu a b = upper_half (cast_signed w64 a *ℤ pos b)
mul_div_of mul_div.Mulhu a b = a * b / 2 ^ 64
mul_div_of mul_div.Div a b = signed_quotient w64 a b
mul_div_of mul_div.Divu a b = unsigned_quotient w64 a b
mul_div_of mul_div.Rem a b = signed_remainder w64 a b
mul_div_of mul_div.Remu a b = unsigned_remainder a b

-- the operations that have a W form
abbrev pub MulDivHasWordForm : MulDiv → Type 0
MulDivHasWordForm mul_div.Mul = Unit {0}
MulDivHasWordForm mul_div.Div = Unit {0}
MulDivHasWordForm mul_div.Divu = Unit {0}
MulDivHasWordForm mul_div.Rem = Unit {0}
MulDivHasWordForm mul_div.Remu = Unit {0}
MulDivHasWordForm _ = ⊥

-- the same on words of 32 bits; where there is no W form, 0 stands and no contract reads it
abbrev pub word_of_mul_div : MulDiv → ℕ → ℕ → ℕ
word_of_mul_div mul_div.Mul x y = x * y % 2 ^ 32
word_of_mul_div mul_div.Div x y = signed_quotient w32 x y
word_of_mul_div mul_div.Divu x y = unsigned_quotient w32 x y
word_of_mul_div mul_div.Rem x y = signed_remainder w32 x y
word_of_mul_div mul_div.Remu x y = unsigned_remainder x y
word_of_mul_div _ x y = 0

-- MULW, DIVW, DIVUW, REMW and REMUW: the low words of the operands, and the word of the result sign-extended
abbrev pub mul_div_w_of : MulDiv → ℕ → ℕ → ℕ
mul_div_w_of op a b = sign_extended_from (2 ^ 31) (word_of_mul_div op (a % 2 ^ 32) (b % 2 ^ 32))
