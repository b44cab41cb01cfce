-- The values that the read-modify-write instructions of the "A" extension put into memory (RISC-V Unprivileged ISA,
-- chapter "A Extension for Atomic Instructions", "Atomic Memory Operations").
use Rattle.std.specs.Prelude.{ℕ, ◌+◌, ◌%◌, ◌^◌, if◌then◌else◌, nat_lt}
use Rattle.std.specs.Int.RustNames.{bit_and, bit_or, bit_xor}
use Rattle.tv_base.specs.declared.Width.{Width}
use Rattle.tv_base.specs.declared.Width.TheVariants.{B4, B8}
use Rattle.tv_isa.specs.declared.AmoOp.{AmoOp}
use Rattle.tv_isa.specs.declared.AmoOp.TheVariants as amo
use Rattle.tv_exec.specs.Arithmetic.{sign_extended_from, signed_lt, word_lt}

-- on 64 bits, the old value in memory with the operand
abbrev pub double_of_amo : AmoOp → ℕ → ℕ → ℕ
double_of_amo amo.Swap old b = b
double_of_amo amo.Add old b = (old + b) % 2 ^ 64
double_of_amo amo.Xor old b = bit_xor old b
double_of_amo amo.And old b = bit_and old b
double_of_amo amo.Or old b = bit_or old b
double_of_amo amo.Min old b = if signed_lt b old then b else old
double_of_amo amo.Max old b = if signed_lt old b then b else old
double_of_amo amo.Minu old b = if nat_lt b old then b else old
double_of_amo amo.Maxu old b = if nat_lt old b then b else old

-- the same on 32 bits
abbrev pub word_of_amo : AmoOp → ℕ → ℕ → ℕ
word_of_amo amo.Swap old b = b
word_of_amo amo.Add old b = (old + b) % 2 ^ 32
word_of_amo amo.Xor old b = bit_xor old b
word_of_amo amo.And old b = bit_and old b
word_of_amo amo.Or old b = bit_or old b
word_of_amo amo.Min old b = if word_lt b old then b else old
word_of_amo amo.Max old b = if word_lt old b then b else old
word_of_amo amo.Minu old b = if nat_lt b old then b else old
word_of_amo amo.Maxu old b = if nat_lt old b then b else old

-- the widths that these instructions have: a word and a double word
abbrev pub IsAmoWidth : Width → Type 0
IsAmoWidth B4 = Unit {0}
IsAmoWidth B8 = Unit {0}
IsAmoWidth _ = ⊥

-- AMOSWAP to AMOMAXU: of a word, the low words of both, and the word of the result sign-extended. Where there is no such
-- width, 0 stands and no contract reads it.
abbrev pub amo_of : AmoOp → Width → ℕ → ℕ → ℕ
amo_of op B4 old b = sign_extended_from (2 ^ 31) (word_of_amo op (old % 2 ^ 32) (b % 2 ^ 32))
amo_of op B8 old b = double_of_amo op old b
amo_of op _ old b = 0
