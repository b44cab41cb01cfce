-- What a hart reaches, as functions of the place.
use Rattle.std.specs.Prelude.{ℕ, Bool, Option}
use Rattle.tv_isa.specs.declared.AmoOp.{AmoOp}
use Rattle.tv_base.specs.declared.Width.{Width}
use Rattle.tv_hart.specs.declared.place.Loaded.{Loaded}
use Rattle.tv_hart.specs.declared.place.Loaded.TheVariants as loaded
use Rattle.tv_hart.specs.declared.place.Stored.{Stored}
use Rattle.tv_hart.specs.declared.place.Stored.TheVariants as stored

-- each access of a hart by its number, a width and an address; but for a fetch it gives the place after it too
pub record Meaning (P : Type 0) : Type 0 where
  -- the word at an address of memory
  pub fetch : P → ℕ → Option ℕ
  -- what a load finds
  pub load : P → ℕ → Width → ℕ → Loaded × P
  -- what a store of a value did
  pub store : P → ℕ → Width → ℕ → ℕ → Stored × P
  -- the number in memory, where the value of the operation with an operand is put; none outside memory
  pub amo : P → ℕ → Width → ℕ → AmoOp → ℕ → Option ℕ × P
  -- the number in memory, whose place is reserved; none outside memory
  pub reserve : P → ℕ → Width → ℕ → Option ℕ × P
  -- whether a value was stored, as the place was reserved; none outside memory
  pub conditional : P → ℕ → Width → ℕ → ℕ → Option Bool × P

-- a fact where a load was not made
abbrev pub OnNoLoad : Loaded → Type 0 → Type 0
OnNoLoad (loaded.Value value) fact = Unit {0}
OnNoLoad loaded.Held fact = Unit {0}
OnNoLoad loaded.Full fact = fact
OnNoLoad loaded.Nothing fact = fact

-- a fact where a store was not made
abbrev pub OnNoStore : Stored → Type 0 → Type 0
OnNoStore stored.Done fact = Unit {0}
OnNoStore stored.Full fact = fact
OnNoStore stored.Nothing fact = fact
