-- The state of the timer block.
use Rattle.std.specs.Prelude.{ℕ, Bool, List}

-- software has a hart's software interrupt bit, compare its mtimecmp, both by the number of the hart; time is mtime
pub record Clock : Type 0 where
  pub harts : ℕ
  pub software : List Bool
  pub compare : List ℕ
  pub time : ℕ
