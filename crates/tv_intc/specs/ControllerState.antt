-- The state of the interrupt controller.
use Rattle.std.specs.Prelude.{ℕ, List}
use Rattle.tv_intc.specs.declared.controller.Gate.{Gate}

-- priority and gates go by the number of a source, 1 to 8, and their place 0 is not used; enables and thresholds go by the
-- number of a hart. enables has bit s set where source s is enabled
pub record Controller : Type 0 where
  pub harts : ℕ
  pub priority : List ℕ
  pub gates : List Gate
  pub enables : List ℕ
  pub thresholds : List ℕ
