-- Random bytes under way.
use Rattle.std.specs.Prelude.{◌≡◌, ℕ, length}
use Rattle.tv_vring.specs.Rings.{Ring, with_answered}

pub record Filling (reached : Type 0) (first now : Ring) (count : ℕ) : Type 0 where
  pub here : reached
  pub ring : now ≡ with_answered first now.answered
  pub len : length now.answered ≡ count

-- only the answered bytes changed
pub record FilledSo (old new : Ring) : Type 0 where
  pub last : new.last ≡ old.last
  pub used : new.used ≡ old.used
  pub chain : new.chain ≡ old.chain
