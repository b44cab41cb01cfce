-- What holds of a run so far: its entries are legal and lead to its state, and its bytes and the cause of its end are
-- theirs.
use Rattle.std.specs.Prelude.{◌≡◌, map}
use Rattle.tv_spec.specs.Legal.{after, IsLegal}
use Rattle.tv_spec.specs.Setup.{Setup}
use Rattle.tv_spec.specs.Shows.{debug_bytes, cause_of_end, cause_in}
use Rattle.tv_spec.specs.Solo.{Solo}
use Rattle.tv_spec.specs.State.{State}
use Rattle.tv_spec.specs.Step.{made}

pub record IsSoFar (setup : Setup) (first : State) (solo : Solo) : Type 0 where
  pub legal : IsLegal setup first (map made solo.entries)
  pub state_is : solo.state ≡ after setup first (map made solo.entries)
  pub bytes_are : solo.bytes ≡ debug_bytes setup first (map made solo.entries)
  pub cause_is : cause_in solo.state.mode ≡ cause_of_end setup first (map made solo.entries)
