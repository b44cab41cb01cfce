-- A guest as contracts see it.
use Rattle.std.specs.Prelude.{ℕ, List}
use Rattle.tv_hart.specs.HartState.{HartState}
use Rattle.tv_spec.specs.declared.Mode.{Mode}
use Rattle.tv_spec.specs.LocalState.{LocalState}

-- how many events its harts may make; the harts in the order of their numbers; what they reach and share; whether the run goes
-- on; and the events so far. Whether the last entry was a tick is known by the history, and what devices do is not the guest's
pub record GuestState : Type 0 where
  pub steps : ℕ
  pub harts : List HartState
  pub local : LocalState
  pub mode : Mode
  pub events : ℕ
