-- Moves of the monitor.
use Rattle.std.specs.Prelude.{◌≡◌, List}
use Rattle.tv_spec.specs.Legal.{IsLegal, after}
use Rattle.tv_spec.specs.Step.{Move, Can, done}
use Rattle.tv_model.specs.MonitorState.{MonitorState, setup_in, state_in}

-- a move was made
pub record IsMade (old new : MonitorState) (move : Move) : Type 0 where
  pub can : Can (setup_in old) (state_in old) move
  pub setup : setup_in new ≡ setup_in old
  pub state : state_in new ≡ done (setup_in old) (state_in old) move

-- moves were made one after the other
pub record AreMade (old new : MonitorState) (moves : List Move) : Type 0 where
  pub legal : IsLegal (setup_in old) (state_in old) moves
  pub setup : setup_in new ≡ setup_in old
  pub state : state_in new ≡ after (setup_in old) (state_in old) moves

-- nothing was changed that a contract speaks of; memory may have been taken
pub record IsSame (old new : MonitorState) : Type 0 where
  pub setup : setup_in new ≡ setup_in old
  pub state : state_in new ≡ state_in old
  pub console : new.console ≡ old.console
