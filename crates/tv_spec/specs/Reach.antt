-- The place of a hart's event, as contracts see it.
use Rattle.std.specs.Prelude.{ℕ, List, [], Bool, false, slice_index_or}
use Rattle.tv_spec.specs.declared.Closed.{Closed}
use Rattle.tv_spec.specs.declared.Shown.{Shown}
use Rattle.tv_spec.specs.LocalState.{LocalState}

-- nothing is closed; a slot past the end of a list is open
abbrev pub all_open : Closed
all_open = record { debug = false; loads = []; stores = [] }

abbrev pub is_closed : List Bool → ℕ → Bool
is_closed closed slot = slice_index_or closed slot false

-- what harts reach, what of it takes no access now, and what the event under way showed outside it
pub record Reach : Type 0 where
  pub local : LocalState
  pub closed : Closed
  pub shown : Shown
