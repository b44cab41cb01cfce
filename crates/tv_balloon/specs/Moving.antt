-- Pages that move.
use Rattle.std.specs.Prelude.{ℕ}
use Rattle.tv_items.specs.declared.action.Action.{Action}
use Rattle.tv_plan.specs.Balloon.{inflate, deflate}
use Rattle.tv_balloon.specs.declared.moves.Move.{Move}
use Rattle.tv_balloon.specs.declared.moves.Move.TheVariants as to

-- what is asked for so that a page moves
abbrev pub moving : Move → ℕ → Action
moving (to.Release hold) = inflate hold
moving to.Regain = deflate
