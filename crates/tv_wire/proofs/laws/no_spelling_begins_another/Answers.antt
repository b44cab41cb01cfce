use Rattle.tv_wire.proofs.Found.{nothing_behind}
use Rattle.tv_wire.proofs.laws.no_spelling_begins_another.Goals as goal

pub returns : goal.returns
returns c first second rest m n one other behind = nothing_behind first second rest m n one other behind
