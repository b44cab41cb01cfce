use Rattle.std.proofs.Common.{◌∙◌, sym}
use Rattle.tv_wire.proofs.laws.one_spelling.Goals as goal

pub returns : goal.returns
returns c first second m one other = one.spelt ∙ sym other.spelt
