use Rattle.std.proofs.Common.{◌∙◌, sym}
use Rattle.tv_ctl_wire.proofs.laws.one_spelling_of_a_reply.Goals as goal

pub returns : goal.returns
returns c first second r one other = one.spelt ∙ sym other.spelt
