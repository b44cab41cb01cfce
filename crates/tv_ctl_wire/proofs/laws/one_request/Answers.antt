use Rattle.std.proofs.Common.{◌∙◌, sym}
use Rattle.tv_ctl_wire.proofs.Requests.{laws}
use Rattle.tv_ctl_wire.proofs.laws.one_request.Goals as goal

pub returns : goal.returns
returns c bytes r s one other = sym (laws.again bytes r one) ∙ laws.again bytes s other
