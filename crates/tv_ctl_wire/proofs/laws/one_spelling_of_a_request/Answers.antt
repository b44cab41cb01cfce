use Rattle.tv_ctl_wire.proofs.Requests.{one_spelling}
use Rattle.tv_ctl_wire.proofs.laws.one_spelling_of_a_request.Goals as goal

pub returns : goal.returns
returns c first second r known one other = one_spelling first second r known one other
