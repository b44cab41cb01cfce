use Rattle.tv_ctl_wire.specs.Frames.{SpellsRequest}
use Rattle.tv_ctl_wire.specs.Reading.{requests}
use Rattle.tv_ctl_wire.proofs.Cutting.{front_goes_on}
use Rattle.tv_ctl_wire.proofs.Requests.{laws}
use Rattle.tv_ctl_wire.proofs.laws.fronts_of_a_request_go_on.Goals as goal
use Rattle.tv_request.specs.declared.Request.{Request}

pub returns : goal.returns
returns c frame front rest r spelt is some = front_goes_on Request requests SpellsRequest laws front frame rest r spelt is some
