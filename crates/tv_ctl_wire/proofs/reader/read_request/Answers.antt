use Rattle.tv_ctl_wire.proofs.Requests.{front_is}
use Rattle.tv_ctl_wire.proofs.reader.read_request.Goals as goal

pub returns-clause-front : goal.returns-clause-front
returns-clause-front c frame rest request spelt is = front_is c.args.bytes.now c.cut_request.result c.cut_request.ensures frame rest request spelt is
