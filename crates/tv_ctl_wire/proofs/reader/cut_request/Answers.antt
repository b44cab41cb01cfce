use Rattle.std.proofs.Common.{◌+◌, rules}
use Rattle.tv_ctl_wire.proofs.Requests.{front_parts}
use Rattle.tv_ctl_wire.proofs.reader.cut_request.Goals as goal

pub request_of-requires-clause-long : goal.request_of-requires-clause-long
request_of-requires-clause-long c =
    (front_parts c.args.bytes.now (c.from-end.result + 4) (search rules) (search rules) (search rules) (search rules)).long

pub request_of-requires-clause-body : goal.request_of-requires-clause-body
request_of-requires-clause-body c =
    (front_parts c.args.bytes.now (c.from-end.result + 4) (search rules) (search rules) (search rules) (search rules)).takes
