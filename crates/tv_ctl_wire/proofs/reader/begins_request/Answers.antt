use Rattle.std.proofs.Common.{sym}
use Rattle.tv_ctl_wire.proofs.Requests.{short_begins}
use Rattle.tv_ctl_wire.proofs.reader.begins_request.Goals as goal

pub returns-then-bytes-lt2 : goal.returns-then-bytes-lt2
returns-then-bytes-lt2 c = sym (short_begins c.args.bytes.now c.if-bytes-lt2.true)
