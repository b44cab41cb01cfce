use Rattle.tv_ctl_wire.proofs.Replies.{front_is}
use Rattle.tv_ctl_wire.proofs.reader.read_reply.Goals as goal

pub returns-clause-front : goal.returns-clause-front
returns-clause-front c frame rest reply spelt is = front_is c.args.bytes.now c.cut_reply.result c.cut_reply.ensures frame rest reply spelt is
