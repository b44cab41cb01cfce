use Rattle.std.proofs.Common.{◌+◌, rules}
use Rattle.tv_ctl_wire.proofs.Replies.{front_parts}
use Rattle.tv_ctl_wire.proofs.reader.cut_reply.Goals as goal

pub reply_of-requires-clause-long : goal.reply_of-requires-clause-long
reply_of-requires-clause-long c =
    (front_parts c.args.bytes.now (c.from-end.result + 4) (search rules) (search rules) (search rules) (search rules)).long

pub reply_of-requires-clause-status : goal.reply_of-requires-clause-status
reply_of-requires-clause-status c =
    (front_parts c.args.bytes.now (c.from-end.result + 4) (search rules) (search rules) (search rules) (search rules)).takes

pub reply_of-requires-clause-count : goal.reply_of-requires-clause-count
reply_of-requires-clause-count c =
    (front_parts c.args.bytes.now (c.from-end.result + 4) (search rules) (search rules) (search rules) (search rules)).counts
