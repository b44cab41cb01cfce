use Rattle.std.proofs.Common.{◌∙◌, rules, sym}
use Rattle.tv_ctl_wire.proofs.Replies.{none_begins, one_begins}
use Rattle.tv_ctl_wire.proofs.reader.begins_reply.Goals as goal

pub returns-then-is_empty : goal.returns-then-is_empty
returns-then-is_empty c = sym (none_begins c.args.bytes.now (search rules) ∙ search rules)

pub returns-else-is_empty : goal.returns-else-is_empty
returns-else-is_empty c = c.is_first_of_reply.ensures ∙ sym (one_begins c.args.bytes.now (search rules) c.if-bytes-lt2.true)
