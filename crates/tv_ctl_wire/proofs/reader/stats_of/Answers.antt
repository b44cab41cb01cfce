use Rattle.std.proofs.Common.{◌∙◌, length, rules, ap}
use Rattle.std.proofs.lemmas.List.{take_rest}
use Rattle.tv_ctl_wire.proofs.Replies.{pairs_told}
use Rattle.tv_ctl_wire.proofs.reader.stats_of.Goals as goal

pub read_pairs-requires-clause-few : goal.read_pairs-requires-clause-few
read_pairs-requires-clause-few c =
    (pairs_told c.args.frame.now c.requires.status c.requires.count c.requires.size c.requires.other (search rules)).0

pub read_pairs-requires-clause-all : goal.read_pairs-requires-clause-all
read_pairs-requires-clause-all c =
    ap length (take_rest c.args.frame.now 15)
    ∙ (pairs_told c.args.frame.now c.requires.status c.requires.count c.requires.size c.requires.other (search rules)).1
