use Rattle.std.proofs.Common.{refl, rules}
use Rattle.tv_journal.proofs.Room.{new-journal}
use Rattle.tv_journal.proofs.Journal.new.Goals as goal

pub invariant_of-result : goal.invariant_of-result
invariant_of-result c = new-journal _ _ c.args.entries c.args.bytes refl (search rules) (search rules) (search rules) (search rules)
