use Rattle.tv_journal.proofs.Spellings.{one-spelling}
use Rattle.tv_journal.proofs.one_spelling.Goals as goal

pub returns : goal.returns
returns c = one-spelling
