use Rattle.tv_journal.proofs.Spellings.{one-reading}
use Rattle.tv_journal.proofs.one_reading.Goals as goal

pub returns : goal.returns
returns c = one-reading
