use Rattle.tv_words.proofs.Lines.{one_asked}
use Rattle.tv_words.proofs.command.words_ask_for_one_command.Goals as goal

pub returns : goal.returns
returns c = one_asked
