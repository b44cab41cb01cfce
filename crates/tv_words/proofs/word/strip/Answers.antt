use Rattle.tv_words.proofs.Words.{strip_gives}
use Rattle.tv_words.proofs.word.strip.Goals as goal

pub returns : goal.returns
returns c = strip_gives c.args.prefix.now c.args.word.now c.strip_prefix.result c.strip_prefix.ensures.cases
