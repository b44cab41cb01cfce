use Rattle.tv_words.specs.Reading.{given_seen}
use Rattle.tv_words.proofs.Walk.{IsRead}
use Rattle.tv_words.proofs.arguments.read_arguments.Given as goal

abbrev pub invariant-loop-word : goal.invariant-loop-word
invariant-loop-word l = IsRead l.fn.words l.word-index l.next (given_seen l.arguments)
