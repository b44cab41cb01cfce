use Rattle.std.proofs.Common.{◌≡◌, ◌∙◌, ap, refl, inl, inr}
use Rattle.tv_words.specs.Reading.{given_seen, read, reading, finished, nothing_given}
use Rattle.tv_words.specs.CommandLine.{texts}
use Rattle.tv_words.specs.declared.arguments.Next.TheVariants as next
use Rattle.tv_words.proofs.Walk.{goes_on, stops, ends_so}
use Rattle.tv_words.proofs.arguments.read_arguments.Goals as goal

pub loop-word-init : goal.loop-word-init
loop-word-init c = record { same = refl }

pub loop-word-preserved : goal.loop-word-preserved
loop-word-preserved c =
    goes_on c.args.words.now c.loop-word.word-index c.word-item.result _ _ _ _ c.loop-word.invariant c.loop-word-test.true c.word-item.is
    (c.in-Some.ensures ∙ ap (read c.loop-word.next (given_seen c.loop-word.arguments)) c.as_str.ensures.value)

pub returns-in-None : goal.returns-in-None
returns-in-None c =
    stops c.args.words.now c.loop-word.word-index c.word-item.result _ _ c.loop-word.invariant c.loop-word-test.true c.word-item.is
    (c.in-None.ensures ∙ ap (read c.loop-word.next (given_seen c.loop-word.arguments)) c.as_str.ensures.value)

pub returns-in-Value : goal.returns-in-Value
returns-in-Value c =
    rw c.in-Value.is at (ends_so c.args.words.now c.loop-word.word-index _ _ c.loop-word.invariant c.loop-word-test.false)

pub returns-in-Argument : goal.returns-in-Argument
returns-in-Argument c =
    let ends : finished c.loop-word.next (given_seen c.loop-word.arguments) ≡ reading next.Argument nothing_given (texts c.args.words.now) =
    ends_so c.args.words.now c.loop-word.word-index _ _ c.loop-word.invariant c.loop-word-test.false in
    elim c.in-Argument.is [ inl e ↦ rw e at ends | inr e ↦ rw e at ends ]
