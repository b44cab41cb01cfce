use Rattle.std.proofs.Common.{refl}
use Rattle.tv_words.proofs.Lines.{first_word, no_arguments, finds, finds_none, found_bounded}
use Rattle.tv_words.proofs.command.command_of.Goals as goal

pub returns-in_err-arguments-clause-none : goal.returns-in_err-arguments-clause-none
returns-in_err-arguments-clause-none c =
    rw c.from_residual.ensures
    (no_arguments _ _ _ (first_word c.args.words.now c.name-item.result _ c.in-len1-up.len_at_least c.name-item.is refl) c.in_err-arguments.ensures)

pub returns-clause-found : goal.returns-clause-found
returns-clause-found c =
    finds _ _ _ _ c.command_with.result
    (first_word c.args.words.now c.name-item.result c.as_str.result.now c.in-len1-up.len_at_least c.name-item.is c.as_str.ensures.value)
    c.in_ok-arguments.ensures c.command_with.ensures.found

pub returns-clause-none : goal.returns-clause-none
returns-clause-none c =
    finds_none _ _ _ _ c.command_with.result
    (first_word c.args.words.now c.name-item.result c.as_str.result.now c.in-len1-up.len_at_least c.name-item.is c.as_str.ensures.value)
    c.in_ok-arguments.ensures c.command_with.ensures.none

pub returns-clause-steps : goal.returns-clause-steps
returns-clause-steps c = found_bounded _ _ c.command_with.result c.command_with.ensures.found
