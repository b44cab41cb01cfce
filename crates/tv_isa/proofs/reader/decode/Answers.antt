use Rattle.std.proofs.Common.{◌≡◌, ℕ, IfSome, subst}
use Rattle.tv_isa.specs.Table.{word_of, InRange}
use Rattle.tv_isa.proofs.Words.{join_split}
use Rattle.tv_isa.proofs.reader.decode.Goals as goal

pub returns-clause-found : goal.returns-clause-found
returns-clause-found c =
    subst (λ (w : ℕ). IfSome c.row_of.result (λ i. InRange i × (word_of i ≡ w)))
    (join_split c.args.word)
    c.row_of.ensures.found
