use Rattle.std.proofs.Common.{◌∙◌, ◌<◌, ◌++◌, ℕ, List, drop, length, get_or, rules, ap}
use Rattle.std.proofs.lemmas.List.{take_rest}
use Rattle.tv_wire.specs.Spelling.{pair_bytes}
use Rattle.tv_wire.proofs.Written.{next_written}
use Rattle.tv_wire.proofs.writer.write_pairs.Goals as goal

pub loop-pair-preserved : goal.loop-pair-preserved
loop-pair-preserved c =
    let more : c.loop-pair.pair-index < length c.args.pairs.now = search rules in
    let pair : ℕ × ℕ = get_or c.args.pairs.now c.loop-pair.pair-index (0, 0) in
    next_written c.args.out.now c.loop-pair.out c.write_numbers.new.out c.args.pairs.now c.loop-pair.pair-index c.loop-pair.at c.loop-pair.invariant more
    (search rules) (search rules)
    (c.write_numbers.ensures ∙ ap (λ (bs : List ℕ). pair_bytes pair ++ drop 10 bs) (take_rest c.loop-pair.out c.loop-pair.at))
