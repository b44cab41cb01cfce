use Rattle.std.proofs.Common.{◌<◌, ◌+◌, ◌∙◌, ℕ, List, rules, ap}
use Rattle.std.proofs.lemmas.List.{take_rest}
use Rattle.byteorder.specs.Endian.{little_number}
use Rattle.tv_wire.proofs.Pairs.{next_read}
use Rattle.tv_wire.proofs.reader.read_pairs.Goals as goal

pub loop-preserved : goal.loop-preserved
loop-preserved c =
    let more : c.loop.counter < c.args.count = search rules in
    next_read c.args.body.now c.loop.stats c.push-added.new.self c.args.count c.loop.counter c.loop.at c.read_u16-tag.result c.read_u64-value.result c.push-added.result
    c.requires.few more c.loop.invariant
    (c.read_u16-tag.ensures ∙ ap (λ (bs : List ℕ). little_number 2 bs) (take_rest c.args.body.now c.loop.at))
    (c.read_u64-value.ensures ∙ ap (λ (bs : List ℕ). little_number 8 bs) (take_rest c.args.body.now (c.loop.at + 2)))
    c.push-added.ensures
