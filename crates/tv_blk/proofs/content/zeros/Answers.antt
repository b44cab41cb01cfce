use Rattle.std.proofs.Common.{◌∙◌, ◌+◌, ◌*◌, ◌%◌, ◌++◌, ℕ, List, ap, arith}
use Rattle.std.proofs.lemmas.List.{take-replicate}
use Rattle.tv_blk.proofs.Contents.{zeros_next}
use Rattle.tv_blk.proofs.content.zeros.Goals as goal
use Rattle.tv_vring.specs.Rings.{with_answered}

pub loop-preserved : goal.loop-preserved
loop-preserved c = c.answer.ensures ∙ zeros_next c.args.ring.now c.loop.ring (c.loop.counter * 512) 512 ((c.loop.counter + 1) * 512) c.loop.invariant (omega arith)

pub returns : goal.returns
returns c =
    c.answer-2.ensures
    ∙ ap (λ (bytes : List ℕ). with_answered c.loop.ring (c.loop.ring.answered ++ bytes)) (take-replicate (c.args.count % 512) 512 0 (omega arith))
    ∙ zeros_next c.args.ring.now c.loop.ring (c.loop.counter * 512) (c.args.count % 512) c.args.count c.loop.invariant (omega arith)
