use Rattle.std.proofs.Common.{◌∙◌, ◌*◌, ◌+◌, ap, arith}
use Rattle.byteorder.specs.Endian.{little_number}
use Rattle.tv_balloon.proofs.Pages.{rest_of}
use Rattle.tv_balloon.proofs.Told.{next_stat}
use Rattle.tv_balloon.proofs.statistics.statistics.Goals as goal

pub loop-n-preserved : goal.loop-n-preserved
loop-n-preserved c =
    next_stat c.args.bytes.now c.loop-n.stats c.push-added.new.self c.loop-n.n c.read_u16-tag.result c.read_u64-number.result c.push-added.result (omega arith) c.loop-n.invariant
    (c.read_u16-tag.ensures ∙ ap (little_number 2) (rest_of c.args.bytes.now (10 * c.loop-n.n))) (c.read_u64-number.ensures ∙ ap (little_number 8) (rest_of c.args.bytes.now (10 * c.loop-n.n + 2))) c.push-added.ensures
