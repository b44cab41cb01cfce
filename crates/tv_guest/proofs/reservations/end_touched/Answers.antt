use Rattle.std.proofs.Common.{◌<◌, arith}
use Rattle.tv_guest.proofs.Quiet.{written_more}
use Rattle.tv_guest.proofs.reservations.end_touched.Goals as goal

pub loop-i-preserved : goal.loop-i-preserved
loop-i-preserved c =
    let below : c.loop-i.i < 8 = omega (arith, c.loop-i-test.true) in
    written_more c.args.places.now c.loop-i.places c.args.addr c.args.bytes c.loop-i.i _ c.kept.result below c.loop-i.invariant c.kept.ensures
