use Rattle.std.proofs.Common.{ap, arith, length}
use Rattle.tv_guest.proofs.First.{first_guest}
use Rattle.tv_guest.proofs.guest.Guest.new.Goals as goal

pub returns : goal.returns
returns c =
    first_guest c.args.machine.now c.args.image.now c.in-Ok.ram c.write-loaded.new.self c.in_ok-harts.harts.items c.in_ok-local.local.local _ c.write-loaded.result c.in_ok-harts.ensures
    c.in-Ok.ensures.zeros c.write-loaded.ensures.inside c.write-loaded.ensures.written c.requires.fits (let same = ap length c.as_slice.ensures in omega (arith, same, c.requires.valid.slots)) c.in_ok-local.ensures.local
