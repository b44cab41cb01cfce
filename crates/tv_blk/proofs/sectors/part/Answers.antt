use Rattle.std.proofs.Common.{◌≡◌, ◌+◌, ◌*◌, ◌-◌, refl, arith}
use Rattle.tv_blk.proofs.sectors.part.Goals as goal

pub returns-clause-bytes : goal.returns-clause-bytes
returns-clause-bytes c =
    let len : c.args.n * 512 + 512 - c.args.n * 512 ≡ 512 = omega arith in
    let at : c.args.n * 512 ≡ 512 * c.args.n = omega arith in
    rw (len, at) refl
