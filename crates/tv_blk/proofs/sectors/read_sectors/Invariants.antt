use Rattle.std.proofs.Common.{◌≤◌, ◌*◌, ◌+◌, ◌-◌, []}
use Rattle.tv_script.specs.Scripts.{Reached}
use Rattle.tv_plan.specs.Block.{read_sectors}
use Rattle.tv_blk.specs.Reading.{Filling}
use Rattle.tv_blk.proofs.sectors.read_sectors.Given as goal

abbrev pub invariant-loop-n : goal.invariant-loop-n
invariant-loop-n g l =
    Filling (Reached g.P.Port.moved l.fn.port (read_sectors l.count l.first []) l.port (read_sectors (l.count - l.n) (l.first + l.n) l.ring.answered))
    l.fn.ring l.ring (512 * l.n)
    × (g.P.Port.left l.port ≤ g.P.Port.left l.fn.port)
