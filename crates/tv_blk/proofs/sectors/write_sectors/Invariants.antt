use Rattle.std.proofs.Common.{◌≤◌, ◌*◌, ◌/◌, ◌+◌, ◌-◌, drop, length}
use Rattle.tv_script.specs.Scripts.{Reached}
use Rattle.tv_plan.specs.Block.{write_sectors}
use Rattle.tv_blk.proofs.sectors.write_sectors.Given as goal

abbrev pub invariant-loop-n : goal.invariant-loop-n
invariant-loop-n g l =
    Reached g.P.Port.moved l.fn.port (write_sectors (length l.bytes / 512) l.first l.bytes) l.port (write_sectors (length l.bytes / 512 - l.n) (l.first + l.n) (drop (512 * l.n) l.bytes))
    × (g.P.Port.left l.port ≤ g.P.Port.left l.fn.port)
