use Rattle.std.proofs.Common.{◌-◌, ◌≤◌}
use Rattle.tv_script.specs.Scripts.{Reached}
use Rattle.tv_virtio.specs.Queue.{walk, no_chain}
use Rattle.tv_vring.specs.Walking.{Walking}
use Rattle.tv_vring.proofs.walk.walk.Given as goal

abbrev pub invariant-loop-next : goal.invariant-loop-next
invariant-loop-next g l =
    Walking (Reached g.P.Port.moved l.fn.port (walk l.queue no_chain l.fn.head (l.queue.size - 1)) l.port (walk l.queue l.chain l.at l.left)) l.queue l.chain l.left
    × (g.P.Port.left l.port ≤ g.P.Port.left l.fn.port)

abbrev pub decreases-loop-next : goal.decreases-loop-next
decreases-loop-next g l = l.left
