use Rattle.std.proofs.Common.{◌≤◌, drop, length}
use Rattle.tv_script.specs.Scripts.{Reached}
use Rattle.tv_virtio.specs.Queue.{write_spans}
use Rattle.tv_vring.proofs.buffers.write_spans.Given as goal

abbrev pub invariant-loop-span : goal.invariant-loop-span
invariant-loop-span g l =
    Reached g.P.Port.moved l.fn.port (write_spans l.spans l.bytes) l.port (write_spans (drop l.span-index l.spans) (drop l.at l.bytes))
    × (g.P.Port.left l.port ≤ g.P.Port.left l.fn.port) × (l.at ≤ length l.bytes)
