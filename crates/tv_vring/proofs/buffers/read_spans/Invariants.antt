use Rattle.std.proofs.Common.{◌≤◌, take, drop, vec_len, vec_capacity}
use Rattle.tv_script.specs.Scripts.{Reached}
use Rattle.tv_virtio.specs.Queue.{read_spans}
use Rattle.tv_virtio.specs.Spans.{total}
use Rattle.tv_vring.specs.Walking.{Reading}
use Rattle.tv_vring.proofs.buffers.read_spans.Given as goal

abbrev pub invariant-loop-span : goal.invariant-loop-span
invariant-loop-span g l =
    Reading (Reached g.P.Port.moved l.fn.port (read_spans l.spans l.fn.into.items) l.port (read_spans (drop l.span-index l.spans) l.into.items))
    (vec_len l.fn.into) (vec_len l.into) (total (take l.span-index l.spans)) (vec_capacity l.fn.into) (vec_capacity l.into)
    × (g.P.Port.left l.port ≤ g.P.Port.left l.fn.port)
