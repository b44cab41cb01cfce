use Rattle.std.proofs.Common.{◌≤◌, ◌*◌, drop, min, vec_len, vec_capacity}
use Rattle.tv_base.specs.declared.limits.TheConstants.{PIECE_BYTES}
use Rattle.tv_script.specs.Scripts.{Reached}
use Rattle.tv_virtio.specs.Queue.{read_pieces}
use Rattle.tv_virtio.specs.Spans.{pieces}
use Rattle.tv_vring.specs.Walking.{Reading}
use Rattle.tv_vring.proofs.buffers.read_span.Given as goal

abbrev pub invariant-loop-n : goal.invariant-loop-n
invariant-loop-n g l =
    Reading (Reached g.P.Port.moved l.fn.port (read_pieces (pieces l.span) l.fn.into.items) l.port (read_pieces (drop l.n (pieces l.span)) l.into.items))
    (vec_len l.fn.into) (vec_len l.into) (min l.span.len (l.n * PIECE_BYTES)) (vec_capacity l.fn.into) (vec_capacity l.into)
    × (g.P.Port.left l.port ≤ g.P.Port.left l.fn.port)
