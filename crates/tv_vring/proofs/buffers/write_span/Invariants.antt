use Rattle.std.proofs.Common.{◌≤◌, ◌*◌, drop}
use Rattle.tv_base.specs.declared.limits.TheConstants.{PIECE_BYTES}
use Rattle.tv_script.specs.Scripts.{Reached}
use Rattle.tv_virtio.specs.Queue.{write_pieces}
use Rattle.tv_virtio.specs.Spans.{pieces}
use Rattle.tv_vring.proofs.buffers.write_span.Given as goal

abbrev pub invariant-loop-n : goal.invariant-loop-n
invariant-loop-n g l =
    Reached g.P.Port.moved l.fn.port (write_pieces (pieces l.span) l.bytes) l.port (write_pieces (drop l.n (pieces l.span)) (drop (l.n * PIECE_BYTES) l.bytes))
    × (g.P.Port.left l.port ≤ g.P.Port.left l.fn.port)
