use Rattle.std.proofs.Common.{◌≤◌, ◌*◌, length, drop}
use Rattle.tv_base.specs.declared.limits.TheConstants.{PIECE_BYTES}
use Rattle.tv_script.specs.Scripts.{Reached}
use Rattle.tv_virtio.specs.Spans.{pieces}
use Rattle.tv_plan.specs.Console.{put_pieces}
use Rattle.tv_console.proofs.streams.put_all.Given as goal

abbrev pub invariant-loop-n : goal.invariant-loop-n
invariant-loop-n g l =
    Reached g.P.Port.moved l.fn.port (put_pieces (pieces (record { addr = 0; len = length l.bytes })) l.bytes) l.port (put_pieces (drop l.n (pieces (record { addr = 0; len = length l.bytes }))) (drop (l.n * PIECE_BYTES) l.bytes))
    × (g.P.Port.left l.port ≤ g.P.Port.left l.fn.port)
