use Rattle.std.proofs.Common.{◌≤◌, ◌*◌, [], drop, min}
use Rattle.tv_base.specs.declared.limits.TheConstants.{PIECE_BYTES}
use Rattle.tv_script.specs.Scripts.{Reached}
use Rattle.tv_virtio.specs.Spans.{pieces}
use Rattle.tv_plan.specs.Entropy.{fill_pieces}
use Rattle.tv_small.specs.Filling.{Filling}
use Rattle.tv_small.proofs.random_bytes.fill.Given as goal

abbrev pub invariant-loop-n : goal.invariant-loop-n
invariant-loop-n g l =
    Filling (Reached g.P.Port.moved l.fn.port (fill_pieces (pieces (record { addr = 0; len = l.len })) []) l.port (fill_pieces (drop l.n (pieces (record { addr = 0; len = l.len }))) l.ring.answered))
    l.fn.ring l.ring (min l.len (l.n * PIECE_BYTES))
    × (g.P.Port.left l.port ≤ g.P.Port.left l.fn.port)
