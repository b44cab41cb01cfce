use Rattle.std.proofs.Common.{replicate}
use Rattle.tv_spec.specs.Step.{made}
use Rattle.tv_model.specs.Moves.{AreMade}
use Rattle.tv_model.proofs.replays.step_each.Given as goal

-- the entry was made so often
abbrev pub invariant-loop-time : goal.invariant-loop-time
invariant-loop-time g l = AreMade l.fn.monitor l.monitor (replicate l._time (made l.entry))
