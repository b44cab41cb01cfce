use Rattle.std.proofs.Common.{◌-◌}
use Rattle.tv_core.proofs.Turns.{HasMade}
use Rattle.tv_core.proofs.proxied.Proxied.hart_turn.Given as goal

-- so many events were made
abbrev pub invariant-loop-made : goal.invariant-loop-made
invariant-loop-made l = HasMade l.fn.self l.self l.hart l.most l.made

abbrev pub decreases-loop-made : goal.decreases-loop-made
decreases-loop-made l = l.most - l.made
