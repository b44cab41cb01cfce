use Rattle.std.proofs.Common.{◌≡◌, ◌≤◌}
use Rattle.tv_intc.specs.Controller.{choice}
use Rattle.tv_intc.proofs.controller.Intc.choose.Given as goal

abbrev pub invariant-loop-place : goal.invariant-loop-place
invariant-loop-place l = record { value : l.best ≡ choice l.self l.hart l.place; bound : l.best ≤ 8 }
