use Rattle.std.proofs.Common.{◌≡◌}
use Rattle.tv_intc.specs.Controller.{any_eligible}
use Rattle.tv_intc.proofs.controller.Intc.has_eligible.Given as goal

abbrev pub invariant-loop-place : goal.invariant-loop-place
invariant-loop-place l = l.any ≡ any_eligible l.self l.hart l.place
