use Rattle.std.proofs.Common.{◌≡◌, replicate}
use Rattle.tv_side.specs.Sides.{new_side}
use Rattle.tv_core.proofs.parts.new_sides.Given as goal

-- those so far
abbrev pub invariant-loop-device : goal.invariant-loop-device
invariant-loop-device l = l.sides.items ≡ replicate l._device-index (new_side l.machine.tube)
