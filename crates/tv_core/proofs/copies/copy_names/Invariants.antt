use Rattle.std.proofs.Common.{◌≡◌, take}
use Rattle.tv_core.proofs.copies.copy_names.Given as goal

-- those so far
abbrev pub invariant-loop-name : goal.invariant-loop-name
invariant-loop-name l = l.copy ≡ take l.name-index l.name-items
