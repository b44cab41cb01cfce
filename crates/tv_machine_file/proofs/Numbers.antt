-- Numbers in bounds.
use Rattle.std.proofs.Common.{◌≡◌, ℤ, pos, negsuc, ◌<ℤ◌, false, refl, arith}
use Rattle.std.proofs.lemmas.Int.{ints}
use Rattle.tv_machine_file.specs.declared.keys.Bounds.{Bounds}
use Rattle.tv_machine_file.specs.Keys.{is_in}

-- no negative number is in bounds
pub is_in_negative : (bounds : Bounds) (z : ℤ) → z <ℤ pos 0 → is_in bounds z ≡ false
is_in_negative bounds (pos n) below = absurd (omega (arith, ints, below))
is_in_negative bounds (negsuc n) below = refl
