-- What it is to have no fault.
use Rattle.std.proofs.Common.{◌≡◌, ℕ, Bool, true, false, List, [], ◌∷◌, ◌++◌, refl}
use Rattle.tv_machine_file.specs.declared.fault.FileFault.{FileFault}
use Rattle.tv_machine_file.specs.Keys.{range_fault}

-- no fault in two lists of faults is none in each
pub none_in : (a b : List FileFault) → a ++ b ≡ [] → (a ≡ []) × (b ≡ [])
none_in [] b none = (refl, none)
none_in (x ∷ a) b none = absurd (cc)

-- what is tested holds
pub in_range : (ok : Bool) (path : List ℕ) → range_fault ok path ≡ [] → ok ≡ true
in_range true path none = refl
in_range false path none = absurd (cc)
