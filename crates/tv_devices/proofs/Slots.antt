-- A slot that has a device.
use Rattle.std.proofs.Common.{◌≡◌, ℕ, zero, suc, ◌<◌, ◌≤◌, List, [], ◌∷◌, length, get_or, Option, Some, IfSome, refl, ap, sym, ◌∙◌, arith}
use Rattle.std.specs.List.{slice_get}
use Rattle.tv_base.specs.declared.limits.TheConstants.{DISK_SECTORS}
use Rattle.tv_machine.specs.declared.kinds.DeviceSpec.{DeviceSpec}
use Rattle.tv_spec.specs.Setup.{first_device}
use Rattle.tv_spec.specs.State.{first_in}

there : {A : Type 0} (xs : List A) (i : ℕ) (x : A) → i < length xs → slice_get xs i ≡ Some (get_or xs i x)
there [] i x within = absurd (omega (arith, within))
there (y ∷ xs) zero x within = refl
there (y ∷ xs) (suc i) x within = there xs i x (omega (arith, within))

-- it is the one that is found there
found : (devices : List DeviceSpec) (slot : ℕ) (spec : DeviceSpec) → slot < length devices → spec ≡ get_or devices slot spec → slice_get devices slot ≡ Some spec
found devices slot spec within is = there devices slot spec within ∙ ap (λ (d : DeviceSpec). Some d) (sym is)

pub few_there : (devices : List DeviceSpec) (slot : ℕ) (spec : DeviceSpec) → slot < length devices → spec ≡ get_or devices slot spec
    → IfSome (slice_get devices slot) (λ d. d.sectors ≤ DISK_SECTORS) → spec.sectors ≤ DISK_SECTORS
few_there devices slot spec within is few = rw (found devices slot spec within is) at few

pub first_there : (devices : List DeviceSpec) (slot : ℕ) (spec : DeviceSpec) → slot < length devices → spec ≡ get_or devices slot spec
    → first_device slot spec ≡ first_in slot (slice_get devices slot)
first_there devices slot spec within is = ap (λ (d : Option DeviceSpec). first_in slot d) (sym (found devices slot spec within is))
