-- The bus as a list of address ranges, in the order in which they were added.
use Rattle.std.specs.Prelude.{◌==◌, ◌&&◌, ℕ, ◌+◌, ◌-◌, ◌≤◌, ◌<◌, if◌then◌else◌, nat_le, nat_lt, max, min, Bool}
use Rattle.std.specs.List.{list_any}
use Rattle.std.specs.Prelude.{List, [], ◌∷◌, length, Option, Some, None}
use Rattle.tv_base.specs.declared.limits.TheConstants.{BUS_RANGES}
use Rattle.tv_bus.specs.declared.ranges.Range.{Range}
use Rattle.tv_bus.specs.declared.BusError.{BusError}
use Rattle.tv_bus.specs.declared.BusError.TheVariants as error
use Rattle.tv_bus.specs.declared.Target.{Target}

-- whether a range holds each of n bytes from an address on
abbrev pub holds : Range → ℕ → ℕ → Bool
holds range addr n = nat_le range.base addr && nat_le (addr + n) (range.base + range.len)

-- where the n bytes from an address on lead, with their offset in the range that holds each of them
abbrev pub range_at : List Range → ℕ → ℕ → Option (Target × ℕ)
range_at [] addr n = None
range_at (range ∷ ranges) addr n =
    if holds range addr n then Some (range.target, addr - range.base) else range_at ranges addr n

-- whether a range has one of the len bytes from base on: the later of the two starts comes before both ends
abbrev pub shares : Range → ℕ → ℕ → Bool
shares range base len = nat_lt (max range.base base) (min (range.base + range.len) (base + len))

-- whether some range has one of the len bytes from base on
abbrev pub overlaps : List Range → ℕ → ℕ → Bool
overlaps ranges base len = list_any (λ range. shares range base len) ranges

-- why a range is not added, where it isn't for want of memory
abbrev pub refusal : List Range → ℕ → ℕ → Option BusError
refusal ranges base len =
    if len == 0 then Some error.Empty
    else if overlaps ranges base len then Some error.Overlap
    else if nat_le BUS_RANGES (length ranges) then Some error.TooMany
    else None

-- an address lies in a range
abbrev pub IsIn : ℕ → Range → Type 0
IsIn addr range = (range.base ≤ addr) × (addr < range.base + range.len)

-- no address lies in both ranges
abbrev pub IsApart : Range → Range → Type 0
IsApart one other = (addr : ℕ) → IsIn addr one → IsIn addr other → ⊥

-- a range is apart from each of these
abbrev pub IsApartFromAll : Range → List Range → Type 0
IsApartFromAll range [] = Unit {0}
IsApartFromAll range (other ∷ ranges) = IsApart range other × IsApartFromAll range ranges

-- no address lies in two ranges
abbrev pub AreApart : List Range → Type 0
AreApart [] = Unit {0}
AreApart (range ∷ ranges) = IsApartFromAll range ranges × AreApart ranges
