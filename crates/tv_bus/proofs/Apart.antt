-- Ranges that share no address: they stay so as one is added, and at most one holds an access.
use Rattle.std.proofs.Common.{◌≡◌, ℕ, ◌+◌, ◌-◌, ◌<◌, ◌≤◌, Bool, true, false, List, [], ◌∷◌, ◌++◌, length, Contains, Some, arith, slice_index_or, zero, suc, refl, sym, subst}
use Rattle.std.proofs.lemmas.Bool.Decides.{nat_tests}
use Rattle.tv_base.specs.declared.Width.{Width}
use Rattle.tv_base.specs.declared.Width.TheVariants as width
use Rattle.tv_base.specs.Width.{width_bytes}
use Rattle.tv_bus.specs.declared.ranges.Range.{Range}
use Rattle.tv_bus.specs.Ranges.{range_at, holds, shares, overlaps, IsIn, IsApart, IsApartFromAll, AreApart}

-- ranges that share no byte are apart
apart_unshared : (range new : Range) → shares range new.base new.len ≡ false → IsApart range new
apart_unshared range new unshared addr here there = grind (arith, nat_tests)

-- a range that is apart from each of these and from a new one
apart_from_added : (range : Range) (ranges : List Range) (new : Range)
    → IsApartFromAll range ranges
    → IsApart range new
    → IsApartFromAll range (ranges ++ new ∷ [])
apart_from_added range [] new all apart = (apart, tt)
apart_from_added range (other ∷ ranges) new all apart = (all.0, apart_from_added range ranges new all.1 apart)

-- a new range that overlaps none leaves all apart
pub apart_added : (ranges : List Range) (new : Range)
    → AreApart ranges
    → overlaps ranges new.base new.len ≡ false
    → AreApart (ranges ++ new ∷ [])
apart_added [] new apart free = (tt, tt)
apart_added (range ∷ ranges) new apart free =
    let here : shares range new.base new.len ≡ false = grind (arith, nat_tests) in
    let there : overlaps ranges new.base new.len ≡ false = grind (arith, nat_tests) in
    (apart_from_added range ranges new apart.0 (apart_unshared range new here), apart_added ranges new apart.1 there)

-- a range of the list is apart from what is apart from each
apart_at : (range : Range) (ranges : List Range) (other : Range) (k : ℕ)
    → IsApartFromAll range ranges
    → k < length ranges
    → slice_index_or ranges k other ≡ other
    → IsApart range other
apart_at range [] other k all below is = absurd (omega arith)
apart_at range (first ∷ ranges) other zero all below is = rw (← is) (all.0)
apart_at range (first ∷ ranges) other (suc k) all below is = apart_at range ranges other k all.1 (omega arith) is

-- what isn't true is false
false_since : (b : Bool) → (b ≡ true → ⊥) → b ≡ false
false_since true never = absurd (never refl)
false_since false never = refl

-- a range that holds an access, told by the test
held : (range : Range) (addr n : ℕ) → range.base ≤ addr → addr + n ≤ range.base + range.len → holds range addr n ≡ true
held range addr n low high = grind (arith, nat_tests)

-- a range that holds an access has its first byte
first_in : (range : Range) (addr n : ℕ) → 0 < n → holds range addr n ≡ true → IsIn addr range
first_in range addr n some is = (grind (arith, nat_tests), grind (arith, nat_tests))

-- a range that is apart from one that holds an access doesn't hold it
not_held : (range other : Range) (addr n : ℕ)
    → IsApart range other
    → 0 < n
    → holds other addr n ≡ true
    → holds range addr n ≡ false
not_held range other addr n apart some is =
    let first = first_in other addr n some is in
    false_since (holds range addr n) (λ too. apart addr (first_in range addr n some too) first)

-- whichever range holds an access, it is the one that is found
range_at_holding : (ranges : List Range) (addr n : ℕ) (range : Range) (k : ℕ)
    → AreApart ranges
    → 0 < n
    → k < length ranges
    → slice_index_or ranges k range ≡ range
    → holds range addr n ≡ true
    → range_at ranges addr n ≡ Some (range.target, addr - range.base)
range_at_holding [] addr n range k apart some below is holding = absurd (omega arith)
range_at_holding (first ∷ ranges) addr n range zero apart some below is holding =
    let Found : Range → Type 0 = λ r. range_at (r ∷ ranges) addr n ≡ Some (range.target, addr - range.base) in
    subst Found (sym is) (rw holding refl)
range_at_holding (first ∷ ranges) addr n range (suc k) apart some below is holding =
    let other = apart_at first ranges range k apart.0 (omega arith) is in
    let past = not_held first range addr n other some holding in
    rw past (range_at_holding ranges addr n range k apart.1 some (omega arith) is holding)

-- each width has a byte
width_some : (width : Width) → 0 < width_bytes width
width_some width.B1 = omega arith
width_some width.B2 = omega arith
width_some width.B4 = omega arith
width_some width.B8 = omega arith

-- the same of an access of some width
pub range_at_only : (ranges : List Range) (addr : ℕ) (width : Width) (range : Range)
    → AreApart ranges
    → Contains ranges range
    → range.base ≤ addr
    → addr + width_bytes width ≤ range.base + range.len
    → range_at ranges addr (width_bytes width) ≡ Some (range.target, addr - range.base)
range_at_only ranges addr width range apart (k, below, is) low high =
    let n = width_bytes width in
    range_at_holding ranges addr n range k apart (width_some width) below is (held range addr n low high)
