-- Accesses byte by byte.
use Rattle.std.proofs.Common.{◌≡◌, ℕ, zero, suc, ◌+◌, ◌*◌, ◌^◌, ◌==◌, ◌<◌, ◌||◌, ◌≤◌, Bool, true, false, List, [], ◌∷◌, arith, refl}
use Rattle.std.specs.Prelude.{if◌then◌else◌, nat_lt}
use Rattle.std.proofs.lemmas.Bool.Decides.{nat_tests}
use Rattle.tv_base.specs.declared.limits.TheConstants.{PAGE_BYTES, RAM_BASE, RAM_BYTES}
use Rattle.tv_ram.specs.Memory.{is_inside, page_base}
use Rattle.tv_ram.proofs.Inside.{inside_since_each}
use Rattle.tv_grants.specs.declared.ranges.Grant.{Grant}
use Rattle.tv_grants.specs.Fields.{AreInMemory, IsInMemory}
use Rattle.tv_grants.specs.Grants.{each_below, is_allowed, is_granted, is_in_range, is_page_allowed, is_ram_page, may_touch, ranges_of, right_to}

-- what is true of each number below n is true of any one, and the other way round
pub each_at : (n : ℕ) (holds : ℕ → Bool) → each_below n holds ≡ true → (i : ℕ) → i < n → holds i ≡ true
unfolding each_below
each_at zero holds all i below = absurd (omega arith)
each_at (suc n) holds all i below =
    let front : each_below n holds ≡ true = grind (arith, nat_tests) in
    let last : holds n ≡ true = grind (arith, nat_tests) in
    by_place last (λ h. each_at n holds front i h) (nat_lt i n) refl
  where
    by_place : holds n ≡ true → (i < n → holds i ≡ true) → (b : Bool) → nat_lt i n ≡ b → holds i ≡ true
    by_place last before true is = before (grind (arith, nat_tests))
    by_place last before false is =
        let at : i ≡ n = grind (arith, nat_tests) in
        rw at last

pub each_since : (n : ℕ) (holds : ℕ → Bool) → ((i : ℕ) → i < n → holds i ≡ true) → each_below n holds ≡ true
unfolding each_below
each_since zero holds all = refl
each_since (suc n) holds all =
    let before = each_since n holds (λ i below. all i (omega arith)) in
    let last = all n (omega arith) in
    grind (arith, nat_tests)

-- one that fails is enough
pub each_fails : (n : ℕ) (holds : ℕ → Bool) (i : ℕ) → i < n → holds i ≡ false → each_below n holds ≡ false
each_fails n holds i below fails = by_answer (each_below n holds) refl
  where
    by_answer : (b : Bool) → each_below n holds ≡ b → b ≡ false
    by_answer true is =
        let at : holds i ≡ true = each_at n holds is i below in
        absurd (grind (arith, nat_tests))
    by_answer false is = refl

-- a byte that is granted lies in memory
pub granted_inside : (bytes : ℕ) (grants : List Grant) (dev right addr : ℕ)
    → AreInMemory bytes grants
    → is_granted (ranges_of dev grants) right addr ≡ true
    → (RAM_BASE ≤ addr) × (addr < RAM_BASE + bytes)
granted_inside bytes [] dev right addr inside is = absurd (grind (arith, nat_tests))
granted_inside bytes (grant ∷ grants) dev right addr inside is =
    let rest = granted_inside bytes grants dev right addr (λ k other below. inside (suc k) other (omega arith)) in
    by_device (inside 0 grant (omega arith)) rest (grant.dev == dev) refl is
  where
    Within : Type 0
    Within = (RAM_BASE ≤ addr) × (addr < RAM_BASE + bytes)

    here : IsInMemory bytes grant → is_in_range right addr grant.range ≡ true → Within
    here within held =
        let base = within.0 in
        let end = within.1 in
        (grind (arith, nat_tests), grind (arith, nat_tests))

    by_range : IsInMemory bytes grant
        → (is_granted (ranges_of dev grants) right addr ≡ true → Within)
        → (b : Bool)
        → is_in_range right addr grant.range ≡ b
        → (b || is_granted (ranges_of dev grants) right addr) ≡ true
        → Within
    by_range within rest true held is = here within held
    by_range within rest false held is = rest is

    by_device : IsInMemory bytes grant
        → (is_granted (ranges_of dev grants) right addr ≡ true → Within)
        → (b : Bool)
        → (grant.dev == dev) ≡ b
        → is_granted (if b then grant.range ∷ ranges_of dev grants else ranges_of dev grants) right addr ≡ true
        → Within
    by_device within rest true same is = by_range within rest (is_in_range right addr grant.range) refl is
    by_device within rest false same is = rest is

-- past the last address none is
none_granted : (grants : List Grant) (dev right addr : ℕ)
    → AreInMemory RAM_BYTES grants
    → 2 ^ 64 ≤ addr
    → is_granted (ranges_of dev grants) right addr ≡ false
none_granted grants dev right addr inside past = by_answer (is_granted (ranges_of dev grants) right addr) refl
  where
    by_answer : (b : Bool) → is_granted (ranges_of dev grants) right addr ≡ b → b ≡ false
    by_answer true is =
        let below : addr < RAM_BASE + RAM_BYTES = (granted_inside RAM_BYTES grants dev right addr inside is).1 in
        absurd (omega arith)
    by_answer false is = refl

pub none_touched : (grants : List Grant) (withdrawn : List Bool) (dev right addr : ℕ)
    → AreInMemory RAM_BYTES grants
    → 2 ^ 64 ≤ addr
    → may_touch (ranges_of dev grants) withdrawn right addr ≡ false
none_touched grants withdrawn dev right addr inside past = rw (none_granted grants dev right addr inside past) refl

-- an access that is allowed lies in memory, and so does a page
pub allowed_inside : (bytes : ℕ) (grants : List Grant) (withdrawn : List Bool) (dev right addr n : ℕ)
    → AreInMemory bytes grants
    → is_allowed (ranges_of dev grants) withdrawn right addr n ≡ true
    → is_inside bytes addr n ≡ true
allowed_inside bytes grants withdrawn dev right addr n inside all = inside_since_each bytes addr n each
  where
    touched : ℕ → Bool
    touched i = may_touch (ranges_of dev grants) withdrawn right (addr + i)

    each : (i : ℕ) → i < n → (RAM_BASE ≤ addr + i) × (addr + i < RAM_BASE + bytes)
    each i below =
        let may : touched i ≡ true = each_at n touched all i below in
        let is : is_granted (ranges_of dev grants) right (addr + i) ≡ true = grind (arith, nat_tests) in
        granted_inside bytes grants dev right (addr + i) inside is

pub page_inside : (pages : ℕ) (grants : List Grant) (dev page : ℕ)
    → AreInMemory (pages * PAGE_BYTES) grants
    → is_page_allowed (ranges_of dev grants) page ≡ true
    → is_ram_page pages page ≡ true
page_inside pages grants dev page inside all =
    let within = allowed_inside (pages * PAGE_BYTES) grants [] dev (right_to true) (page_base page) PAGE_BYTES inside all in
    grind (arith, nat_tests)

pub page_held : (pages : ℕ) (grants : List Grant) (dev page : ℕ)
    → AreInMemory (pages * PAGE_BYTES) grants
    → is_page_allowed (ranges_of dev grants) page ≡ true
    → is_inside (pages * PAGE_BYTES) (page_base page) 4096 ≡ true
page_held pages grants dev page inside all =
    allowed_inside (pages * PAGE_BYTES) grants [] dev (right_to true) (page_base page) PAGE_BYTES inside all
