-- What the devices of a machine are granted is what the machine says of each.
use Rattle.std.proofs.Common.{◌≡◌, ℕ, zero, suc, ◌+◌, ◌==◌, ◌<◌, ◌≤◌, Bool, true, false, List, [], ◌∷◌, ◌++◌, length, slice_index_or, slice_set, Option, Some, None, refl, ap, sym, ◌∙◌, arith}
use Rattle.std.specs.Prelude.{if◌then◌else◌, slice_get}
use Rattle.std.specs.Option.{is_some}
use Rattle.std.proofs.lemmas.Bool.Decides.{nat_tests}
use Rattle.std.proofs.lemmas.List.{append_assoc, append-nil, get_or-set_same, get_or-set_other, length-set}
use Rattle.tv_machine.specs.declared.kinds.DeviceSpec.{DeviceSpec}
use Rattle.tv_machine.specs.declared.kinds.MemRange.{MemRange}
use Rattle.tv_machine.specs.declared.machine.Machine.{Machine}
use Rattle.tv_grants.proofs.Numbers.{no_source}
use Rattle.tv_grants.specs.declared.ranges.Grant.{Grant}
use Rattle.tv_grants.specs.Grants.{GrantState, no_grants, owns_source, ranges_of, with_range, with_source}
use Rattle.tv_grants.specs.Machines.{AreTheirs, machine_grants, ranges_in, source_in, with_device, with_devices, with_optional, with_ranges}

-- the ranges of a device among those of two lists
ranges_apart : (slot : ℕ) (xs ys : List Grant) → ranges_of slot (xs ++ ys) ≡ ranges_of slot xs ++ ranges_of slot ys
ranges_apart slot [] ys = refl
ranges_apart slot (x ∷ xs) ys = by_device (ranges_apart slot xs ys) (x.dev == slot)
  where
    by_device : ranges_of slot (xs ++ ys) ≡ ranges_of slot xs ++ ranges_of slot ys
        → (b : Bool)
        → (if b then x.range ∷ ranges_of slot (xs ++ ys) else ranges_of slot (xs ++ ys))
        ≡ (if b then x.range ∷ ranges_of slot xs else ranges_of slot xs) ++ ranges_of slot ys
    by_device rest true = ap (λ rs. x.range ∷ rs) rest
    by_device rest false = rest

-- a range that a device was granted is the last one of its own, and none of another's
one_more : (slot : ℕ) (s : GrantState) (range : MemRange)
    → ranges_of slot (with_range s slot range).ranges ≡ ranges_of slot s.ranges ++ range ∷ []
one_more slot s range =
    let same : (slot == slot) ≡ true = grind (arith, nat_tests) in
    ranges_apart slot s.ranges (record { dev = slot; range = range; cap = s.taken } ∷ []) ∙ (rw same refl)

none_more : (slot other : ℕ) (s : GrantState) (range : MemRange)
    → (slot == other) ≡ false
    → ranges_of other (with_range s slot range).ranges ≡ ranges_of other s.ranges
none_more slot other s range apart =
    ranges_apart other s.ranges (record { dev = slot; range = range; cap = s.taken } ∷ []) ∙ (rw apart (append-nil (ranges_of other s.ranges)))

all_more : (slot : ℕ) (ranges : List MemRange) (s : GrantState)
    → ranges_of slot (with_ranges slot ranges s).ranges ≡ ranges_of slot s.ranges ++ ranges
all_more slot [] s = sym (append-nil (ranges_of slot s.ranges))
all_more slot (range ∷ ranges) s =
    all_more slot ranges (with_range s slot range) ∙ ap (λ rs. rs ++ ranges) (one_more slot s range)
    ∙ append_assoc (ranges_of slot s.ranges) (range ∷ []) ranges

all_stay : (slot other : ℕ) (ranges : List MemRange) (s : GrantState)
    → (slot == other) ≡ false
    → ranges_of other (with_ranges slot ranges s).ranges ≡ ranges_of other s.ranges
all_stay slot other [] s apart = refl
all_stay slot other (range ∷ ranges) s apart =
    all_stay slot other ranges (with_range s slot range) apart ∙ none_more slot other s range apart

-- the sources stay where ranges and files are added, and the ranges where files and sources are
ranges_keep : (slot : ℕ) (ranges : List MemRange) (s : GrantState) → (with_ranges slot ranges s).sources ≡ s.sources
ranges_keep slot [] s = refl
ranges_keep slot (range ∷ ranges) s = ranges_keep slot ranges (with_range s slot range)

file_keeps : (name : Option (List ℕ)) (s : GrantState) → ((with_optional name s).ranges ≡ s.ranges) × ((with_optional name s).sources ≡ s.sources)
file_keeps None s = (refl, refl)
file_keeps (Some name) s = (refl, refl)

-- a device with all its ranges and files, but no source yet
abbrev filed : ℕ → DeviceSpec → GrantState → GrantState
filed slot d s = with_optional d.input (with_optional d.output (with_optional d.disk (with_ranges slot d.mem s)))

filed_keeps : (slot : ℕ) (d : DeviceSpec) (s : GrantState)
    → ((filed slot d s).ranges ≡ (with_ranges slot d.mem s).ranges) × ((filed slot d s).sources ≡ s.sources)
filed_keeps slot d s =
    let a = file_keeps d.disk (with_ranges slot d.mem s) in
    let b = file_keeps d.output (with_optional d.disk (with_ranges slot d.mem s)) in
    let c = file_keeps d.input (with_optional d.output (with_optional d.disk (with_ranges slot d.mem s))) in
    (c.0 ∙ b.0 ∙ a.0, c.1 ∙ b.1 ∙ a.1 ∙ ranges_keep slot d.mem s)

device_ranges : (slot : ℕ) (d : DeviceSpec) (s : GrantState) → (with_device slot d s).ranges ≡ (with_ranges slot d.mem s).ranges
device_ranges slot d s = by_source d.irq
  where
    by_source : (irq : Bool) → (if irq then with_source (filed slot d s) slot else filed slot d s).ranges ≡ (with_ranges slot d.mem s).ranges
    by_source true = (filed_keeps slot d s).0
    by_source false = (filed_keeps slot d s).0

-- what devices in later slots are granted changes nothing for this one
ranges_before : (slot other : ℕ) (ds : List DeviceSpec) (s : GrantState)
    → other < slot
    → ranges_of other (with_devices slot ds s).ranges ≡ ranges_of other s.ranges
ranges_before slot other [] s before = refl
ranges_before slot other (d ∷ ds) s before =
    let apart : (slot == other) ≡ false = grind (arith, nat_tests) in
    ranges_before (slot + 1) other ds (with_device slot d s) (omega arith)
    ∙ ap (λ rs. ranges_of other rs) (device_ranges slot d s)
    ∙ all_stay slot other d.mem s apart

ranges_at : (slot place : ℕ) (ds : List DeviceSpec) (s : GrantState)
    → ((other : ℕ) → slot ≤ other → ranges_of other s.ranges ≡ [])
    → ranges_of (slot + place) (with_devices slot ds s).ranges ≡ ranges_in (slice_get ds place)
ranges_at slot place [] s none = none (slot + place) (omega arith)
ranges_at slot zero (d ∷ ds) s none =
    let first : slot + 0 ≡ slot = omega arith in
    rw first
    (ranges_before (slot + 1) slot ds (with_device slot d s) (omega arith)
    ∙ ap (λ rs. ranges_of slot rs) (device_ranges slot d s)
    ∙ all_more slot d.mem s
    ∙ ap (λ rs. rs ++ d.mem) (none slot (omega arith)))
ranges_at slot (suc place) (d ∷ ds) s none =
    let next : slot + suc place ≡ slot + 1 + place = omega arith in
    rw next (ranges_at (slot + 1) place ds (with_device slot d s) later)
  where
    later : (other : ℕ) → slot + 1 ≤ other → ranges_of other (with_device slot d s).ranges ≡ []
    later other past =
        let apart : (slot == other) ≡ false = grind (arith, nat_tests) in
        ap (λ rs. ranges_of other rs) (device_ranges slot d s) ∙ all_stay slot other d.mem s apart ∙ none other (omega arith)

-- a device's source is its own
source_of : (slot other : ℕ) (d : DeviceSpec) (s : GrantState)
    → (slot == other) ≡ false
    → owns_source (with_device slot d s) other ≡ owns_source s other
source_of slot other d s apart = by_source d.irq
  where
    kept : (filed slot d s).sources ≡ s.sources
    kept = (filed_keeps slot d s).1

    by_source : (irq : Bool) → owns_source (if irq then with_source (filed slot d s) slot else filed slot d s) other ≡ owns_source s other
    by_source true =
        let set : slice_index_or (slice_set (filed slot d s).sources slot (Some (filed slot d s).taken)) other None ≡ slice_index_or (filed slot d s).sources other None =
        get_or-set_other (filed slot d s).sources slot other (Some (filed slot d s).taken) None (grind (arith, nat_tests)) in
        ap is_some set ∙ ap (λ sources. is_some (slice_index_or sources other None)) kept
    by_source false = ap (λ sources. is_some (slice_index_or sources other None)) kept

own_source : (slot : ℕ) (d : DeviceSpec) (s : GrantState)
    → slot < length s.sources
    → owns_source s slot ≡ false
    → owns_source (with_device slot d s) slot ≡ d.irq
own_source slot d s below none = by_source d.irq
  where
    kept : (filed slot d s).sources ≡ s.sources
    kept = (filed_keeps slot d s).1

    by_source : (irq : Bool) → owns_source (if irq then with_source (filed slot d s) slot else filed slot d s) slot ≡ irq
    by_source true = ap is_some (get_or-set_same (filed slot d s).sources slot (Some (filed slot d s).taken) None (rw kept below))
    by_source false = ap (λ sources. is_some (slice_index_or sources slot None)) kept ∙ none

sources_stay : (slot : ℕ) (d : DeviceSpec) (s : GrantState) → length (with_device slot d s).sources ≡ length s.sources
sources_stay slot d s = by_source d.irq
  where
    by_source : (irq : Bool) → length (if irq then with_source (filed slot d s) slot else filed slot d s).sources ≡ length s.sources
    by_source true = length-set (filed slot d s).sources slot (Some (filed slot d s).taken) ∙ ap length (filed_keeps slot d s).1
    by_source false = ap length (filed_keeps slot d s).1

sources_before : (slot other : ℕ) (ds : List DeviceSpec) (s : GrantState)
    → other < slot
    → owns_source (with_devices slot ds s) other ≡ owns_source s other
sources_before slot other [] s before = refl
sources_before slot other (d ∷ ds) s before =
    sources_before (slot + 1) other ds (with_device slot d s) (omega arith) ∙ source_of slot other d s (grind (arith, nat_tests))

sources_at : (slot place : ℕ) (ds : List DeviceSpec) (s : GrantState)
    → slot + length ds ≤ length s.sources
    → ((other : ℕ) → slot ≤ other → owns_source s other ≡ false)
    → owns_source (with_devices slot ds s) (slot + place) ≡ source_in (slice_get ds place)
sources_at slot place [] s few none = none (slot + place) (omega arith)
sources_at slot zero (d ∷ ds) s few none =
    let first : slot + 0 ≡ slot = omega arith in
    rw first
    (sources_before (slot + 1) slot ds (with_device slot d s) (omega arith) ∙ own_source slot d s (omega arith) (none slot (omega arith)))
sources_at slot (suc place) (d ∷ ds) s few none =
    let next : slot + suc place ≡ slot + 1 + place = omega arith in
    rw next (sources_at (slot + 1) place ds (with_device slot d s) (rw (sources_stay slot d s) (omega arith)) later)
  where
    later : (other : ℕ) → slot + 1 ≤ other → owns_source (with_device slot d s) other ≡ false
    later other past = source_of slot other d s (grind (arith, nat_tests)) ∙ none other (omega arith)

-- the grants of a machine with at most as many devices as there are slots
pub machine_theirs : (m : Machine) → length m.device ≤ 8 → AreTheirs m.device (machine_grants m)
machine_theirs m few = record { ranges = ranges; sources = sources }
  where
    none : (other : ℕ) → 0 ≤ other → owns_source (no_grants m.ram) other ≡ false
    none other _ = ap is_some (no_source 8 other)

    ranges : (slot : ℕ) → ranges_of slot (machine_grants m).ranges ≡ ranges_in (slice_get m.device slot)
    ranges slot =
        let from : 0 + slot ≡ slot = omega arith in
        ap (λ n. ranges_of n (machine_grants m).ranges) (sym from) ∙ ranges_at 0 slot m.device (no_grants m.ram) (λ _ _. refl)

    sources : (slot : ℕ) → owns_source (machine_grants m) slot ≡ source_in (slice_get m.device slot)
    sources slot =
        let from : 0 + slot ≡ slot = omega arith in
        let slots : length (no_grants m.ram).sources ≡ 8 = refl in
        ap (λ n. owns_source (machine_grants m) n) (sym from) ∙ sources_at 0 slot m.device (no_grants m.ram) (omega arith) none
