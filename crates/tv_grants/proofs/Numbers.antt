-- The numbers of a machine's grants are places among its capabilities.
use Rattle.std.proofs.Common.{◌≡◌, ℕ, zero, suc, ◌+◌, Bool, true, false, List, [], ◌∷◌, ◌++◌, map, length, replicate, slice_index_or, slice_set, Option, Some, None, ◌⊎◌, inl, inr, refl, subst, sym, ◌∙◌}
use Rattle.std.specs.Prelude.{All, if◌then◌else◌, slice_get, option_to_list}
use Rattle.std.proofs.lemmas.List.{append_assoc, append-nil, length-append}
use Rattle.std.proofs.lemmas.List.Elements.{All-nil, All-head, All-tail, All-cons, All-push}
use Rattle.tv_machine.specs.Capabilities.{Capability, memory, disk, output, input, source, capabilities, capabilities_from, device_capabilities, source_capability}
use Rattle.tv_machine.specs.declared.kinds.DeviceSpec.{DeviceSpec}
use Rattle.tv_machine.specs.declared.kinds.MemRange.{MemRange}
use Rattle.tv_machine.specs.declared.machine.Machine.{Machine}
use Rattle.tv_grants.specs.declared.ranges.Grant.{Grant}
use Rattle.tv_grants.specs.Grants.{GrantState, no_grants, with_file, with_range, with_source}
use Rattle.tv_grants.specs.Machines.{AreNumbered, IsAtItsNumber, machine_grants, with_device, with_devices, with_optional, with_ranges}

-- what stands at a place stays there where a list grows
stays : {A : Type 0} (xs ys : List A) (place : ℕ) (x : A) → slice_get xs place ≡ Some x → slice_get (xs ++ ys) place ≡ Some x
stays [] ys place x is = absurd (cc)
stays (other ∷ xs) ys zero x is = is
stays (other ∷ xs) ys (suc place) x is = stays xs ys place x is

-- what is added stands at the place with the number of those before it
added : {A : Type 0} (xs : List A) (x : A) → slice_get (xs ++ x ∷ []) (length xs) ≡ Some x
added [] x = refl
added (other ∷ xs) x = added xs x

ranges_stay : (caps : List Capability) (cap : Capability) (ranges : List Grant)
    → All (IsAtItsNumber caps) ranges
    → All (IsAtItsNumber (caps ++ cap ∷ [])) ranges
ranges_stay caps cap [] all = All-nil (IsAtItsNumber (caps ++ cap ∷ []))
ranges_stay caps cap (range ∷ ranges) all =
    All-cons (IsAtItsNumber (caps ++ cap ∷ [])) range ranges
    (stays caps (cap ∷ []) range.cap (memory range.dev range.range) (All-head (IsAtItsNumber caps) range ranges all))
    (ranges_stay caps cap ranges (All-tail (IsAtItsNumber caps) range ranges all))

one_more : (caps : List Capability) (cap : Capability) → length (caps ++ cap ∷ []) ≡ length caps + 1
one_more caps cap = length-append caps (cap ∷ [])

-- with a range
range_numbered : (caps : List Capability) (s : GrantState) (slot : ℕ) (range : MemRange)
    → AreNumbered caps s
    → AreNumbered (caps ++ memory slot range ∷ []) (with_range s slot range)
range_numbered caps s slot range so = record {
  ranges =
      All-push (IsAtItsNumber (caps ++ memory slot range ∷ [])) s.ranges (record { dev = slot; range = range; cap = s.taken })
      (ranges_stay caps (memory slot range) s.ranges so.ranges)
      (rw so.taken (added caps (memory slot range)));
  sources = λ other number is. stays caps (memory slot range ∷ []) number (source other) (so.sources other number is);
  taken = rw (one_more caps (memory slot range), so.taken) refl;
}

-- with a file
file_numbered : (caps : List Capability) (s : GrantState) (file : Capability)
    → AreNumbered caps s
    → AreNumbered (caps ++ file ∷ []) (with_file s)
file_numbered caps s file so = record {
  ranges = ranges_stay caps file s.ranges so.ranges;
  sources = λ other number is. stays caps (file ∷ []) number (source other) (so.sources other number is);
  taken = rw (one_more caps file, so.taken) refl;
}

-- a list in which one member is changed
set_or : (sources : List (Option ℕ)) (at number other cap : ℕ)
    → slice_index_or (slice_set sources at (Some number)) other None ≡ Some cap
    → (slice_index_or sources other None ≡ Some cap) ⊎ ((other ≡ at) × (number ≡ cap))
set_or [] at number other cap is = inl is
set_or (first ∷ sources) zero number zero cap is = inr (refl, cc)
set_or (first ∷ sources) zero number (suc other) cap is = inl is
set_or (first ∷ sources) (suc at) number zero cap is = inl is
set_or (first ∷ sources) (suc at) number (suc other) cap is =
    elim (set_or sources at number other cap is) [
      | inl before ↦ inl before
      | inr now ↦ let same : other ≡ at = now.0 in inr (rw same refl, now.1)
    ]

-- with an interrupt source
source_numbered : (caps : List Capability) (s : GrantState) (slot : ℕ)
    → AreNumbered caps s
    → AreNumbered (caps ++ source slot ∷ []) (with_source s slot)
source_numbered caps s slot so = record {
  ranges = ranges_stay caps (source slot) s.ranges so.ranges;
  sources = λ other number is. by_change other number (set_or s.sources slot s.taken other number is);
  taken = rw (one_more caps (source slot), so.taken) refl;
}
  where
    by_change : (other number : ℕ)
        → (slice_index_or s.sources other None ≡ Some number) ⊎ ((other ≡ slot) × (s.taken ≡ number))
        → slice_get (caps ++ source slot ∷ []) number ≡ Some (source other)
    by_change other number (inl before) = stays caps (source slot ∷ []) number (source other) (so.sources other number before)
    by_change other number (inr now) = rw (now.0, sym now.1, so.taken) (added caps (source slot))

-- with all ranges of a device, and with a file if there is one
ranges_numbered : (slot : ℕ) (ranges : List MemRange) (caps : List Capability) (s : GrantState)
    → AreNumbered caps s
    → AreNumbered (caps ++ map (memory slot) ranges) (with_ranges slot ranges s)
ranges_numbered slot [] caps s so = rw (append-nil caps) so
ranges_numbered slot (range ∷ ranges) caps s so =
    rw (sym (append_assoc caps (memory slot range ∷ []) (map (memory slot) ranges)))
    (ranges_numbered slot ranges (caps ++ memory slot range ∷ []) (with_range s slot range) (range_numbered caps s slot range so))

optional_numbered : (file : List ℕ → Capability) (name : Option (List ℕ)) (caps : List Capability) (s : GrantState)
    → AreNumbered caps s
    → AreNumbered (caps ++ map file (option_to_list name)) (with_optional name s)
optional_numbered file None caps s so = rw (append-nil caps) so
optional_numbered file (Some name) caps s so = file_numbered caps s (file name) so

regrouped : (a b c d e f : List Capability) → a ++ b ++ c ++ d ++ e ++ f ≡ a ++ (b ++ (c ++ (d ++ (e ++ f))))
regrouped a b c d e f =
    append_assoc (a ++ b ++ c ++ d) e f ∙ append_assoc (a ++ b ++ c) d (e ++ f) ∙ append_assoc (a ++ b) c (d ++ (e ++ f))
    ∙ append_assoc a b (c ++ (d ++ (e ++ f)))

-- with all that a device has
device_numbered : (slot : ℕ) (d : DeviceSpec) (caps : List Capability) (s : GrantState)
    → AreNumbered caps s
    → AreNumbered (caps ++ device_capabilities slot d) (with_device slot d s)
device_numbered slot d caps s so =
    let ranged = ranges_numbered slot d.mem caps s so in
    let disked = optional_numbered (disk slot) d.disk _ _ ranged in
    let put = optional_numbered (output slot) d.output _ _ disked in
    let filed = optional_numbered (input slot) d.input _ _ put in
    subst (λ all. AreNumbered all (with_device slot d s)) (regrouped caps _ _ _ _ (source_capability slot d.irq)) (by_source d.irq _ _ filed)
  where
    by_source : (irq : Bool) (caps : List Capability) (s : GrantState) → AreNumbered caps s → AreNumbered (caps ++ source_capability slot irq) (if irq then with_source s slot else s)
    by_source false caps s so = rw (append-nil caps) so
    by_source true caps s so = source_numbered caps s slot so

devices_numbered : (slot : ℕ) (ds : List DeviceSpec) (caps : List Capability) (s : GrantState)
    → AreNumbered caps s
    → AreNumbered (caps ++ capabilities_from slot ds) (with_devices slot ds s)
devices_numbered slot [] caps s so = rw (append-nil caps) so
devices_numbered slot (d ∷ ds) caps s so =
    rw (sym (append_assoc caps (device_capabilities slot d) (capabilities_from (slot + 1) ds)))
    (devices_numbered (slot + 1) ds (caps ++ device_capabilities slot d) (with_device slot d s) (device_numbered slot d caps s so))

pub no_source : (slots slot : ℕ) → slice_index_or {A = Option ℕ} (replicate slots None) slot None ≡ None
no_source zero slot = refl
no_source (suc slots) zero = refl
no_source (suc slots) (suc slot) = no_source slots slot

-- the grants of a machine
pub machine_numbered : (m : Machine) → AreNumbered (capabilities m) (machine_grants m)
machine_numbered m = devices_numbered 0 m.device [] (no_grants m.ram) none
  where
    none : AreNumbered [] (no_grants m.ram)
    none = record {
      ranges = All-nil (IsAtItsNumber []);
      sources = λ slot number is. let free : slice_index_or (replicate 8 None) slot None ≡ None = no_source 8 slot in absurd (cc);
      taken = refl;
    }
