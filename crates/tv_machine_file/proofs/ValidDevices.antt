-- Devices of a machine file without a fault are valid.
use Rattle.std.proofs.Common.{◌≡◌, ◌<◌, ◌≤◌, ◌+◌, ◌&&◌, ◌⊎◌, inl, inr, ℕ, zero, suc, Bool, true, false, if◌then◌else◌, nat_le, nat_lt, List, [], ◌∷◌, ◌++◌, length, length-append, codes, Option, Some, None, option_and_then, refl, ap, sym, subst, ◌∙◌, arith, append_assoc, slice_index_or}
use Rattle.std.proofs.lemmas.Bool.{and_parts, or_parts}
use Rattle.std.proofs.lemmas.Bool.Decides.{nat_tests}
use Rattle.std.proofs.lemmas.List.{append-nil}
use Rattle.std.proofs.lemmas.List.Elements.{All-push}
use Rattle.std.proofs.lemmas.List.Quantifiers.{all_pairs_push}
use Rattle.std.specs.List.{All, AllPairs, flat_map}
use Rattle.toml.specs.Data.{Data, as_str, as_array, as_table, Items, no_items, item, Members, get_member}
use Rattle.tv_base.specs.declared.limits.TheConstants.{DEVICES, DEVICE_GRANTS, RAM_BASE}
use Rattle.tv_machine.specs.declared.kinds.DeviceKind.{DeviceKind}
use Rattle.tv_machine.specs.declared.kinds.MemRange.{MemRange}
use Rattle.tv_machine.specs.declared.kinds.DeviceSpec.{DeviceSpec}
use Rattle.tv_machine.specs.Valid.{AreApart, AreDifferent, AreNotBothEntropy, HasFilesOf, IsInRam, IsValidDevice, IsWithin, written_files}
use Rattle.tv_machine_file.specs.declared.keys.TableKind.TheVariants as table_kind
use Rattle.tv_machine_file.specs.DeviceFiles.{AreProbes, all_ram, device_faults, device_list, device_of, device_table_faults, devices_faults, devices_in, devices_of, each_range_faults, kind_at, kind_faults, kind_named, kind_or_probe, lies_in, meets, meets_any, mem_faults, mem_of, natural_at, or_zero, overlap_fault, overlaps, range_faults, range_list, range_of, range_table_faults, ranges_faults, ranges_in, ranges_of, rights_named, rights_of, rights_or_both, slot_faults, slots_faults, slots_of, table_of, whole_faults}
use Rattle.tv_machine_file.specs.Keys.{item_count, key_path, member_path, range_fault, same_text, unknown_faults}
use Rattle.tv_machine_file.proofs.Faultless.{in_range, none_in}

-- 1. A memory range

-- it has rights
rights_named_are : (text : List ℕ) (o : Option ℕ) → rights_named text ≡ o → IsWithin 1 3 (rights_or_both o)
rights_named_are text o is = subst (λ (x : Option ℕ). IsWithin 1 3 (rights_or_both x)) is (by_name (same_text text (codes "r")) (same_text text (codes "w")) (same_text text (codes "rw")))
  where
    by_name : (read write both : Bool) → IsWithin 1 3 (rights_or_both (if read then Some 1 else if write then Some 2 else if both then Some 3 else None))
    by_name true write both = (omega arith, omega arith)
    by_name false true both = (omega arith, omega arith)
    by_name false false true = (omega arith, omega arith)
    by_name false false false = (omega arith, omega arith)

rights_are : (o : Option Data) → IsWithin 1 3 (rights_of o)
rights_are None = (omega arith, omega arith)
rights_are (Some d) = by_text (as_str d)
  where
    by_text : (o : Option (List ℕ)) → IsWithin 1 3 (rights_or_both (option_and_then rights_named o))
    by_text None = (omega arith, omega arith)
    by_text (Some text) = rights_named_are text (rights_named text) refl

-- the range of a table whose bytes lie in memory
in_ram : (ram : ℕ) (base len : Option ℕ) (rights : ℕ) → IsWithin 1 3 rights → lies_in ram base len ≡ true
    → IsInRam ram (record { base = or_zero base; len = or_zero len; rights = record { 0 = rights } })
in_ram ram None len rights within is = absurd (cc)
in_ram ram (Some base) None rights within is = absurd (cc)
in_ram ram (Some base) (Some len) rights within is =
    let (many, more) = and_parts (nat_le 1 len) (nat_le RAM_BASE base && nat_le (base + len) (RAM_BASE + ram)) is in
    let (low, high) = and_parts (nat_le RAM_BASE base) (nat_le (base + len) (RAM_BASE + ram)) more in
    let some : 1 ≤ len = grind (arith, nat_tests) in
    let from : RAM_BASE ≤ base = grind (arith, nat_tests) in
    let end : base + len ≤ RAM_BASE + ram = grind (arith, nat_tests) in
    record { some = some; base = from; end = end; rights = within }

-- one that meets no earlier range is apart from it
not_met : (base len : ℕ) (range : MemRange) → meets base len range ≡ false → (range.base + range.len ≤ base) ⊎ (base + len ≤ range.base)
not_met base len range none = by_test (nat_lt base (range.base + range.len)) (nat_lt range.base (base + len)) refl refl none
  where
    by_test : (low high : Bool) → nat_lt base (range.base + range.len) ≡ low → nat_lt range.base (base + len) ≡ high → low && high ≡ false
        → (range.base + range.len ≤ base) ⊎ (base + len ≤ range.base)
    by_test false high low_is high_is both = inl (grind (arith, nat_tests))
    by_test true false low_is high_is both = inr (grind (arith, nat_tests))
    by_test true true low_is high_is both = absurd (cc)

none_met : (base len : ℕ) (ranges : List MemRange) → meets_any base len ranges ≡ false → (k : ℕ) (d : MemRange) → k < length ranges
    → meets base len (slice_index_or ranges k d) ≡ false
none_met base len [] none k d below = absurd (omega arith)
none_met base len (range ∷ ranges) none zero d below = (or_parts (meets base len range) (meets_any base len ranges) none).0
none_met base len (range ∷ ranges) none (suc k) d below =
    none_met base len ranges (or_parts (meets base len range) (meets_any base len ranges) none).1 k d (omega arith)

no_overlap : (overlap : Bool) (path : List ℕ) → overlap_fault overlap path ≡ [] → overlap ≡ false
no_overlap true path none = absurd (cc)
no_overlap false path none = refl

apart_from : (ram : ℕ) (base len : Option ℕ) (rights : ℕ) (earlier : List MemRange) → lies_in ram base len ≡ true → overlaps base len earlier ≡ false → (k : ℕ) (d : MemRange) → k < length earlier
    → AreApart (slice_index_or earlier k d) (record { base = or_zero base; len = or_zero len; rights = record { 0 = rights } })
apart_from ram None len rights earlier is none k d below = absurd (cc)
apart_from ram (Some base) None rights earlier is none k d below = absurd (cc)
apart_from ram (Some base) (Some len) rights earlier is none k d below =
    let (many, more) = and_parts (nat_le 1 len) (nat_le RAM_BASE base && nat_le (base + len) (RAM_BASE + ram)) is in
    let met : meets_any base len earlier ≡ false = sym (ap (λ (b : Bool). b && meets_any base len earlier) many) ∙ none in
    not_met base len (slice_index_or earlier k d) (none_met base len earlier met k d below)

-- 2. The ranges of a device

pub record AreRanges (ram : ℕ) (ranges : List MemRange) : Type 0 where
  pub in_memory : All (IsInRam ram) ranges
  pub apart : AllPairs AreApart ranges

no_ranges : (ram : ℕ) → AreRanges ram []
no_ranges ram = record { in_memory = λ k d below. absurd (omega arith); apart = λ i j d before below. absurd (omega arith) }

one_more : (path : List ℕ) (ram : ℕ) (earlier : List MemRange) (t : Members) → AreRanges ram earlier → range_table_faults path ram earlier t ≡ [] → AreRanges ram (earlier ++ range_of t ∷ [])
one_more path ram earlier t are none =
    let base : Option ℕ = natural_at (get_member (codes "base") t) in
    let len : Option ℕ = natural_at (get_member (codes "len") t) in
    let (overlap, after_overlap) = none_in (overlap_fault (overlaps base len earlier) path) _ none in
    let (unknown, after_keys) = none_in (unknown_faults table_kind.Range path t) _ after_overlap in
    let (whole_base, after_base) = none_in (whole_faults (key_path path (codes "base")) (get_member (codes "base") t)) _ after_keys in
    let (whole_len, after_len) = none_in (whole_faults (key_path path (codes "len")) (get_member (codes "len") t)) _ after_base in
    let (inside, rights) = none_in (range_fault (lies_in ram base len) (key_path path (codes "len"))) _ after_len in
    let lies : lies_in ram base len ≡ true = in_range (lies_in ram base len) _ inside in
    record {
      in_memory = All-push (IsInRam ram) earlier (range_of t) are.in_memory (in_ram ram base len (rights_of (get_member (codes "rights") t)) (rights_are (get_member (codes "rights") t)) lies);
      apart = all_pairs_push AreApart earlier (range_of t) are.apart (apart_from ram base len (rights_of (get_member (codes "rights") t)) earlier lies (no_overlap (overlaps base len earlier) path overlap));
    }

range_in : (path : List ℕ) (ram : ℕ) (earlier : List MemRange) (o : Option Members) → AreRanges ram earlier → range_faults path ram earlier o ≡ [] → AreRanges ram (earlier ++ range_list o)
range_in path ram earlier None are none = absurd (cc)
range_in path ram earlier (Some t) are none = one_more path ram earlier t are none

ranges_in_items : (path : List ℕ) (ram n : ℕ) (earlier : List MemRange) (ds : Items) → AreRanges ram earlier → each_range_faults path ram n earlier ds ≡ [] → AreRanges ram (earlier ++ ranges_in ds)
ranges_in_items path ram n earlier no_items are none = subst (AreRanges ram) (sym (append-nil earlier)) are
ranges_in_items path ram n earlier (item d ds) are none =
    let (here, more) = none_in (range_faults (member_path path n) ram earlier (as_table d)) (each_range_faults path ram (n + 1) (earlier ++ range_list (as_table d)) ds) none in
    subst (AreRanges ram) (append_assoc earlier (range_list (as_table d)) (ranges_in ds))
    (ranges_in_items path ram (n + 1) (earlier ++ range_list (as_table d)) ds (range_in (member_path path n) ram earlier (as_table d) are here) more)

at_most_one : (o : Option Members) → length (range_list o) ≤ 1
at_most_one None = omega arith
at_most_one (Some t) = omega arith

no_more : (ds : Items) → length (ranges_in ds) ≤ item_count ds
no_more no_items = omega arith
no_more (item d ds) = omega (arith, length-append (range_list (as_table d)) (ranges_in ds), at_most_one (as_table d), no_more ds)

-- those of one without a fault
pub record AreGrants (ram : ℕ) (ranges : List MemRange) : Type 0 where
  pub few : length ranges ≤ DEVICE_GRANTS
  pub are : AreRanges ram ranges

array_grants : (path : List ℕ) (ram : ℕ) (o : Option Items) → ranges_faults path ram o ≡ [] → AreGrants ram (ranges_of o)
array_grants path ram None none = absurd (cc)
array_grants path ram (Some ds) none =
    let (count, each) = none_in (range_fault (nat_le (item_count ds) DEVICE_GRANTS) path) (each_range_faults path ram 0 [] ds) none in
    let fits : nat_le (item_count ds) DEVICE_GRANTS ≡ true = in_range (nat_le (item_count ds) DEVICE_GRANTS) path count in
    let few : item_count ds ≤ DEVICE_GRANTS = grind (arith, nat_tests) in
    record { few = omega (arith, few, no_more ds); are = ranges_in_items path ram 0 [] ds (no_ranges ram) each }

grants : (path : List ℕ) (ram : ℕ) (o : Option Data) → 1 ≤ ram → mem_faults path ram o ≡ [] → AreGrants ram (mem_of ram o)
grants path ram None some none = record {
  few = omega arith;
  are = record {
    in_memory = All-push (IsInRam ram) [] (all_ram ram) (no_ranges ram).in_memory (record { some = some; base = omega arith; end = omega arith; rights = (omega arith, omega arith) });
    apart = all_pairs_push AreApart [] (all_ram ram) (no_ranges ram).apart (λ k d below. absurd (omega arith));
  };
}
grants path ram (Some d) some none = array_grants path ram (as_array d) none

-- 3. A device

named_probe : (text : List ℕ) → kind_or_probe (kind_named text) ≡ DeviceKind.Probe
named_probe text = by_name (same_text text (codes "probe"))
  where
    by_name : (is : Bool) → kind_or_probe (if is then Some DeviceKind.Probe else None) ≡ DeviceKind.Probe
    by_name true = refl
    by_name false = refl

is_probe : (o : Option Data) → kind_or_probe (kind_at o) ≡ DeviceKind.Probe
is_probe None = refl
is_probe (Some d) = by_text (as_str d)
  where
    by_text : (o : Option (List ℕ)) → kind_or_probe (option_and_then kind_named o) ≡ DeviceKind.Probe
    by_text None = refl
    by_text (Some text) = named_probe text

valid_device : (path : List ℕ) (ram : ℕ) (t : Members) → 1 ≤ ram → device_table_faults path ram t ≡ [] → IsValidDevice ram (device_of ram t)
valid_device path ram t some none =
    let (unknown, after_keys) = none_in (unknown_faults (table_of (kind_at (get_member (codes "kind") t))) path t) _ none in
    let (kind, after_kind) = none_in (kind_faults (key_path path (codes "kind")) (get_member (codes "kind") t)) _ after_keys in
    let (mem, irq) = none_in (mem_faults (key_path path (codes "mem")) ram (get_member (codes "mem") t)) _ after_kind in
    let ranges : AreGrants ram (mem_of ram (get_member (codes "mem") t)) = grants (key_path path (codes "mem")) ram (get_member (codes "mem") t) some mem in
    record {
      ranges = ranges.few;
      in_ram = ranges.are.in_memory;
      apart = ranges.are.apart;
      files = subst (λ (k : DeviceKind). HasFilesOf k (device_of ram t)) (sym (is_probe (get_member (codes "kind") t))) (refl, refl, refl, refl);
      sectors = omega arith;
      diskless = λ none. refl;
    }

-- 4. The devices of a machine

pub record AreDevices (ram : ℕ) (devices : List DeviceSpec) : Type 0 where
  pub valid : All (IsValidDevice ram) devices
  pub probes : All (λ device. device.kind ≡ DeviceKind.Probe) devices

device_in : (path : List ℕ) (ram : ℕ) (earlier : List DeviceSpec) (o : Option Members) → 1 ≤ ram → AreDevices ram earlier → device_faults path ram o ≡ [] → AreDevices ram (earlier ++ device_list ram o)
device_in path ram earlier None some are none = absurd (cc)
device_in path ram earlier (Some t) some are none = record {
  valid = All-push (IsValidDevice ram) earlier (device_of ram t) are.valid (valid_device path ram t some none);
  probes = All-push (λ device. device.kind ≡ DeviceKind.Probe) earlier (device_of ram t) are.probes (is_probe (get_member (codes "kind") t));
}

devices_in_items : (path : List ℕ) (ram n : ℕ) (earlier : List DeviceSpec) (ds : Items) → 1 ≤ ram → AreDevices ram earlier → slot_faults path ram n ds ≡ [] → AreDevices ram (earlier ++ devices_in ram ds)
devices_in_items path ram n earlier no_items some are none = subst (AreDevices ram) (sym (append-nil earlier)) are
devices_in_items path ram n earlier (item d ds) some are none =
    let (here, more) = none_in (device_faults (member_path path n) ram (as_table d)) (slot_faults path ram (n + 1) ds) none in
    subst (AreDevices ram) (append_assoc earlier (device_list ram (as_table d)) (devices_in ram ds))
    (devices_in_items path ram (n + 1) (earlier ++ device_list ram (as_table d)) ds some (device_in (member_path path n) ram earlier (as_table d) some are here) more)

one_device : (ram : ℕ) (o : Option Members) → length (device_list ram o) ≤ 1
one_device ram None = omega arith
one_device ram (Some t) = omega arith

not_more : (ram : ℕ) (ds : Items) → length (devices_in ram ds) ≤ item_count ds
not_more ram no_items = omega arith
not_more ram (item d ds) = omega (arith, length-append (device_list ram (as_table d)) (devices_in ram ds), one_device ram (as_table d), not_more ram ds)

-- they write no file
no_files : (ram : ℕ) (ds : Items) → flat_map written_files (devices_in ram ds) ≡ []
no_files ram no_items = refl
no_files ram (item d ds) = by_table (as_table d) (no_files ram ds)
  where
    by_table : (o : Option Members) → flat_map written_files (devices_in ram ds) ≡ [] → flat_map written_files (device_list ram o ++ devices_in ram ds) ≡ []
    by_table None more = more
    by_table (Some t) more = more

-- what holds of those of a machine file without a fault
pub record AreSlots (ram : ℕ) (devices : List DeviceSpec) : Type 0 where
  pub few : length devices ≤ DEVICES
  pub are : AreDevices ram devices
  pub files : flat_map written_files devices ≡ []

none_there : (ram : ℕ) → AreSlots ram []
none_there ram = record {
  few = omega arith;
  are = record { valid = λ k d below. absurd (omega arith); probes = λ k d below. absurd (omega arith) };
  files = refl;
}

array_slots : (path : List ℕ) (ram : ℕ) (o : Option Items) → 1 ≤ ram → slots_faults path ram o ≡ [] → AreSlots ram (slots_of ram o)
array_slots path ram None some none = absurd (cc)
array_slots path ram (Some ds) some none =
    let (count, each) = none_in (range_fault (nat_le (item_count ds) DEVICES) path) (slot_faults path ram 0 ds) none in
    let fits : nat_le (item_count ds) DEVICES ≡ true = in_range (nat_le (item_count ds) DEVICES) path count in
    let few : item_count ds ≤ DEVICES = grind (arith, nat_tests) in
    record {
      few = omega (arith, few, not_more ram ds);
      are = devices_in_items path ram 0 [] ds some (none_there ram).are each;
      files = no_files ram ds;
    }

pub slots : (path : List ℕ) (ram : ℕ) (o : Option Data) → 1 ≤ ram → devices_faults path ram o ≡ [] → AreSlots ram (devices_of ram o)
slots path ram None some none = none_there ram
slots path ram (Some d) some none = array_slots path ram (as_array d) some none

-- 5. What a valid machine asks of them

pub distinct : (devices : List DeviceSpec) → flat_map written_files devices ≡ [] → AllPairs AreDifferent (flat_map written_files devices)
distinct devices none = subst (AllPairs AreDifferent) (sym none) (λ i j d before below. absurd (omega arith))

pub no_entropy : (devices : List DeviceSpec) → All (λ device. device.kind ≡ DeviceKind.Probe) devices → AllPairs AreNotBothEntropy devices
no_entropy devices probes i j d before below entropy other = let probe = probes j d below in cc

pub are_probes : (devices : List DeviceSpec) → All (λ device. device.kind ≡ DeviceKind.Probe) devices → AreProbes devices
are_probes [] probes = tt
are_probes (device ∷ devices) probes = (probes 0 device (omega arith), are_probes devices (λ k d below. probes (suc k) d (omega arith)))
