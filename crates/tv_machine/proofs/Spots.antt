-- Places in lists of capabilities.
use Rattle.std.proofs.Common.{◌≡◌, ◌≢◌, ◌<◌, ◌≤◌, ℕ, zero, suc, ◌+◌, ◌-◌, Bool, true, false, List, [], ◌∷◌, ◌++◌, map, length, refl, arith, Option, Some, None, slice_set, slice_index_or, ap, ◌∙◌, sym, subst, drop}
use Rattle.std.specs.Prelude.{slice_get, option_and_then, option_to_list}
use Rattle.std.proofs.lemmas.List.{drop_more}
use Rattle.std.proofs.lemmas.Option.{slice_get-get_or}
use Rattle.tv_machine.specs.declared.kinds.DeviceSpec.{DeviceSpec}
use Rattle.tv_machine.specs.declared.capabilities.Spot.{Spot}
use Rattle.tv_machine.specs.declared.capabilities.Spot.TheVariants as spot
use Rattle.tv_machine.specs.Capabilities.{Capability, memory, disk, output, input, source, spot_of, spot_at, resized_at, sectors_at, slot_of_disk, device_capabilities, source_capability, capabilities_from}

-- a place among the first ones
pub spot-among : {A : Type 0} (f : A → Capability) (s : Spot) (xs : List A) (rest : List Capability) (at : ℕ)
    → ((x : A) → spot_of (f x) ≡ s) → at < length xs → spot_at (map f xs ++ rest) at ≡ s
spot-among f s [] rest at each below = absurd (omega arith)
spot-among f s (x ∷ xs) rest zero each below = each x
spot-among f s (x ∷ xs) rest (suc at) each below = spot-among f s xs rest at each (omega arith)

-- a place past the first ones
pub spot-past : {A : Type 0} (f : A → Capability) (xs : List A) (rest : List Capability) (at : ℕ)
    → length xs ≤ at → spot_at (map f xs ++ rest) at ≡ spot_at rest (at - length xs)
spot-past f [] rest at past = let e : at - 0 ≡ at = omega arith in rw e
spot-past f (x ∷ xs) rest zero past = absurd (omega arith)
spot-past f (x ∷ xs) rest (suc at) past =
    let e : suc at - suc (length xs) ≡ at - length xs = omega arith in
    rw e (spot-past f xs rest at (omega arith))

-- the slot of a capability
abbrev pub slot_of : Capability → ℕ
slot_of (memory slot range) = slot
slot_of (disk slot name) = slot
slot_of (output slot name) = slot
slot_of (input slot name) = slot
slot_of (source slot) = slot

-- capabilities of one slot
abbrev pub AreOf : ℕ → List Capability → Type 0
AreOf slot [] = Unit {0}
AreOf slot (c ∷ caps) = (slot_of c ≡ slot) × AreOf slot caps

of-map : {A : Type 0} (slot : ℕ) (f : A → Capability) (xs : List A) (rest : List Capability)
    → ((x : A) → slot_of (f x) ≡ slot) → AreOf slot rest → AreOf slot (map f xs ++ rest)
of-map slot f [] rest each more = more
of-map slot f (x ∷ xs) rest each more = (each x, of-map slot f xs rest each more)

of-source : (slot : ℕ) (irq : Bool) → AreOf slot (source_capability slot irq)
of-source slot false = tt
of-source slot true = (refl, tt)

-- a device's capabilities are of its slot
pub of-device : (slot : ℕ) (d : DeviceSpec) → AreOf slot (device_capabilities slot d)
of-device slot d =
    of-map slot (memory slot) d.mem _ (λ _. refl) (of-map slot (disk slot) (option_to_list d.disk) _ (λ _. refl)
    (of-map slot (output slot) (option_to_list d.output) _ (λ _. refl) (of-map slot (input slot) (option_to_list d.input) _ (λ _. refl)
    (of-source slot d.irq))))

disk-of : (slot : ℕ) (c : Capability) → slot_of c ≡ slot → spot_of c ≡ spot.Disk → slot_of_disk c ≡ Some slot
disk-of slot (disk s name) own is = ap Some own
disk-of slot (memory s range) own is = absurd (cc)
disk-of slot (output s name) own is = absurd (cc)
disk-of slot (input s name) own is = absurd (cc)
disk-of slot (source s) own is = absurd (cc)

other-of : (c : Capability) → spot_of c ≡ spot.Other → slot_of_disk c ≡ None
other-of (disk s name) is = absurd (cc)
other-of (memory s range) is = refl
other-of (output s name) is = refl
other-of (input s name) is = refl
other-of (source s) is = refl

-- the slot of the disk at a number
abbrev pub found : List Capability → ℕ → Option ℕ
found caps at = option_and_then slot_of_disk (slice_get caps at)

pub found-disk : (slot : ℕ) (caps rest : List Capability) (at : ℕ) → AreOf slot caps → spot_at caps at ≡ spot.Disk → found (caps ++ rest) at ≡ Some slot
found-disk slot [] rest at own is = absurd (cc)
found-disk slot (c ∷ caps) rest zero own is = disk-of slot c own.0 is
found-disk slot (c ∷ caps) rest (suc at) own is = found-disk slot caps rest at own.1 is

pub found-other : (caps rest : List Capability) (at : ℕ) → spot_at caps at ≡ spot.Other → found (caps ++ rest) at ≡ None
found-other [] rest at is = absurd (cc)
found-other (c ∷ caps) rest zero is = other-of c is
found-other (c ∷ caps) rest (suc at) is = found-other caps rest at is

pub found-after : (caps rest : List Capability) (at past : ℕ) → spot_at caps at ≡ spot.After past → found (caps ++ rest) at ≡ found rest past
found-after [] rest at past is = let e : at ≡ past = cc in rw e
found-after (memory s range ∷ caps) rest zero past is = absurd (cc)
found-after (disk s name ∷ caps) rest zero past is = absurd (cc)
found-after (output s name ∷ caps) rest zero past is = absurd (cc)
found-after (input s name ∷ caps) rest zero past is = absurd (cc)
found-after (source s ∷ caps) rest zero past is = absurd (cc)
found-after (c ∷ caps) rest (suc at) past is = found-after caps rest at past is

abbrev pub after_disk : ℕ → DeviceSpec → List Capability
after_disk slot d = map (output slot) (option_to_list d.output) ++ (map (input slot) (option_to_list d.input) ++ source_capability slot d.irq)

-- the steps from one kind of capability to the next, over how many there are of each
module _ (slot : ℕ) (d : DeviceSpec) (at ranges disks outputs inputs : ℕ) (r : ranges ≡ length d.mem) (k : disks ≡ length (option_to_list d.disk))
    (o : outputs ≡ length (option_to_list d.output)) (i : inputs ≡ length (option_to_list d.input)) where
  pub in-ranges : at < ranges → spot.Other ≡ spot_at (device_capabilities slot d) at
  in-ranges below = sym (spot-among (memory slot) spot.Other d.mem _ at (λ _. refl) (omega arith))

  pub past-ranges : ranges ≤ at → spot_at (device_capabilities slot d) at ≡ spot_at (map (disk slot) (option_to_list d.disk) ++ after_disk slot d) (at - ranges)
  past-ranges past = rw r (spot-past (memory slot) d.mem _ at (omega arith))

  pub in-disk : ranges ≤ at → at - ranges < disks → spot.Disk ≡ spot_at (device_capabilities slot d) at
  in-disk past below = rw (past-ranges past) (sym (spot-among (disk slot) spot.Disk (option_to_list d.disk) _ _ (λ _. refl) (omega arith)))

  pub past-disk : ranges ≤ at → disks ≤ at - ranges → spot_at (device_capabilities slot d) at ≡ spot_at (after_disk slot d) (at - ranges - disks)
  past-disk past more = past-ranges past ∙ rw k (spot-past (disk slot) (option_to_list d.disk) _ _ (omega arith))

  pub in-output : ranges ≤ at → disks ≤ at - ranges → at - ranges - disks < outputs → spot.Other ≡ spot_at (device_capabilities slot d) at
  in-output past more below = rw (past-disk past more) (sym (spot-among (output slot) spot.Other (option_to_list d.output) _ _ (λ _. refl) (omega arith)))

  pub past-output : ranges ≤ at → disks ≤ at - ranges → outputs ≤ at - ranges - disks
      → spot_at (device_capabilities slot d) at ≡ spot_at (map (input slot) (option_to_list d.input) ++ source_capability slot d.irq) (at - ranges - disks - outputs)
  past-output past more yet = past-disk past more ∙ rw o (spot-past (output slot) (option_to_list d.output) _ _ (omega arith))

  pub in-input : ranges ≤ at → disks ≤ at - ranges → outputs ≤ at - ranges - disks → at - ranges - disks - outputs < inputs
      → spot.Other ≡ spot_at (device_capabilities slot d) at
  in-input past more yet below = rw (past-output past more yet) (sym (spot-among (input slot) spot.Other (option_to_list d.input) _ _ (λ _. refl) (omega arith)))

  pub past-input : ranges ≤ at → disks ≤ at - ranges → outputs ≤ at - ranges - disks → inputs ≤ at - ranges - disks - outputs
      → spot_at (device_capabilities slot d) at ≡ spot_at (source_capability slot d.irq) (at - ranges - disks - outputs - inputs)
  past-input past more yet last = past-output past more yet ∙ rw i (spot-past (input slot) (option_to_list d.input) _ _ (omega arith))

-- no capability of a device without a disk is a disk
abbrev pub AreNoDisks : List Capability → Type 0
AreNoDisks [] = Unit {0}
AreNoDisks (c ∷ caps) = (spot_of c ≡ spot.Other) × AreNoDisks caps

no-disks-map : {A : Type 0} (f : A → Capability) (xs : List A) (rest : List Capability) → ((x : A) → spot_of (f x) ≡ spot.Other) → AreNoDisks rest → AreNoDisks (map f xs ++ rest)
no-disks-map f [] rest each more = more
no-disks-map f (x ∷ xs) rest each more = (each x, no-disks-map f xs rest each more)

no-disks-source : (slot : ℕ) (irq : Bool) → AreNoDisks (source_capability slot irq)
no-disks-source slot false = tt
no-disks-source slot true = (refl, tt)

no-disks-of : (slot : ℕ) (d : DeviceSpec) → d.disk ≡ None → AreNoDisks (device_capabilities slot d)
no-disks-of slot d none = rw none
    (no-disks-map (memory slot) d.mem _ (λ _. refl) (no-disks-map (output slot) (option_to_list d.output) _ (λ _. refl)
    (no-disks-map (input slot) (option_to_list d.input) _ (λ _. refl) (no-disks-source slot d.irq))))

none-found : (caps : List Capability) (at : ℕ) → AreNoDisks caps → spot_at caps at ≢ spot.Disk
none-found [] at none is = absurd (cc)
none-found (c ∷ caps) zero none is = let same : spot.Other ≡ spot.Disk = sym none.0 ∙ is in absurd (cc)
none-found (c ∷ caps) (suc at) none is = none-found caps at none.1 is

-- the device whose disk has a number, counted from a slot on
pub record IsDiskAt (start : ℕ) (ds : List DeviceSpec) (slot : ℕ) : Type 0 where
  pub ahead : ℕ
  pub is : slot ≡ start + ahead
  pub disk_there : (d : DeviceSpec) → (slice_index_or ds ahead d).disk ≢ None

pub disk-at : (start : ℕ) (ds : List DeviceSpec) (at slot : ℕ) → found (capabilities_from start ds) at ≡ Some slot → IsDiskAt start ds slot
disk-at start [] at slot is = absurd (cc)
disk-at start (x ∷ ds) at slot is =
    let caps = device_capabilities start x in
    let rest = capabilities_from (start + 1) ds in
    let split : (s : Spot) → spot_at caps at ≡ s → IsDiskAt start (x ∷ ds) slot =
    elim [
      | spot.Disk ↦ λ here. record {
        ahead = 0;
        is = let same : Some slot ≡ Some start = sym is ∙ found-disk start caps rest at (of-device start x) here in let e : slot ≡ start = cc in omega arith;
        disk_there = λ d none. none-found caps at (no-disks-of start x none) here;
      }
      | spot.Other ↦ λ here. let same : Some slot ≡ None = sym is ∙ found-other caps rest at here in absurd (cc)
      | spot.After past ↦ λ here.
          let behind = disk-at (start + 1) ds past slot (sym (found-after caps rest at past here) ∙ is) in
          record { ahead = suc behind.ahead; is = let e = behind.is in omega arith; disk_there = behind.disk_there }
    ] in
    split (spot_at caps at) refl

pub disk-in : (ds : List DeviceSpec) (at slot : ℕ) → found (capabilities_from 0 ds) at ≡ Some slot → (d : DeviceSpec) → (slice_index_or ds slot d).disk ≢ None
disk-in ds at slot is d =
    let there = disk-at 0 ds at slot is in
    let same : there.ahead ≡ slot = let e = there.is in omega arith in
    subst (λ (n : ℕ). (slice_index_or ds n d).disk ≢ None) same (there.disk_there d)

-- the devices from a slot on
pub drop-next : (ds : List DeviceSpec) (slot : ℕ) (d : DeviceSpec) → slot < length ds → d ≡ slice_index_or ds slot d → drop slot ds ≡ d ∷ drop (slot + 1) ds
drop-next ds slot d below is = drop_more ds slot d below ∙ ap (λ (x : DeviceSpec). x ∷ drop (slot + 1) ds) (sym is)

-- the sectors in a slot
pub sectors-at : (ds : List DeviceSpec) (slot : ℕ) (d : DeviceSpec) → slot < length ds → Some (slice_index_or ds slot d).sectors ≡ sectors_at ds slot
sectors-at ds slot d below = rw (slice_get-get_or ds slot d below)

-- setting a number of sectors in place
pub resized-set : (slot n : ℕ) (ds : List DeviceSpec) (d : DeviceSpec) → slot < length ds → d ≡ slice_index_or ds slot d
    → slice_set ds slot (record d { sectors = n }) ≡ resized_at slot n ds
resized-set slot n [] d below is = absurd (omega arith)
resized-set zero n (x ∷ ds) d below is = ap (λ (y : DeviceSpec). record y { sectors = n } ∷ ds) is
resized-set (suc slot) n (x ∷ ds) d below is = ap (λ t. x ∷ t) (resized-set slot n ds d (omega arith) is)
