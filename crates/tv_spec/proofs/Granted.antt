-- The replies of the services fit the actions that go to them, where each range that a device may reach lies in memory.
use Rattle.std.proofs.Common.{◌≡◌, ◌≢◌, ℕ, zero, suc, ◌+◌, ◌<◌, ◌≤◌, Bool, true, false, ◌&&◌, ◌||◌, List, [], ◌∷◌, length, drop, refl, arith}
use Rattle.std.specs.List.{All}
use Rattle.std.proofs.lemmas.Bool.Decides.{nat_tests}
use Rattle.std.proofs.lemmas.List.{length-take-le, length-drop}
use Rattle.tv_grants.specs.Grants.{is_allowed, is_granted, is_in_range, may_touch, right_to}
use Rattle.tv_grants.proofs.Bytes.{each_at}
use Rattle.tv_items.specs.declared.action.Action.{Action}
use Rattle.tv_items.specs.declared.action.Action.TheVariants as action
use Rattle.tv_items.specs.declared.action.Heard.TheVariants as heard
use Rattle.tv_items.specs.declared.action.Way.TheVariants.{Outside}
use Rattle.tv_items.specs.Fits.{FitsAction, way_of}
use Rattle.tv_machine.specs.declared.kinds.MemRange.{MemRange}
use Rattle.tv_machine.specs.Valid.{IsInRam}
use Rattle.tv_ram.specs.Memory.{bytes_at, ram_base, ram_offset}
use Rattle.tv_spec.specs.Direct.{direct, granted, is_permitted}
use Rattle.tv_spec.specs.LocalState.{LocalState}
use Rattle.tv_spec.specs.Setup.{DeviceSetup, Setup}
use Rattle.tv_spec.specs.State.{State, device_in}
use Rattle.tv_spec.proofs.Serving.{RepliesFit}

-- a byte that is granted lies in memory
byte_inside : (bytes right addr : ℕ) (mem : List MemRange) → All (IsInRam bytes) mem → is_granted mem right addr ≡ true
    → (ram_base ≤ addr) × (addr < ram_base + bytes)
byte_inside bytes right addr [] within h = cc
byte_inside bytes right addr (r ∷ mem) within h =
    by_range (byte_inside bytes right addr mem (λ k other below. within (suc k) other (omega arith))) (is_in_range right addr r) refl h
  where
    first : IsInRam bytes r
    first = within 0 r (omega arith)

    by_range : (is_granted mem right addr ≡ true → (ram_base ≤ addr) × (addr < ram_base + bytes)) → (b : Bool) → is_in_range right addr r ≡ b
        → (b || is_granted mem right addr) ≡ true → (ram_base ≤ addr) × (addr < ram_base + bytes)
    by_range rest true is h =
        let base : ram_base ≤ r.base = first.base in
        let end : r.base + r.len ≤ ram_base + bytes = first.end in
        (grind (arith, nat_tests), grind (arith, nat_tests))
    by_range rest false is h = rest h

-- so a read that is allowed gives as many bytes as it asks for
read_length : (ram : List ℕ) (addr n : ℕ) → ((i : ℕ) → i < n → (ram_base ≤ addr + i) × (addr + i < ram_base + length ram)) → length (bytes_at ram addr n) ≡ n
read_length ram addr zero each = refl
read_length ram addr (suc n) each =
    let low : ram_base ≤ addr + 0 = (each 0 (omega arith)).0 in
    let high : addr + n < ram_base + length ram = (each n (omega arith)).1 in
    length-take-le (suc n) (drop (ram_offset addr) ram) (rw length-drop (omega arith))

pub allowed_inside : (bytes right addr n : ℕ) (mem : List MemRange) (withdrawn : List Bool) → All (IsInRam bytes) mem → is_allowed mem withdrawn right addr n ≡ true
    → (i : ℕ) → i < n → (ram_base ≤ addr + i) × (addr + i < ram_base + bytes)
allowed_inside bytes right addr n mem withdrawn within h i below =
    let touched : may_touch mem withdrawn right (addr + i) ≡ true = each_at n (λ k. may_touch mem withdrawn right (addr + k)) h i below in
    byte_inside bytes right (addr + i) mem within (first_of (is_granted mem right (addr + i)) _ touched)
  where
    first_of : (a b : Bool) → (a && b) ≡ true → a ≡ true
    first_of true b e = refl
    first_of false b e = e

pub direct_fits : (setup : DeviceSetup) (slot : ℕ) (local : LocalState) (withdrawn : List Bool) (a : Action) → All (IsInRam (length local.ram)) setup.mem
    → way_of a ≢ Outside → FitsAction a (direct setup slot local withdrawn a).heard
direct_fits setup slot local withdrawn a within inside = by_bool (is_permitted setup withdrawn a) refl
  where
    by_refused : (x : Action) → way_of x ≢ Outside → FitsAction x heard.Refused
    by_refused (action.Read addr len) goes = tt
    by_refused (action.Write addr bytes) goes = tt
    by_refused (action.Release page hold) goes = tt
    by_refused (action.Regain page) goes = tt
    by_refused action.Raise goes = tt
    by_refused (action.DiskRead sector) goes = goes refl
    by_refused (action.DiskWrite sector bytes) goes = goes refl
    by_refused action.Flush goes = goes refl
    by_refused (action.SetLen sectors) goes = goes refl
    by_refused (action.Put bytes) goes = goes refl
    by_refused (action.Input most) goes = goes refl
    by_refused (action.Random len) goes = goes refl

    by_granted : (x : Action) → way_of x ≢ Outside → is_permitted setup withdrawn x ≡ true → FitsAction x (granted slot local withdrawn x).heard
    by_granted (action.Read addr len) goes e =
        read_length local.ram addr len (allowed_inside (length local.ram) (right_to false) addr len setup.mem withdrawn within e)
    by_granted (action.Write addr bytes) goes e = tt
    by_granted (action.Release page hold) goes e = tt
    by_granted (action.Regain page) goes e = tt
    by_granted action.Raise goes e = tt
    by_granted (action.DiskRead sector) goes e = absurd (goes refl)
    by_granted (action.DiskWrite sector bytes) goes e = absurd (goes refl)
    by_granted action.Flush goes e = absurd (goes refl)
    by_granted (action.SetLen sectors) goes e = absurd (goes refl)
    by_granted (action.Put bytes) goes e = absurd (goes refl)
    by_granted (action.Input most) goes e = absurd (goes refl)
    by_granted (action.Random len) goes e = absurd (goes refl)

    by_bool : (b : Bool) → is_permitted setup withdrawn a ≡ b → FitsAction a (direct setup slot local withdrawn a).heard
    by_bool true e = rw e (by_granted a inside e)
    by_bool false e = rw e (by_refused a inside)

-- in a state whose memory has each range of each device
pub replies_fit : (setup : Setup) (s : State) → ((d : ℕ) → All (IsInRam (length s.local.ram)) (device_in setup.devices d).mem) → RepliesFit setup s
replies_fit setup s within d a inside = direct_fits (device_in setup.devices d) d s.local s.withdrawn a (within d) inside
