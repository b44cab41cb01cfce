-- The monitor as a run begins.
use Rattle.std.proofs.Common.{◌≡◌, ℕ, zero, suc, ◌+◌, ◌/◌, ◌<◌, ◌≤◌, Bool, true, false, if◌then◌else◌, List, [], ◌∷◌, ◌++◌, length, map, take, replicate, get_or, Option, Some, None, refl, ap, sym, ◌∙◌, subst, arith}
use Rattle.std.specs.List.{slice_get}
use Rattle.std.proofs.lemmas.List.{length-map, map-append, take_more}
use Rattle.tv_base.specs.declared.limits.TheConstants.{PAGE_BYTES}
use Rattle.tv_grants.specs.Grants.{GrantState, no_grants, with_range, with_source}
use Rattle.tv_grants.specs.Machines.{AreTheirs, machine_grants, ranges_in, source_in, with_device, with_devices, with_optional, with_ranges}
use Rattle.tv_guest.specs.Direct.{granted_to}
use Rattle.tv_guest.specs.Guest.{IsFirst as IsFirstGuest}
use Rattle.tv_guest.specs.GuestState.{GuestState}
use Rattle.tv_guest.proofs.Bursts.{same_state}
use Rattle.tv_machine.specs.declared.kinds.DeviceSpec.{DeviceSpec}
use Rattle.tv_machine.specs.declared.kinds.MemRange.{MemRange}
use Rattle.tv_machine.specs.declared.machine.Machine.{Machine}
use Rattle.tv_machine.specs.Valid.{IsValid}
use Rattle.tv_plan.specs.Devices.{DeviceState}
use Rattle.tv_spec.specs.declared.Pending.{Pending}
use Rattle.tv_spec.specs.Setup.{DeviceSetup, Setup, device_setup, first_device, first_devices, setup_of}
use Rattle.tv_spec.specs.State.{DeviceRun, State, first_in, first_run, first_state}
use Rattle.tv_spec.proofs.Updates.{same_function}
use Rattle.tv_spec.proofs.Valid.{HasRun, run_first, valid_ranges}
use Rattle.tv_spec.proofs.Whole.{AreInRam}
use Rattle.tv_model.specs.Monitor.{AreDevices, IsFirst, IsMonitor}
use Rattle.tv_model.specs.MonitorState.{MonitorState, SlotState, grants_from, no_slot, run_at, setup_in}
use Rattle.tv_model.specs.Parts.{run_of}
use Rattle.tv_model.proofs.Rooms.{run_mapped}

-- 1. Grants

grants_are : (grants : GrantState) (slot : ℕ) (devices : List DeviceSpec) → ((k : ℕ) (d : DeviceSpec) → slice_get devices k ≡ Some d → granted_to grants (slot + k) ≡ device_setup d)
    → grants_from grants slot (length devices) ≡ map device_setup devices
grants_are grants slot [] each = refl
grants_are grants slot (d ∷ devices) each =
    let here : slot + 0 ≡ slot = omega arith in
    ap (λ (s : DeviceSetup). s ∷ grants_from grants (slot + 1) (length devices)) (ap (granted_to grants) (sym here) ∙ each 0 d refl)
    ∙ ap (λ (ds : List DeviceSetup). device_setup d ∷ ds)
    (grants_are grants (slot + 1) devices (λ k e is. let same : slot + 1 + k ≡ slot + suc k = omega arith in ap (granted_to grants) same ∙ each (suc k) e is))

their_grants : (grants : GrantState) (devices : List DeviceSpec) → AreTheirs devices grants → grants_from grants 0 (length devices) ≡ map device_setup devices
their_grants grants devices theirs =
    grants_are grants 0 devices (λ k d is.
    let same : 0 + k ≡ k = omega arith in
    ap (granted_to grants) same ∙ (λ i. record { mem = (theirs.ranges k ∙ ap ranges_in is) i; irq = (theirs.sources k ∙ ap source_in is) i }))

-- no page is withdrawn
ranges_left : (slot : ℕ) (ranges : List MemRange) (s : GrantState) → (with_ranges slot ranges s).withdrawn ≡ s.withdrawn
ranges_left slot [] s = refl
ranges_left slot (r ∷ ranges) s = ranges_left slot ranges (with_range s slot r)

optional_left : (file : Option (List ℕ)) (s : GrantState) → (with_optional file s).withdrawn ≡ s.withdrawn
optional_left None s = refl
optional_left (Some name) s = refl

source_left : (b : Bool) (slot : ℕ) (s : GrantState) → (if b then with_source s slot else s).withdrawn ≡ s.withdrawn
source_left true slot s = refl
source_left false slot s = refl

device_left : (slot : ℕ) (d : DeviceSpec) (s : GrantState) → (with_device slot d s).withdrawn ≡ s.withdrawn
device_left slot d s =
    source_left d.irq slot (with_optional d.input (with_optional d.output (with_optional d.disk (with_ranges slot d.mem s))))
    ∙ optional_left d.input (with_optional d.output (with_optional d.disk (with_ranges slot d.mem s)))
    ∙ optional_left d.output (with_optional d.disk (with_ranges slot d.mem s)) ∙ optional_left d.disk (with_ranges slot d.mem s) ∙ ranges_left slot d.mem s

devices_left : (slot : ℕ) (devices : List DeviceSpec) (s : GrantState) → (with_devices slot devices s).withdrawn ≡ s.withdrawn
devices_left slot [] s = refl
devices_left slot (d ∷ devices) s = devices_left (slot + 1) devices (with_device slot d s) ∙ device_left slot d s

machine_left : (machine : Machine) → (machine_grants machine).withdrawn ≡ replicate (machine.ram / PAGE_BYTES) false
machine_left machine = devices_left 0 machine.device (no_grants machine.ram)

-- 2. Devices

-- where so many slots come before them
first_at : (devices : List DeviceSpec) (n j : ℕ) → get_or (map first_run (first_devices n devices)) j (first_run (first_in 0 None)) ≡ first_run (first_in (n + j) (slice_get devices j))
first_at [] n j = refl
first_at (d ∷ devices) n zero =
    let here : n ≡ n + 0 = omega arith in
    ap (λ (slot : ℕ). first_run (first_device slot d)) here
first_at (d ∷ devices) n (suc j) =
    let there : n + 1 + j ≡ n + suc j = omega arith in
    first_at devices (n + 1) j ∙ ap (λ (slot : ℕ). first_run (first_in slot (slice_get devices j))) there

count_first : (devices : List DeviceSpec) (n : ℕ) → length (first_devices n devices) ≡ length devices
count_first [] n = refl
count_first (d ∷ devices) n = ap (λ (count : ℕ). suc count) (count_first devices (n + 1))

first_runs : (slots : List SlotState) (machine : Machine) (states : List DeviceState) → map run_of slots ≡ map first_run states → AreDevices machine states
    → ◌≡◌ {A = ℕ → DeviceRun} (run_at slots) (first_state machine []).devs
first_runs slots machine states runs devices = same_function _ _ (λ (j : ℕ).
    (let here : 0 + j ≡ j = omega arith in
    run_mapped slots j ∙ ap (λ (rs : List DeviceRun). get_or rs j no_slot.run) (runs ∙ ap (λ (ds : List DeviceState). map first_run ds) devices) ∙ first_at machine.device 0 j
    ∙ ap (λ (slot : ℕ). first_run (first_in slot (slice_get machine.device j))) here))

count_runs : (slots : List SlotState) (machine : Machine) (states : List DeviceState) → map run_of slots ≡ map first_run states → AreDevices machine states → length slots ≡ length machine.device
count_runs slots machine states runs devices =
    sym (length-map slots run_of) ∙ ap (λ (rs : List DeviceRun). length rs) runs ∙ length-map states first_run ∙ ap (λ (ds : List DeviceState). length ds) devices
    ∙ count_first machine.device 0

-- one more of them
pub slots_more : {D : Type 0} → (state : D → DeviceState) (slots : List SlotState) (devices : List D) (i : ℕ) (none : D) (x : SlotState) → i < length devices
    → map run_of slots ≡ map first_run (map state (take i devices)) → x.run ≡ first_run (state (get_or devices i none))
    → map run_of (slots ++ x ∷ []) ≡ map first_run (map state (take (i + 1) devices))
slots_more state slots devices i none x within same x_is =
    map-append run_of slots (x ∷ [])
    ∙ ap (λ (rs : List DeviceRun). rs ++ x.run ∷ []) same ∙ ap (λ (r : DeviceRun). map first_run (map state (take i devices)) ++ r ∷ []) x_is
    ∙ sym (map-append first_run (map state (take i devices)) (state (get_or devices i none) ∷ []))
    ∙ ap (λ (ds : List DeviceState). map first_run ds) (sym (map-append state (take i devices) (get_or devices i none ∷ [])))
    ∙ ap (λ (ds : List _). map first_run (map state ds)) (sym (take_more devices i none within))

no_pending : (n h : ℕ) → ◌≡◌ {A = Option Pending} (get_or (replicate n None) h None) None
no_pending zero h = refl
no_pending (suc n) zero = refl
no_pending (suc n) (suc h) = no_pending n h

-- 3. The monitor

pub monitor_first : (machine : Machine) (image : List ℕ) (states : List DeviceState) (guest : GuestState) (grants : GrantState) (slots : List SlotState) (console : List ℕ)
    → AreDevices machine states → IsFirstGuest guest machine image → grants ≡ machine_grants machine → AreTheirs machine.device grants → map run_of slots ≡ map first_run states → console ≡ []
    → IsFirst (record { guest = guest; grants = grants; slots = slots; pending = replicate 8 None; ticked = false; console = console }) machine image
monitor_first machine image states guest grants slots console devices g grants_are_ theirs runs none = record {
  setup = λ i. record {
    harts = g.count i;
    steps = g.steps i;
    devices = (ap (grants_from grants 0) (count_runs slots machine states runs devices) ∙ their_grants grants machine.device theirs) i;
  };
  state = same_state _ _ (same_function _ _ g.each) (same_function _ _ (no_pending 8)) (first_runs slots machine states runs devices) g.local
      (ap (λ (s : GrantState). s.withdrawn) grants_are_ ∙ machine_left machine) g.mode_is g.events refl;
  console = none;
}

pub monitor_valid : (m : MonitorState) (machine : Machine) (image : List ℕ) → IsValid machine → length image ≤ machine.ram → IsFirst m machine image → IsMonitor m
monitor_valid m machine image valid fits first = record {
  bytes = machine.ram;
  pages = machine.ram / PAGE_BYTES;
  run = let run : HasRun (setup_of machine) machine.ram (machine.ram / PAGE_BYTES) (first_state machine image) = run_first machine image valid fits in
      subst (λ (s : State). HasRun (setup_in m) machine.ram (machine.ram / PAGE_BYTES) s) (sym first.state)
      (subst (λ (s : Setup). HasRun s machine.ram (machine.ram / PAGE_BYTES) (first_state machine image)) (sym first.setup) run);
  within = subst (λ (s : Setup). AreInRam machine.ram s.devices) (sym first.setup) (valid_ranges machine valid);
  memory = let pages = valid.pages in omega (arith, pages);
  steps = let steps = ap (λ (s : Setup). s.steps) first.setup in let most = valid.steps.1 in omega (arith, steps, most);
  few = let harts = ap (λ (s : Setup). s.harts) first.setup in let most = valid.harts.1 in omega (arith, harts, most);
}
