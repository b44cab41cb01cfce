-- What each state of a legal run of a valid machine has of its memory and its devices.
use Rattle.std.proofs.Common.{◌≡◌, ℕ, ◌+◌, ◌-◌, ◌<◌, ◌≤◌, Bool, true, false, List, [], ◌∷◌, length, length-set, refl, ap, ◌∙◌, arith}
use Rattle.std.proofs.lemmas.List.{take-append-drop}
use Rattle.std.specs.Prelude.{if◌then◌else◌, slice_set}
use Rattle.std.specs.List.{All, slice_get}
use Rattle.tv_base.specs.declared.limits.TheConstants.{PAGE_BYTES}
use Rattle.tv_grants.specs.Grants.{first_page, right_to}
use Rattle.tv_items.specs.declared.action.Action.{Action}
use Rattle.tv_items.specs.declared.action.Action.TheVariants as action
use Rattle.tv_machine.specs.Valid.{IsInRam}
use Rattle.tv_plan.specs.Devices.{DeviceState}
use Rattle.tv_ram.specs.Memory.{page_base, ram_base, ram_offset, zeros}
use Rattle.tv_ram.proofs.Inside.{length_zeros}
use Rattle.tv_script.specs.Services.{Next, Asks, Rests, Loses}
use Rattle.tv_journal.specs.declared.Entry.TheVariants as entry
use Rattle.tv_spec.specs.declared.Shown.TheVariants as shown
use Rattle.tv_spec.specs.Devices.{next_of}
use Rattle.tv_spec.specs.Direct.{direct, granted, is_permitted, overwritten, zeroed}
use Rattle.tv_spec.specs.LocalState.{LocalState, lines_of}
use Rattle.tv_spec.specs.Reach.{all_open}
use Rattle.tv_spec.specs.Setup.{DeviceSetup, Setup}
use Rattle.tv_spec.specs.State.{State, device_in}
use Rattle.tv_spec.specs.Step.{Move, made, ended, Can, done, after_event, event_of, served}
use Rattle.tv_spec.proofs.Granted.{allowed_inside}
use Rattle.tv_spec.proofs.Memory.{IsPlace, bytes_kept, place_stepped}
use Rattle.tv_spec.proofs.Rest.{beside_issued, beside_landed, beside_noted, beside_took}

-- memory has so many bytes and so many pages, and there are as many devices as the machine has
pub record IsWhole (setup : Setup) (bytes pages : ℕ) (s : State) : Type 0 where
  pub ram : length s.local.ram ≡ bytes
  pub count : s.local.devices ≡ length setup.devices
  pub withdrawn : length s.withdrawn ≡ pages

-- each range of each device lies in memory of so many bytes
abbrev pub AreInRam : ℕ → List DeviceSetup → Type 0
AreInRam bytes devices = (slot : ℕ) → All (IsInRam bytes) (device_in devices slot).mem

-- the place after an event of a hart
pub event_place : (setup : Setup) (bytes pages : ℕ) (s : State) (hart : ℕ) → IsWhole setup bytes pages s → IsPlace bytes (length setup.devices) all_open (event_of s hart).2
event_place setup bytes pages s hart w =
    place_stepped bytes (length setup.devices) all_open (s.harts hart) (record { local = s.local; closed = all_open; shown = shown.Nothing }) (lines_of s.local hart)
    (record { ram = w.ram; count = w.count; gate = refl; seen = tt })

-- an action that is permitted replaces bytes that lie in memory
overwritten_kept : (local : LocalState) (addr : ℕ) (bytes : List ℕ)
    → ((i : ℕ) → i < length bytes → (ram_base ≤ addr + i) × (addr + i < ram_base + length local.ram))
    → length (overwritten local addr bytes).ram ≡ length local.ram
overwritten_kept local addr [] each = ap (λ (xs : List ℕ). length xs) (take-append-drop (ram_offset addr) local.ram)
overwritten_kept local addr (b ∷ bytes) each =
    let low : ram_base ≤ addr + 0 = (each 0 (omega arith)).0 in
    let high : addr + length bytes < ram_base + length local.ram = (each (length bytes) (omega arith)).1 in
    bytes_kept local.ram addr (b ∷ bytes) (omega arith) (omega arith)

zeroed_kept : (local : LocalState) (page : ℕ)
    → ((i : ℕ) → i < PAGE_BYTES → (ram_base ≤ page_base page + i) × (page_base page + i < ram_base + length local.ram))
    → length (zeroed local page).ram ≡ length local.ram
zeroed_kept local page each =
    let count : length (zeros 4096) ≡ 4096 = length_zeros 4096 in
    let low : ram_base ≤ page_base page + 0 = (each 0 (omega arith)).0 in
    let high : page_base page + 4095 < ram_base + length local.ram = (each 4095 (omega arith)).1 in
    bytes_kept local.ram (page_base page) (zeros 4096) (omega arith) (rw count (omega arith))

-- a service leaves the size of memory, and its pages
record IsDirect (bytes pages devices : ℕ) (local : LocalState) (withdrawn : List Bool) : Type 0 where
  pub ram : length local.ram ≡ bytes
  pub count : local.devices ≡ devices
  pub withdrawn_is : length withdrawn ≡ pages

direct_kept : (setup : DeviceSetup) (slot devices pages : ℕ) (local : LocalState) (withdrawn : List Bool) (a : Action) → All (IsInRam (length local.ram)) setup.mem
    → local.devices ≡ devices → length withdrawn ≡ pages
    → IsDirect (length local.ram) pages devices (direct setup slot local withdrawn a).local (direct setup slot local withdrawn a).withdrawn
direct_kept setup slot devices pages local withdrawn a within count many = by_bool (is_permitted setup withdrawn a) refl
  where
    same : IsDirect (length local.ram) pages devices local withdrawn
    same = record { ram = refl; count = count; withdrawn_is = many }

    held : (hold : Bool) (page : ℕ) → length (if hold then slice_set withdrawn (page - first_page) true else withdrawn) ≡ pages
    held true page = length-set withdrawn (page - first_page) true ∙ many
    held false page = many

    by_permitted : (x : Action) → is_permitted setup withdrawn x ≡ true
        → IsDirect (length local.ram) pages devices (granted slot local withdrawn x).local (granted slot local withdrawn x).withdrawn
    by_permitted (action.Read addr len) e = same
    by_permitted (action.Write addr bytes) e = record {
      ram = overwritten_kept local addr bytes (allowed_inside (length local.ram) (right_to true) addr (length bytes) setup.mem withdrawn within e);
      count = count;
      withdrawn_is = many;
    }
    by_permitted (action.Release page hold) e = record {
      ram = zeroed_kept local page (allowed_inside (length local.ram) (right_to true) (page_base page) PAGE_BYTES setup.mem [] within e);
      count = count;
      withdrawn_is = held hold page;
    }
    by_permitted (action.Regain page) e = record { ram = refl; count = count; withdrawn_is = length-set withdrawn (page - first_page) false ∙ many }
    by_permitted action.Raise e = record { ram = refl; count = count; withdrawn_is = many }
    by_permitted (action.DiskRead sector) e = same
    by_permitted (action.DiskWrite sector bytes) e = same
    by_permitted action.Flush e = same
    by_permitted (action.SetLen sectors) e = same
    by_permitted (action.Put bytes) e = same
    by_permitted (action.Input most) e = same
    by_permitted (action.Random len) e = same

    by_bool : (b : Bool) → is_permitted setup withdrawn a ≡ b
        → IsDirect (length local.ram) pages devices (direct setup slot local withdrawn a).local (direct setup slot local withdrawn a).withdrawn
    by_bool true e = rw e (by_permitted a e)
    by_bool false e = rw e same

whole_served : (setup : Setup) (bytes pages : ℕ) (s : State) (d : ℕ) (n : Next DeviceState) → AreInRam bytes setup.devices → IsWhole setup bytes pages s
    → IsWhole setup bytes pages (served setup s d n)
whole_served setup bytes pages s d (Rests state) within w = w
whole_served setup bytes pages s d (Loses state) within w = w
whole_served setup bytes pages s d (Asks action) within w =
    let k = direct_kept (device_in setup.devices d) d (length setup.devices) pages s.local s.withdrawn action (rw w.ram (within d)) w.count w.withdrawn in
    record { ram = k.ram ∙ w.ram; count = k.count; withdrawn = k.withdrawn_is }

whole_beside : (setup : Setup) (bytes pages : ℕ) (s t : State) → t.local ≡ s.local → t.withdrawn ≡ s.withdrawn → IsWhole setup bytes pages s → IsWhole setup bytes pages t
whole_beside setup bytes pages s t local_is withdrawn_is w =
    record { ram = rw local_is w.ram; count = rw local_is w.count; withdrawn = rw withdrawn_is w.withdrawn }

pub whole_done : (setup : Setup) (bytes pages : ℕ) (s : State) (move : Move) → AreInRam bytes setup.devices → Can setup s move → IsWhole setup bytes pages s
    → IsWhole setup bytes pages (done setup s move)
whole_done setup bytes pages s (made (entry.Hart h)) within can w =
    let b = beside_issued h (event_of s h).2.shown (after_event setup s h) in
    let p = event_place setup bytes pages s h w in
    record { ram = rw b.local_is p.ram; count = rw b.local_is p.count; withdrawn = rw b.withdrawn_is w.withdrawn }
whole_done setup bytes pages s (made (entry.Take d)) within can w =
    let b = beside_took s d (slice_get (s.devs d).made (s.devs d).acted) in
    whole_beside setup bytes pages s _ b.local_is b.withdrawn_is w
whole_done setup bytes pages s (made (entry.Send d)) within can w = record { ram = w.ram; count = w.count; withdrawn = w.withdrawn }
whole_done setup bytes pages s (made (entry.ServeMem d)) within can w =
    let k = whole_served setup bytes pages s d (next_of (s.devs d)) within w in record { ram = k.ram; count = k.count; withdrawn = k.withdrawn }
whole_done setup bytes pages s (made (entry.ServeIrq d)) within can w =
    let k = whole_served setup bytes pages s d (next_of (s.devs d)) within w in record { ram = k.ram; count = k.count; withdrawn = k.withdrawn }
whole_done setup bytes pages s (made (entry.Got d)) within can w = record { ram = w.ram; count = w.count; withdrawn = w.withdrawn }
whole_done setup bytes pages s (made (entry.Reply d)) within can w =
    let b = beside_noted s d (s.devs d).due in whole_beside setup bytes pages s _ b.local_is b.withdrawn_is w
whole_done setup bytes pages s (made (entry.Deliver d)) within can w =
    let b = beside_landed s d (s.devs d).replied in whole_beside setup bytes pages s _ b.local_is b.withdrawn_is w
whole_done setup bytes pages s (made (entry.Intend d)) within can w = record { ram = w.ram; count = w.count; withdrawn = w.withdrawn }
whole_done setup bytes pages s (made (entry.Did d heard)) within can w = record { ram = w.ram; count = w.count; withdrawn = w.withdrawn }
whole_done setup bytes pages s (made (entry.Tick n)) within can w = record { ram = w.ram; count = w.count; withdrawn = w.withdrawn }
whole_done setup bytes pages s (ended cause) within can w = record { ram = w.ram; count = w.count; withdrawn = w.withdrawn }
