-- A core as it begins.
use Rattle.std.proofs.Common.{◌≡◌, ℕ, zero, suc, ◌+◌, ◌<◌, ◌≤◌, if◌then◌else◌, Bool, true, false, List, [], ◌∷◌, length, map, replicate, get_or, Option, Some, None, refl, ap, sym, ◌∙◌, subst, arith}
use Rattle.std.proofs.lemmas.List.{get_or-replicate, get_or_default, length-replicate}
use Rattle.circular_buffer.specs.Buffer.{Buffer, buffer}
use Rattle.tv_base.specs.declared.limits.TheConstants.{DEBUG_RING_BYTES, HARTS}
use Rattle.tv_grants.specs.Grants.{GrantState, no_grants, with_range, with_source}
use Rattle.tv_grants.specs.Machines.{AreTheirs, machine_grants, with_device, with_devices, with_optional, with_ranges}
use Rattle.tv_guest.specs.Guest.{IsFirst}
use Rattle.tv_guest.specs.GuestState.{GuestState}
use Rattle.tv_hart.specs.Hart.{first_hart}
use Rattle.tv_hart.specs.HartState.{HartState}
use Rattle.tv_journal.specs.Entries.{record_count, records_of}
use Rattle.tv_journal.specs.Journals.{JournalState}
use Rattle.tv_machine.specs.Valid.{IsValid}
use Rattle.tv_machine.specs.declared.kinds.DeviceSpec.{DeviceSpec}
use Rattle.tv_machine.specs.declared.kinds.MemRange.{MemRange}
use Rattle.tv_machine.specs.declared.machine.Machine.{Machine}
use Rattle.tv_plan.specs.Devices.{DeviceState}
use Rattle.tv_side.specs.Sides.{SideState, new_side}
use Rattle.tv_spec.specs.declared.Mode.{Mode}
use Rattle.tv_spec.specs.Room.{owed, sum_below}
use Rattle.tv_spec.specs.State.{first_run, first_state}
use Rattle.tv_core.specs.Holds.{Holds, Parts, seen}
use Rattle.tv_core.specs.Seen.{first_seen}
use Rattle.tv_core.specs.Stands.{Stands, StandsFor}

-- 1. Grants: no page is withdrawn

ranges_leave : (slot : ℕ) (ranges : List MemRange) (s : GrantState) → (with_ranges slot ranges s).withdrawn ≡ s.withdrawn
ranges_leave slot [] s = refl
ranges_leave slot (range ∷ ranges) s = ranges_leave slot ranges (with_range s slot range)

optional_leaves : (name : Option (List ℕ)) (s : GrantState) → (with_optional name s).withdrawn ≡ s.withdrawn
optional_leaves None s = refl
optional_leaves (Some name) s = refl

source_leaves : (slot : ℕ) (irq : Bool) (s : GrantState) → (if irq then with_source s slot else s).withdrawn ≡ s.withdrawn
source_leaves slot true s = refl
source_leaves slot false s = refl

device_leaves : (slot : ℕ) (d : DeviceSpec) (s : GrantState) → (with_device slot d s).withdrawn ≡ s.withdrawn
device_leaves slot d s =
    let ranged : GrantState = with_ranges slot d.mem s in
    let disked : GrantState = with_optional d.disk ranged in
    let writing : GrantState = with_optional d.output disked in
    source_leaves slot d.irq (with_optional d.input writing)
    ∙ optional_leaves d.input writing ∙ optional_leaves d.output disked ∙ optional_leaves d.disk ranged ∙ ranges_leave slot d.mem s

devices_leave : (slot : ℕ) (ds : List DeviceSpec) (s : GrantState) → (with_devices slot ds s).withdrawn ≡ s.withdrawn
devices_leave slot [] s = refl
devices_leave slot (d ∷ ds) s = devices_leave (slot + 1) ds (with_device slot d s) ∙ device_leaves slot d s

-- 2. Nothing is owed

sum_none : (n : ℕ) (f : ℕ → ℕ) → ((j : ℕ) → f j ≡ 0) → sum_below n f ≡ 0
unfolding sum_below
sum_none zero f each = refl
sum_none (suc n) f each = rw (sum_none n f each, each n) refl

nothing_owed : (machine : Machine) (image : List ℕ) → owed (first_state machine image) ≡ 0
nothing_owed machine image = rw (sum_none 8 (λ hart. 0) (λ j. refl)) refl

no_record : record_count [] ≡ 0
unfolding record_count records_of
no_record = refl

-- 3. All

first_side : (tube : ℕ) (now : Mode) (device : DeviceState) → StandsFor tube now (first_run device) (new_side tube)
first_side tube now device = record {
  tube_is = refl;
  made = refl;
  harts = let none : Option ℕ = None in length-replicate HARTS none;
  commands = refl;
  replies = refl;
  transit = (record { memory = refl; interrupts = refl }, refl);
  told = λ is. cc;
}

-- the fields as they begin, over this guest
first_parts : Machine → List ℕ → GuestState → Parts
first_parts machine image guest = record {
  machine = machine;
  image = image;
  guest = guest;
  grants = machine_grants machine;
  sides = replicate (length machine.device) (new_side machine.tube);
  waits = replicate HARTS false;
  ring = buffer [] DEBUG_RING_BYTES;
  handed = 0;
  journal = record {
    entries = [];
    outer = None;
    record_room = machine.journal_entries;
    payload_room = machine.journal_bytes;
    reserved_records = 0;
    reserved_bytes = 0;
  };
  seat = 0;
}

first_stands : (machine : Machine) (image : List ℕ) (guest : GuestState) → IsFirst guest machine image
    → Stands machine.tube guest (machine_grants machine).withdrawn (replicate (length machine.device) (new_side machine.tube)) (replicate HARTS false) 0 (first_state machine image)
first_stands machine image guest first = record {
  local_is = sym first.local;
  withdrawn_is = sym (devices_leave 0 machine.device (no_grants machine.ram));
  mode_is = sym first.mode_is;
  events_are = sym first.events;
  each_hart = λ h any lt. (
      let same : first_hart h ≡ get_or guest.harts h any = sym (first.each h) ∙ get_or_default guest.harts h (first_hart h) any lt in
      (same, ap (λ (x : HartState). x.waits) (sym same)));
  each_side = λ d any lt.
      let within : d < length machine.device = (let r : d < length machine.device = rw length-replicate at lt in r) in
      rw (get_or-replicate (length machine.device) d (new_side machine.tube) any within) (first_side machine.tube _ _);
  each_wait = λ d any h lt hn.
      let within : d < length machine.device = (let r : d < length machine.device = rw length-replicate at lt in r) in
      let none : Option ℕ = None in
      rw (get_or-replicate (length machine.device) d (new_side machine.tube) any within) (get_or-replicate HARTS h none none hn);
  flags = length-replicate HARTS false;
  each_flag = λ h hn. get_or-replicate HARTS h false false hn;
  reserved_is = sym (nothing_owed machine image);
}

first_holds : (machine : Machine) (image : List ℕ) (guest : GuestState) → IsValid machine → length image ≤ machine.ram → IsFirst guest machine image
    → AreTheirs machine.device (machine_grants machine) → Holds (first_parts machine image guest)
unfolding first_parts
first_holds machine image guest valid fits first theirs = record {
  valid = valid;
  fits = fits;
  place = tt;
  legal = tt;
  ends = tt;
  harts = first.count;
  steps = first.steps;
  slots = length-replicate (length machine.device) (new_side machine.tube);
  stands = first_stands machine image guest first;
  theirs = theirs;
  ring_is = refl;
  handed = omega arith;
  record_room = refl;
  payload_room = refl;
  no_bytes = refl;
  room = rw (no_record, nothing_owed machine image) (omega arith);
}

told_none : (n : ℕ) (side : SideState) → map (λ (x : SideState). x.told) (replicate n side) ≡ replicate n side.told
told_none zero side = refl
told_none (suc n) side = ap (λ (bs : List Bool). side.told ∷ bs) (told_none n side)

-- 4. The call

pub new_call : (machine copy : Machine) (image bytes : List ℕ) (guest : GuestState) (grants : GrantState) (sides : List SideState) (ring : Buffer ℕ) (journal : JournalState)
    → copy ≡ machine → bytes ≡ image → IsFirst guest machine image → grants ≡ machine_grants machine → AreTheirs machine.device grants
    → sides ≡ replicate (length machine.device) (new_side machine.tube) → ring ≡ buffer [] DEBUG_RING_BYTES
    → journal ≡ record { entries = []; outer = None; record_room = machine.journal_entries; payload_room = machine.journal_bytes; reserved_records = 0; reserved_bytes = 0 }
    → IsValid machine → length image ≤ machine.ram
    → Holds (record {
      machine = copy;
      image = bytes;
      guest = guest;
      grants = grants;
      sides = sides;
      waits = false ∷ false ∷ false ∷ false ∷ false ∷ false ∷ false ∷ false ∷ [];
      ring = ring;
      handed = 0;
      journal = journal;
      seat = 0;
    })
    × (seen (record {
      machine = copy;
      image = bytes;
      guest = guest;
      grants = grants;
      sides = sides;
      waits = false ∷ false ∷ false ∷ false ∷ false ∷ false ∷ false ∷ false ∷ [];
      ring = ring;
      handed = 0;
      journal = journal;
      seat = 0;
    }) ≡ first_seen machine image)
unfolding first_parts
new_call machine copy image bytes guest grants sides ring journal copy_is bytes_are first grants_are theirs sides_are ring_is journal_is valid fits =
    let of_machine : AreTheirs machine.device (machine_grants machine) = subst (λ (g : GrantState). AreTheirs machine.device g) grants_are theirs in
    rw (copy_is, bytes_are, grants_are, sides_are, ring_is, journal_is) (
      first_holds machine image guest valid fits first of_machine,
      rw (told_none (length machine.device) (new_side machine.tube)) refl,
    )
