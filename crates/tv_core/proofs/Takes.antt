-- The call that takes an item.
use Rattle.std.proofs.Common.{◌≡◌, ◌≢◌, ℕ, ◌+◌, ◌<◌, ◌≤◌, inl, inr, Bool, true, false, if◌then◌else◌, List, [], ◌∷◌, ◌++◌, length, map, drop, get_or, set, Option, Some, None, IfSome, IfNone, refl, ap, sym, ◌∙◌, subst, arith, length-set, append-nil}
use Rattle.std.specs.List.{slice_get}
use Rattle.std.proofs.lemmas.Bool.{false≢true, true≢false}
use Rattle.std.proofs.lemmas.Bool.Decides.{leb_tells}
use Rattle.std.proofs.Math.Seq.{map-set_same}
use Rattle.std.proofs.lemmas.List.{drop_all, get_or_default, length-map}
use Rattle.circular_buffer.specs.Buffer.{Buffer, buffer}
use Rattle.tv_base.specs.declared.Why.{Why}
use Rattle.tv_base.specs.declared.Why.TheVariants as why
use Rattle.tv_base.specs.declared.limits.TheConstants.{DEBUG_RING_BYTES}
use Rattle.tv_items.specs.declared.item.Item.{Item}
use Rattle.tv_journal.specs.declared.Entry.{Entry}
use Rattle.tv_journal.specs.declared.Entry.TheVariants as entry
use Rattle.tv_journal.specs.Journals.{JournalState, has_room, pushed}
use Rattle.tv_machine.specs.declared.machine.Machine.{Machine}
use Rattle.tv_side.specs.Sides.{SideState, empty_lane, with_first_item}
use Rattle.tv_spec.specs.declared.Mode.{Mode}
use Rattle.tv_spec.specs.declared.Mode.TheVariants as mode
use Rattle.tv_spec.specs.Devices.{act_on}
use Rattle.tv_spec.specs.Room.{owed}
use Rattle.tv_spec.specs.Setup.{setup_of}
use Rattle.tv_spec.specs.Shows.{cause_in}
use Rattle.tv_spec.specs.declared.Made.{Made}
use Rattle.tv_spec.specs.declared.Phase.{Phase}
use Rattle.tv_spec.specs.State.{State, DeviceRun}
use Rattle.tv_spec.specs.Step.{Can, IsOpen, done, made}
use Rattle.tv_spec.proofs.Owed.{owed_took}
use Rattle.tv_spec.proofs.Updates.{drop_at, some_at}
use Rattle.tv_core.specs.Calls.{EndsNow, RestsNow, TakesNone, TookSo, has_room_in}
use Rattle.tv_core.specs.Holds.{Holds, Parts, seen}
use Rattle.tv_core.specs.Seen.{dev_of, setup_by, state_of, worker_seat}
use Rattle.tv_core.specs.Stands.{AreIdle, between_of, tagged_from}
use Rattle.tv_guest.specs.GuestState.{GuestState}
use Rattle.tv_core.proofs.Ending.{end_holds, open_or, told_holds, told_is}
use Rattle.tv_core.proofs.Entries.{IsWith, entry_holds}
use Rattle.tv_core.proofs.Room.{room_alone, run_of}
use Rattle.tv_core.proofs.Taking.{side_took, took_stands}

-- 1. A push

pub pushed_true : (journal later : JournalState) (e : Entry) (added : Bool) → added ≡ true → ◌≡◌ {A = Bool × JournalState} (added, later) (pushed journal e)
    → (has_room journal e ≡ true) × (later ≡ record journal { entries = journal.entries ++ e ∷ [] })
pushed_true journal later e added yes_ is = by_test (has_room journal e) refl (rw yes_ at is)
  where
    by_test : (b : Bool) → has_room journal e ≡ b
        → ◌≡◌ {A = Bool × JournalState} (true, later) (if b then (true, record journal { entries = journal.entries ++ e ∷ [] }) else (false, journal))
        → (has_room journal e ≡ true) × (later ≡ record journal { entries = journal.entries ++ e ∷ [] })
    by_test true test same = (test, ap (λ (r : Bool × JournalState). r.1) same)
    by_test false test same = absurd (true≢false (ap (λ (r : Bool × JournalState). r.0) same))

pub pushed_false : (journal later : JournalState) (e : Entry) (added : Bool) → added ≡ false → ◌≡◌ {A = Bool × JournalState} (added, later) (pushed journal e)
    → (has_room journal e ≡ false) × (later ≡ journal)
pushed_false journal later e added no_ is = by_test (has_room journal e) refl (rw no_ at is)
  where
    by_test : (b : Bool) → has_room journal e ≡ b
        → ◌≡◌ {A = Bool × JournalState} (false, later) (if b then (true, record journal { entries = journal.entries ++ e ∷ [] }) else (false, journal))
        → (has_room journal e ≡ false) × (later ≡ journal)
    by_test true test same = absurd (false≢true (ap (λ (r : Bool × JournalState). r.0) same))
    by_test false test same = (test, ap (λ (r : Bool × JournalState). r.1) same)

pub is_with : (journal later : JournalState) (e : Entry) → later ≡ record journal { entries = journal.entries ++ e ∷ [] } → IsWith journal later e
is_with journal later e is = rw is record { entries = refl; outer = refl; record_room = refl; payload_room = refl; reserved_bytes = refl }

-- no byte is added to the ring
pub ring_kept : (p : Parts) → Holds p → p.ring ≡ buffer (p.ring.items ++ []) DEBUG_RING_BYTES
ring_kept p H =
    H.ring_is ∙ ap (λ (xs : List ℕ). buffer xs DEBUG_RING_BYTES) (sym (ap (λ (b : Buffer ℕ). b.items) H.ring_is) ∙ sym (append-nil p.ring.items))

pub has_device : (machine : Machine) (d : ℕ) → d < length machine.device → d < length (setup_of machine).devices
has_device machine d within = rw length-map within

pub over_since : (m : Mode) (cause : Why) → cause_in m ≡ Some cause → IsOpen m → ⊥
over_since (mode.Ending other) cause is is_open = is_open
over_since mode.Running cause is is_open = absurd (cc)

-- 2. The item

-- the tube has as many items as the device did not act on
pub more_items : (v : DeviceRun) (tagged : ℕ × Item) (rest : List (ℕ × Item)) → tagged_from v.acted (drop v.acted v.made) ≡ tagged ∷ rest → v.acted < length v.made
more_items v tagged rest is = elim (leb_tells (length v.made) v.acted) [
  | inl e ↦ (let none : tagged_from v.acted (drop v.acted v.made) ≡ [] = rw (drop_all v.acted v.made e.1) refl in cc)
  | inr e ↦ e.1
]

pub no_items : (v : DeviceRun) → tagged_from v.acted (drop v.acted v.made) ≡ [] → length v.made ≤ v.acted
no_items v is = elim (leb_tells (length v.made) v.acted) [
  | inl e ↦ e.1
  | inr e ↦ absurd (by_drop (some_at v.made v.acted e.1))
]
  where
    by_drop : (m : Made) × (slice_get v.made v.acted ≡ Some m) → ⊥
    by_drop m =
        let more : tagged_from v.acted (drop v.acted v.made) ≡ (v.acted, m.0.item) ∷ tagged_from (v.acted + 1) (drop (v.acted + 1) v.made) =
        ap (tagged_from v.acted) (drop_at v.made v.acted m.0 m.1) in
        let same : ◌≡◌ {A = List (ℕ × Item)} [] ((v.acted, m.0.item) ∷ tagged_from (v.acted + 1) (drop (v.acted + 1) v.made)) = sym is ∙ more in
        cc

-- no reply waits for a worker with no action under way
pub quiet_lanes : (p : Parts) (d : ℕ) (none : SideState) → Holds p → d < length p.sides → (dev_of (seen p) d).phase ≡ Phase.Quiet
    → ((get_or p.sides d none).memory ≡ empty_lane) × ((get_or p.sides d none).interrupts ≡ empty_lane)
quiet_lanes p d none H within quiet =
    let t = (H.stands.each_side d none within).transit in
    let r : AreIdle (between_of (get_or p.sides d none)) × ((get_or p.sides d none).intended ≡ false) = (let q = rw quiet at t in q) in
    (r.0.memory, r.0.interrupts)

-- where the journal has room for the entry, there is room for all that is owed after it
take_room : (p : Parts) (d : ℕ) (m : Made) → Holds p → slice_get (dev_of (seen p) d).made (dev_of (seen p) d).acted ≡ Some m → (dev_of (seen p) d).phase ≡ Phase.Quiet
    → has_room p.journal (entry.Take d) ≡ has_room_in (seen p) (entry.Take d)
take_room p d m H at quiet =
    let s : State = state_of (seen p) in
    let owes : owed (done (setup_by (seen p)) s (made (entry.Take d))) ≡ owed s = rw at (owed_took s d m (act_on (s.devs d) m) quiet) in
    rw owes (room_alone p.journal (entry.Take d) p.machine.journal_entries (owed s) H.record_room H.stands.reserved_is (let h = H.room in omega (arith, h)) refl)

can_take : (p : Parts) (d : ℕ) → d < length p.machine.device → RestsNow (dev_of (seen p) d) → IsOpen (state_of (seen p)).mode
    → (dev_of (seen p) d).acted < length (dev_of (seen p) d).made → Can (setup_by (seen p)) (state_of (seen p)) (made (entry.Take d))
can_take p d exists rests is_open more = (
  has_device p.machine d exists,
  is_open,
  record { quiet = rests.quiet; over = rests.over; answered = rests.answered; more = more },
)

-- 3. The call

pub took_holds : (p : Parts) (d : ℕ) (none side : SideState) (tagged : ℕ × Item) (later : JournalState) (added : Bool)
    → Holds p → d < length p.machine.device → RestsNow (dev_of (seen p) d) → IsOpen (state_of (seen p)).mode
    → added ≡ true → ◌≡◌ {A = Bool × JournalState} (added, later) (pushed p.journal (entry.Take d))
    → get_or p.sides d none ≡ with_first_item tagged side
    → Holds (record p { sides = set p.sides d side; journal = later })
    × TookSo (seen p) (seen (record p { sides = set p.sides d side; journal = later })) d (Some tagged)
took_holds p d none side tagged later added H exists rests is_open yes_ push first =
    let s : State = state_of (seen p) in
    let v : DeviceRun = s.devs d in
    let within : d < length p.sides = (let r = H.slots in omega (arith, r, exists)) in
    let R = H.stands.each_side d none within in
    let items : tagged_from v.acted (drop v.acted v.made) ≡ tagged ∷ side.items = sym R.commands ∙ ap (λ (x : SideState). x.items) first in
    let more : v.acted < length v.made = more_items v tagged side.items items in
    let m = some_at v.made v.acted more in
    let can = can_take p d exists rests is_open more in
    let pushed_so = pushed_true p.journal later (entry.Take d) added yes_ push in
    let took = side_took p.machine.tube s.mode v m.0 (act_on v m.0) (get_or p.sides d none) side tagged R rests.quiet m.1 first in
    let reserved : later.reserved_records ≡ p.journal.reserved_records = rw pushed_so.1 refl in (
      entry_holds p (entry.Take d) p.guest p.grants (set p.sides d side) p.waits p.ring later H can (is_with p.journal later (entry.Take d) pushed_so.1)
          (record { harts = refl; steps = refl; slots = length-set p.sides d side; theirs = H.theirs })
          (rw (reserved, m.1)
          (took_stands p.machine.tube p.machine.harts p.guest p.grants.withdrawn p.sides p.waits p.journal.reserved_records s d m.0 side none H.stands (run_of p H).sound within
          m.1 rests.quiet took.0 took.2))
          (ring_kept p H)
          (sym (take_room p d m.0 H m.1 rests.quiet) ∙ pushed_so.0),
      (
        record {
          place = ap (λ (t : ℕ × Item). t.0) took.1;
          maker = m.0.maker;
          item = m.1 ∙ ap (λ (i : Item). Some (record { item = i; maker = m.0.maker })) (sym (ap (λ (t : ℕ × Item). t.1) took.1));
        },
        rw (pushed_so.1, map_told) refl,
      ),
    )
  where
    map_told : map (λ (x : SideState). x.told) (set p.sides d side) ≡ map (λ (x : SideState). x.told) p.sides
    map_told = map-set_same (λ (x : SideState). x.told) p.sides d side none (sym (ap (λ (x : SideState). x.told) first))

-- the tube is empty
pub took_none : (p : Parts) (d : ℕ) (none : SideState) → Holds p → d < length p.machine.device → IsOpen (state_of (seen p)).mode
    → length (get_or p.sides d none).items ≡ 0 → TookSo (seen p) (seen p) d None
took_none p d none H exists is_open empty =
    let within : d < length p.sides = (let r = H.slots in omega (arith, r, exists)) in
    let R = H.stands.each_side d none within in
    TakesNone.empty is_open (no_items (dev_of (seen p) d) (sym R.commands ∙ nothing (get_or p.sides d none).items empty)) refl
  where
    nothing : (xs : List (ℕ × Item)) → length xs ≡ 0 → xs ≡ []
    nothing [] is = refl
    nothing (x ∷ xs) is = absurd (omega (arith, is))

-- the run had ended
pub took_over : (p : Parts) (d : ℕ) (none : SideState) → Holds p → d < length p.machine.device → RestsNow (dev_of (seen p) d) → (IsOpen (state_of (seen p)).mode → ⊥)
    → Holds (record p { sides = set p.sides d (record (get_or p.sides d none) { told = true }) })
    × TookSo (seen p) (seen (record p { sides = set p.sides d (record (get_or p.sides d none) { told = true }) })) d None
took_over p d none H exists rests over =
    let within : d < length p.sides = (let r = H.slots in omega (arith, r, exists)) in
    let lanes = quiet_lanes p d none H within rests.quiet in (
      told_holds p d none H within over (rw lanes.0 refl) (rw lanes.1 refl),
      TakesNone.over (seen p, EndsNow.before over refl, told_is p d none),
    )

-- the journal has no room, and the run ends
pub took_full : (p : Parts) (d : ℕ) (none : SideState) (later : JournalState) (added : Bool) → Holds p → d < length p.machine.device → RestsNow (dev_of (seen p) d)
    → IsOpen (state_of (seen p)).mode → length (get_or p.sides d none).items ≢ 0
    → added ≡ false → ◌≡◌ {A = Bool × JournalState} (added, later) (pushed p.journal (entry.Take d))
    → Holds (record p {
      guest = record p.guest { mode = mode.Ending why.Full };
      journal = record later { outer = Some (length later.entries, why.Full) };
      seat = worker_seat p.machine d;
      sides = set p.sides d (record (get_or p.sides d none) { told = true });
    })
    × TookSo (seen p) (seen (record p {
      guest = record p.guest { mode = mode.Ending why.Full };
      journal = record later { outer = Some (length later.entries, why.Full) };
      seat = worker_seat p.machine d;
      sides = set p.sides d (record (get_or p.sides d none) { told = true });
    })) d None
took_full p d none later added H exists rests is_open some no_ push =
    let v : DeviceRun = dev_of (seen p) d in
    let within : d < length p.sides = (let r = H.slots in omega (arith, r, exists)) in
    let R = H.stands.each_side d none within in
    let pushed_so = pushed_false p.journal later (entry.Take d) added no_ push in
    let more : v.acted < length v.made = some_items (get_or p.sides d none).items some (sym R.commands) in
    let m = some_at v.made v.acted more in
    let q : Parts = record p {
      guest = record p.guest { mode = mode.Ending why.Full };
      journal = record p.journal { outer = Some (length p.journal.entries, why.Full) };
      seat = worker_seat p.machine d;
    } in
    let K : Holds q = end_holds p why.Full (worker_seat p.machine d) H is_open (λ e. cc) in
    let over : IsOpen (state_of (seen q)).mode → ⊥ = over_since (state_of (seen q)).mode why.Full K.ends in
    let lanes = quiet_lanes p d none H within rests.quiet in
    rw pushed_so.1 (
      told_holds q d none K within over (rw lanes.0 refl) (rw lanes.1 refl),
      TakesNone.over (
        seen q,
        EndsNow.full (record {
          may = can_take p d exists rests is_open more;
          is_open = is_open;
          wanting = sym (take_room p d m.0 H m.1 rests.quiet) ∙ pushed_so.0;
          new_is = refl;
        }),
        told_is q d none,
      ),
    )
  where
    some_items : (xs : List (ℕ × Item)) → length xs ≢ 0 → tagged_from (dev_of (seen p) d).acted (drop (dev_of (seen p) d).acted (dev_of (seen p) d).made) ≡ xs
        → (dev_of (seen p) d).acted < length (dev_of (seen p) d).made
    some_items [] some is = absurd (some refl)
    some_items (x ∷ xs) some is = more_items (dev_of (seen p) d) x xs is

-- 4. The same, as the call has its values: the device's slot, and the element there

pub open_since : (p : Parts) (b : Bool) → Holds p → b ≡ false → ((IsOpen p.guest.mode → ⊥) → b ≡ true) → IsOpen (state_of (seen p)).mode
open_since p b H no_ over = rw H.stands.mode_is (elim (open_or p.guest.mode) [
  | inl is_open ↦ is_open
  | inr ended_ ↦ absurd (false≢true (sym no_ ∙ over ended_))
])

pub over_call : (p : Parts) (d slot : ℕ) (element later : SideState) → slot ≡ d → element ≡ get_or p.sides slot element → later ≡ record element { told = true }
    → Holds p → d < length p.machine.device → RestsNow (dev_of (seen p) d) → (IsOpen p.guest.mode → ⊥)
    → Holds (record p { sides = set p.sides slot later }) × TookSo (seen p) (seen (record p { sides = set p.sides slot later })) d None
over_call p d slot element later slot_is here later_is H exists rests over =
    let at : element ≡ get_or p.sides d element = subst (λ (k : ℕ). element ≡ get_or p.sides k element) slot_is here in
    let Good : SideState → Type 0 = λ x. Holds (record p { sides = set p.sides d x }) × TookSo (seen p) (seen (record p { sides = set p.sides d x })) d None in
    let good : Good (record (get_or p.sides d element) { told = true }) = took_over p d element H exists rests (λ o. over (subst (λ (m : Mode). IsOpen m) H.stands.mode_is o)) in
    rw (slot_is, later_is) (subst (λ (x : SideState). Good (record x { told = true })) (sym at) good)

pub none_call : (p : Parts) (d slot : ℕ) (element : SideState) (count : ℕ) → slot ≡ d → element ≡ get_or p.sides slot element → count ≡ length element.items → count ≡ 0
    → Holds p → d < length p.machine.device → IsOpen (state_of (seen p)).mode → TookSo (seen p) (seen p) d None
none_call p d slot element count slot_is here count_is empty H exists is_open =
    let at : element ≡ get_or p.sides d element = subst (λ (k : ℕ). element ≡ get_or p.sides k element) slot_is here in
    took_none p d element H exists is_open (ap (λ (x : SideState). length x.items) (sym at) ∙ sym count_is ∙ empty)

-- an element that is read once more
items_there : (p : Parts) (d slot : ℕ) (element other : SideState) (count : ℕ) → slot ≡ d → d < length p.sides → element ≡ get_or p.sides slot element
    → count ≡ length element.items → count ≢ 0 → length (get_or p.sides d other).items ≢ 0
items_there p d slot element other count slot_is within here count_is some none =
    some (count_is ∙ ap (λ (x : SideState). length x.items) (subst (λ (k : ℕ). element ≡ get_or p.sides k element) slot_is here ∙ get_or_default p.sides d element other within) ∙ none)

pub full_call : (p : Parts) (d slot count seat : ℕ) (first element later : SideState) (guest : GuestState) (pushed_to ended_in : JournalState) (added : Bool)
    → slot ≡ d → first ≡ get_or p.sides slot first → count ≡ length first.items → count ≢ 0
    → element ≡ get_or p.sides slot element → later ≡ record element { told = true }
    → guest ≡ record p.guest { mode = mode.Ending why.Full } → ended_in ≡ record pushed_to { outer = Some (length pushed_to.entries, why.Full) } → seat ≡ worker_seat p.machine d
    → Holds p → d < length p.machine.device → RestsNow (dev_of (seen p) d) → IsOpen (state_of (seen p)).mode
    → added ≡ false → ◌≡◌ {A = Bool × JournalState} (added, pushed_to) (pushed p.journal (entry.Take d))
    → Holds (record p { guest = guest; journal = ended_in; seat = seat; sides = set p.sides slot later })
    × TookSo (seen p) (seen (record p { guest = guest; journal = ended_in; seat = seat; sides = set p.sides slot later })) d None
full_call p d slot count seat first element later guest pushed_to ended_in added slot_is first_is count_is some here later_is guest_is journal_is seat_is H exists rests is_open no_ push =
    let within : d < length p.sides = (let r = H.slots in omega (arith, r, exists)) in
    let at : element ≡ get_or p.sides d element = subst (λ (k : ℕ). element ≡ get_or p.sides k element) slot_is here in
    let Good : SideState → Type 0 = λ x.
    Holds (record p { guest = record p.guest { mode = mode.Ending why.Full }; journal = record pushed_to { outer = Some (length pushed_to.entries, why.Full) }; seat = worker_seat p.machine d; sides = set p.sides d x })
    × TookSo (seen p) (seen (record p { guest = record p.guest { mode = mode.Ending why.Full }; journal = record pushed_to { outer = Some (length pushed_to.entries, why.Full) }; seat = worker_seat p.machine d; sides = set p.sides d x })) d None in
    let good : Good (record (get_or p.sides d element) { told = true }) =
    took_full p d element pushed_to added H exists rests is_open (items_there p d slot first element count slot_is within first_is count_is some) no_ push in
    rw (slot_is, later_is, guest_is, journal_is, seat_is) (subst (λ (x : SideState). Good (record x { told = true })) (sym at) good)

pub took_call : (result : Option (ℕ × Item)) (p : Parts) (d slot count : ℕ) (first element side : SideState) (later : JournalState) (added : Bool)
    → slot ≡ d → first ≡ get_or p.sides slot first → count ≡ length first.items → count ≢ 0 → element ≡ get_or p.sides slot element
    → IfSome result (λ tagged. element ≡ with_first_item tagged side) → IfNone result (element.items ≡ [])
    → Holds p → d < length p.machine.device → RestsNow (dev_of (seen p) d) → IsOpen (state_of (seen p)).mode
    → added ≡ true → ◌≡◌ {A = Bool × JournalState} (added, later) (pushed p.journal (entry.Take d))
    → Holds (record p { sides = set p.sides slot side; journal = later })
    × TookSo (seen p) (seen (record p { sides = set p.sides slot side; journal = later })) d result
took_call None p d slot count first element side later added slot_is first_is count_is some here taken empty H exists rests is_open yes_ push =
    let within : d < length p.sides = (let r = H.slots in omega (arith, r, exists)) in
    let at : element ≡ get_or p.sides d element = subst (λ (k : ℕ). element ≡ get_or p.sides k element) slot_is here in
    absurd (items_there p d slot first element count slot_is within first_is count_is some
    (ap (λ (x : SideState). length x.items) (sym at) ∙ ap (λ (xs : List (ℕ × Item)). length xs) empty))
took_call (Some tagged) p d slot count first element side later added slot_is first_is count_is some here taken empty H exists rests is_open yes_ push =
    let at : element ≡ get_or p.sides d element = subst (λ (k : ℕ). element ≡ get_or p.sides k element) slot_is here in
    rw slot_is (took_holds p d element side tagged later added H exists rests is_open yes_ push (sym at ∙ taken))
