-- The call in which a worker asks for its next action, which a service does.
use Rattle.std.proofs.Common.{◌≡◌, ◌≢◌, ℕ, ◌+◌, ◌%◌, ◌^◌, ◌<◌, ◌≤◌, ◌⊎◌, ◌&&◌, inl, inr, Bool, true, false, if◌then◌else◌, [], ◌∷◌, ◌++◌, length, get_or, set, Option, Some, None, refl, ap, sym, ◌∙◌, subst, arith, length-set}
use Rattle.std.specs.Prelude.{nat_le}
use Rattle.std.proofs.Math.Seq.{map-set_same}
use Rattle.std.proofs.lemmas.Bool.{false≢true, le-leb, true≢false}
use Rattle.tv_base.specs.declared.Why.TheVariants as why
use Rattle.tv_guest.specs.GuestState.{GuestState}
use Rattle.tv_items.specs.declared.action.Action.{Action}
use Rattle.tv_items.specs.declared.action.Way.{Way}
use Rattle.tv_items.specs.declared.action.Way.TheVariants.{Memory, Interrupt, Outside}
use Rattle.tv_items.specs.Fits.{way_of}
use Rattle.tv_journal.specs.declared.Entry.{Entry}
use Rattle.tv_journal.specs.declared.Entry.TheVariants as entry
use Rattle.tv_journal.specs.Entries.{payload_in, record_count}
use Rattle.tv_journal.specs.Journals.{IsReserved, JournalState, free_bytes, has_room_with, pushed_reserved, records_for, reserved_for, with_reserved}
use Rattle.tv_plan.specs.Devices.{next}
use Rattle.tv_proxy.specs.Messages.{request_message}
use Rattle.tv_script.specs.Services.{Asks}
use Rattle.tv_side.specs.Sides.{LaneState, SideState, empty_lane, lane_of, with_lane, with_request}
use Rattle.tv_spec.specs.declared.Mode.{Mode}
use Rattle.tv_spec.specs.declared.Mode.TheVariants as mode
use Rattle.tv_spec.specs.declared.Phase.{Phase}
use Rattle.tv_spec.specs.Devices.{next_of, with_phase}
use Rattle.tv_spec.specs.Room.{owed, owed_to_phase}
use Rattle.tv_spec.specs.State.{State, DeviceRun}
use Rattle.tv_spec.specs.Step.{Can, IsOpen, done, made}
use Rattle.tv_spec.proofs.Owed.{owed_phase}
use Rattle.tv_wire.specs.declared.Msg.{Msg}
use Rattle.tv_core.specs.Calls.{BeganSo, EndsNow, WantsInside, has_room_in}
use Rattle.tv_core.specs.Holds.{Holds, Parts, seen}
use Rattle.tv_core.specs.Seen.{Seen, dev_of, setup_by, state_of, worker_seat}
use Rattle.tv_core.specs.Stands.{AreIdle, HasRequest, OfNext, StandsFor, between_of, lane_at, other_lane}
use Rattle.tv_core.proofs.Ending.{end_holds, told_holds, told_is}
use Rattle.tv_core.proofs.Entries.{IsWith, entry_holds}
use Rattle.tv_core.proofs.Hearing.{IsBeside, answered_none, below_eight, beside_lane, phase_stands, side_moved}
use Rattle.tv_core.proofs.Room.{records_for_alone, test_same}
use Rattle.tv_core.proofs.Takes.{has_device, over_since, quiet_lanes, ring_kept}

-- 1. Room

reserved_true : (journal later : JournalState) (e : Entry) (records bytes : ℕ) (added : Bool) → added ≡ true
    → ◌≡◌ {A = Bool × JournalState} (added, later) (reserved_for journal e records bytes)
    → (has_room_with journal e records bytes ≡ true) × (later ≡ with_reserved journal (records_for journal e + records) (payload_in e + bytes))
reserved_true journal later e records bytes added yes_ is = by_test (has_room_with journal e records bytes) refl (rw yes_ at is)
  where
    by_test : (b : Bool) → has_room_with journal e records bytes ≡ b
        → ◌≡◌ {A = Bool × JournalState} (true, later) (if b then (true, with_reserved journal (records_for journal e + records) (payload_in e + bytes)) else (false, journal))
        → (has_room_with journal e records bytes ≡ true) × (later ≡ with_reserved journal (records_for journal e + records) (payload_in e + bytes))
    by_test true test same = (test, ap (λ (r : Bool × JournalState). r.1) same)
    by_test false test same = absurd (true≢false (ap (λ (r : Bool × JournalState). r.0) same))

reserved_false : (journal later : JournalState) (e : Entry) (records bytes : ℕ) (added : Bool) → added ≡ false
    → ◌≡◌ {A = Bool × JournalState} (added, later) (reserved_for journal e records bytes)
    → (has_room_with journal e records bytes ≡ false) × (later ≡ journal)
reserved_false journal later e records bytes added no_ is = by_test (has_room_with journal e records bytes) refl (rw no_ at is)
  where
    by_test : (b : Bool) → has_room_with journal e records bytes ≡ b
        → ◌≡◌ {A = Bool × JournalState} (false, later) (if b then (true, with_reserved journal (records_for journal e + records) (payload_in e + bytes)) else (false, journal))
        → (has_room_with journal e records bytes ≡ false) × (later ≡ journal)
    by_test true test same = absurd (false≢true (ap (λ (r : Bool × JournalState). r.0) same))
    by_test false test same = (test, ap (λ (r : Bool × JournalState). r.1) same)

-- a request is owed its Got
sent_owes : (p : Parts) (d : ℕ) → Holds p → d < length p.machine.device → (dev_of (seen p) d).phase ≡ Phase.Quiet
    → owed (done (setup_by (seen p)) (state_of (seen p)) (made (entry.Send d))) ≡ owed (state_of (seen p)) + 1
sent_owes p d H exists quiet =
    let s : State = state_of (seen p) in
    let r = owed_phase s d (with_phase (s.devs d) Phase.Sent) (below_eight p d H exists) in
    let none : owed_to_phase (s.devs d).phase ≡ 0 = rw quiet refl in
    omega (arith, r, none)

and_true : (b : Bool) → (b && true) ≡ b
and_true true = refl
and_true false = refl

send_room : (p : Parts) (d : ℕ) → Holds p → d < length p.machine.device → (dev_of (seen p) d).phase ≡ Phase.Quiet
    → has_room_with p.journal (entry.Send d) 1 0 ≡ has_room_in (seen p) (entry.Send d)
send_room p d H exists quiet =
    let s : State = state_of (seen p) in
    let room : ℕ = p.machine.journal_entries in
    let count : ℕ = record_count (p.journal.entries ++ entry.Send d ∷ []) in
    let within : owed s ≤ room = (let h = H.room in omega (arith, h)) in
    let owes = sent_owes p d H exists quiet in
    let free : nat_le (payload_in (entry.Send d) + 0) (free_bytes p.journal) ≡ true = le-leb _ _ (omega arith) in
    let same : count + 1 + owed s ≡ count + owed (done (setup_by (seen p)) s (made (entry.Send d))) = omega (arith, owes) in
    rw (free, H.record_room, H.stands.reserved_is) (and_true _ ∙ test_same (count + 1) (owed s) room within ∙ ap (λ (n : ℕ). nat_le n room) same)

-- 2. The request

-- a request in a lane of an idle side
pub record IsAskedAt (s : SideState) (way : Way) (m : Option Msg) (tag : ℕ) : Type 0 where
  pub last : s.requests ≡ (tag + 1) % 2 ^ 32
  pub asked : (lane_at (between_of s) way).asked ≡ m
  pub answered : (lane_at (between_of s) way).answered ≡ None
  pub other : other_lane (between_of s) way ≡ empty_lane

asked_at : (s : SideState) (way : Way) (m : Option Msg) → AreIdle (between_of s) → way ≢ Outside
    → IsAskedAt (with_lane (record s { requests = (s.requests + 1) % 2 ^ 32 }) way (record (lane_of s way) { asked = m })) way m s.requests
asked_at s Memory m idle inside = record { last = refl; asked = refl; answered = answered_none s.memory idle.memory; other = idle.interrupts }
asked_at s Interrupt m idle inside = record { last = refl; asked = refl; answered = answered_none s.interrupts idle.interrupts; other = idle.memory }
asked_at s Outside m idle inside = absurd (inside refl)

request_beside : (s : SideState) (action : Action) → IsBeside s (with_request s action)
request_beside s action =
    let b = beside_lane (record s { requests = (s.requests + 1) % 2 ^ 32 }) (way_of action) (record (lane_of s (way_of action)) { asked = request_message s.requests action }) in
    record { proxy = b.proxy; items = b.items; tube = b.tube; replies = b.replies; intended = b.intended; told = b.told }

next_quiet : (v : DeviceRun) (action : Action) → v.phase ≡ Phase.Quiet → next_of v ≡ Asks action → next v.device v.got ≡ Asks action
next_quiet v action quiet is = let r = rw quiet at is in r

side_sent : (tube : ℕ) (now : Mode) (v : DeviceRun) (action : Action) (old : SideState) → StandsFor tube now v old → IsOpen now → WantsInside v action
    → StandsFor tube now (record v { got = v.got; phase = Phase.Sent }) (with_request old action)
side_sent tube now v action old R is_open wants =
    let idle : AreIdle (between_of old) × (old.intended ≡ false) = (let t = R.transit in let r = rw wants.quiet at t in r) in
    let asked = asked_at old (way_of action) (request_message old.requests action) idle.0 wants.inside in
    let beside = request_beside old action in
    let has : HasRequest (between_of (with_request old action)) action = record {
      inside = wants.inside;
      tag = old.requests;
      last = asked.last;
      asked = asked.asked;
      answered = asked.answered;
      other = asked.other;
    } in
    side_moved tube now v v.got Phase.Sent old (with_request old action) R beside (
      subst (λ n. OfNext n (HasRequest (between_of (with_request old action)))) (sym (next_quiet v action wants.quiet wants.is)) has,
      beside.intended ∙ idle.1,
    )
    (λ told. absurd ((R.told (sym beside.told ∙ told)).ending is_open))

-- 3. The call

can_send : (p : Parts) (d : ℕ) (action : Action) → d < length p.machine.device → WantsInside (dev_of (seen p) d) action → IsOpen (state_of (seen p)).mode
    → Can (setup_by (seen p)) (state_of (seen p)) (made (entry.Send d))
can_send p d action exists wants is_open = (
  has_device p.machine d exists,
  is_open,
  record { quiet = wants.quiet; asks = rw wants.is (by_way (way_of action) wants.inside) },
)
  where
    by_way : (way : Way) → way ≢ Outside → (way ≡ Memory) ⊎ (way ≡ Interrupt)
    by_way Memory inside = inl refl
    by_way Interrupt inside = inr refl
    by_way Outside inside = absurd (inside refl)

sent_holds : (p : Parts) (d : ℕ) (none : SideState) (action : Action) (between : JournalState) (added : Bool) → Holds p → d < length p.machine.device
    → WantsInside (dev_of (seen p) d) action → IsOpen (state_of (seen p)).mode → added ≡ true
    → ◌≡◌ {A = Bool × JournalState} (added, between) (reserved_for p.journal (entry.Send d) 1 0)
    → Holds (record p { sides = set p.sides d (with_request (get_or p.sides d none) action); journal = pushed_reserved between (entry.Send d) })
    × BeganSo (seen p) (seen (record p { sides = set p.sides d (with_request (get_or p.sides d none) action); journal = pushed_reserved between (entry.Send d) })) d (entry.Send d) true
sent_holds p d none action between added H exists wants is_open yes_ push =
    let s : State = state_of (seen p) in
    let v : DeviceRun = s.devs d in
    let old : SideState = get_or p.sides d none in
    let new : SideState = with_request old action in
    let within : d < length p.sides = (let r = H.slots in omega (arith, r, exists)) in
    let R = H.stands.each_side d none within in
    let push_so = reserved_true p.journal between (entry.Send d) 1 0 added yes_ push in
    let reserve : JournalState = with_reserved p.journal (records_for p.journal (entry.Send d) + 1) (payload_in (entry.Send d) + 0) in
    let later : JournalState = pushed_reserved reserve (entry.Send d) in
    let one = records_for_alone p.journal (entry.Send d) tt in
    let owes = sent_owes p d H exists wants.quiet in
    let reserved : later.reserved_records ≡ owed (done (setup_by (seen p)) s (made (entry.Send d))) = (let r = H.stands.reserved_is in omega (arith, one, owes, r)) in
    let with : IsWith p.journal later (entry.Send d) = record { entries = refl; outer = refl; record_room = refl; payload_room = refl; reserved_bytes = omega arith } in
    rw push_so.1 (
      entry_holds p (entry.Send d) p.guest p.grants (set p.sides d new) p.waits p.ring later H (can_send p d action exists wants is_open) with
          (record { harts = refl; steps = refl; slots = length-set p.sides d new; theirs = H.theirs })
          (phase_stands p.machine.tube p.guest p.grants.withdrawn p.sides p.waits p.journal.reserved_records later.reserved_records s d v.got Phase.Sent new none
          H.stands within (request_beside old action) (side_sent p.machine.tube s.mode v action old R is_open wants) reserved)
          (ring_kept p H)
          (sym (send_room p d H exists wants.quiet) ∙ push_so.0),
      rw (map-set_same (λ (x : SideState). x.told) p.sides d new none (request_beside old action).told) refl,
    )

sent_over : (p : Parts) (d : ℕ) (none : SideState) (e : Entry) → Holds p → d < length p.machine.device → (dev_of (seen p) d).phase ≡ Phase.Quiet
    → (IsOpen (state_of (seen p)).mode → ⊥)
    → Holds (record p { sides = set p.sides d (record (get_or p.sides d none) { told = true }) })
    × BeganSo (seen p) (seen (record p { sides = set p.sides d (record (get_or p.sides d none) { told = true }) })) d e false
sent_over p d none e H exists quiet over =
    let within : d < length p.sides = (let r = H.slots in omega (arith, r, exists)) in
    let lanes = quiet_lanes p d none H within quiet in (
      told_holds p d none H within over (rw lanes.0 refl) (rw lanes.1 refl),
      (seen p, EndsNow.before over refl, told_is p d none),
    )

-- the parts of a core whose run ends as full, by who has this seat
abbrev pub filled : Parts → ℕ → Parts
filled p seat = record p {
  guest = record p.guest { mode = mode.Ending why.Full };
  journal = record p.journal { outer = Some (length p.journal.entries, why.Full) };
  seat = seat;
}

sent_full : (p : Parts) (d : ℕ) (none : SideState) (action : Action) → Holds p → d < length p.machine.device
    → WantsInside (dev_of (seen p) d) action → IsOpen (state_of (seen p)).mode → has_room_with p.journal (entry.Send d) 1 0 ≡ false
    → Holds (record (filled p (worker_seat p.machine d)) { sides = set p.sides d (record (get_or p.sides d none) { told = true }) })
    × BeganSo (seen p) (seen (record (filled p (worker_seat p.machine d)) { sides = set p.sides d (record (get_or p.sides d none) { told = true }) })) d (entry.Send d) false
sent_full p d none action H exists wants is_open wanting =
    let within : d < length p.sides = (let r = H.slots in omega (arith, r, exists)) in
    let q : Parts = filled p (worker_seat p.machine d) in
    let K : Holds q = end_holds p why.Full (worker_seat p.machine d) H is_open (λ e. cc) in
    let over : IsOpen (state_of (seen q)).mode → ⊥ = over_since (state_of (seen q)).mode why.Full K.ends in
    let lanes = quiet_lanes p d none H within wants.quiet in (
      told_holds q d none K within over (rw lanes.0 refl) (rw lanes.1 refl),
      (
        seen q,
        EndsNow.full (record {
          may = can_send p d action exists wants is_open;
          is_open = is_open;
          wanting = sym (send_room p d H exists wants.quiet) ∙ wanting;
          new_is = refl;
        }),
        told_is q d none,
      ),
    )

-- 4. The same, as the call has its values

pub sent_finds_place : (p : Parts) (d slot : ℕ) (action : Action) (element : SideState) → slot ≡ d → element ≡ get_or p.sides slot element → Holds p
    → d < length p.machine.device → WantsInside (dev_of (seen p) d) action → (lane_of element (way_of action)).asked ≡ None
sent_finds_place p d slot action element slot_is here H exists wants =
    let within : d < length p.sides = (let r = H.slots in omega (arith, r, exists)) in
    let at : element ≡ get_or p.sides d element = subst (λ (k : ℕ). element ≡ get_or p.sides k element) slot_is here in
    let lanes = quiet_lanes p d element H within wants.quiet in
    subst (λ (x : SideState). (lane_of x (way_of action)).asked ≡ None) (sym at) (by_way (way_of action) (get_or p.sides d element) lanes.0 lanes.1)
  where
    by_way : (way : Way) (x : SideState) → x.memory ≡ empty_lane → x.interrupts ≡ empty_lane → (lane_of x way).asked ≡ None
    by_way Memory x memory interrupts = ap (λ (l : LaneState). l.asked) memory
    by_way Interrupt x memory interrupts = ap (λ (l : LaneState). l.asked) interrupts
    by_way Outside x memory interrupts = refl

pub reserved_first : (journal later : JournalState) (d : ℕ) (added : Bool) → added ≡ true
    → ◌≡◌ {A = Bool × JournalState} (added, later) (reserved_for journal (entry.Send d) 1 0) → IsReserved later (entry.Send d) × (later.entries ≡ journal.entries)
reserved_first journal later d added yes_ push =
    let so = reserved_true journal later (entry.Send d) 1 0 added yes_ push in
    rw so.1 (record { records = omega arith; bytes = omega arith }, refl)

pub sent_over_call : (p : Parts) (d slot : ℕ) (action : Action) (element later : SideState) (start : Seen) → slot ≡ d → element ≡ get_or p.sides slot element
    → later ≡ record element { told = true } → Holds p → d < length p.machine.device → WantsInside (dev_of (seen p) d) action → (IsOpen p.guest.mode → ⊥) → seen p ≡ start
    → Holds (record p { sides = set p.sides slot later }) × BeganSo start (seen (record p { sides = set p.sides slot later })) d (entry.Send d) false
sent_over_call p d slot action element later start slot_is here later_is H exists wants over start_is =
    let at : element ≡ get_or p.sides d element = subst (λ (k : ℕ). element ≡ get_or p.sides k element) slot_is here in
    let Good : SideState → Type 0 = λ x. Holds (record p { sides = set p.sides d x }) × BeganSo start (seen (record p { sides = set p.sides d x })) d (entry.Send d) false in
    let held = sent_over p d element (entry.Send d) H exists wants.quiet (λ o. over (subst (λ (m : Mode). IsOpen m) H.stands.mode_is o)) in
    let side : SideState = record (get_or p.sides d element) { told = true } in
    let good : Good side =
    (held.0, subst (λ (b : Seen). BeganSo b (seen (record p { sides = set p.sides d side })) d (entry.Send d) false) start_is held.1) in
    rw (slot_is, later_is) (subst (λ (x : SideState). Good (record x { told = true })) (sym at) good)

pub sent_full_call : (p : Parts) (d slot seat : ℕ) (action : Action) (element later : SideState) (guest : GuestState) (between after : JournalState) (added : Bool) (start : Seen)
    → slot ≡ d → element ≡ get_or p.sides slot element → later ≡ record element { told = true }
    → guest ≡ record p.guest { mode = mode.Ending why.Full } → after ≡ record between { outer = Some (length between.entries, why.Full) } → seat ≡ worker_seat p.machine d
    → Holds p → d < length p.machine.device → WantsInside (dev_of (seen p) d) action → IsOpen (state_of (seen p)).mode
    → added ≡ false → ◌≡◌ {A = Bool × JournalState} (added, between) (reserved_for p.journal (entry.Send d) 1 0) → seen p ≡ start
    → Holds (record p { guest = guest; journal = after; seat = seat; sides = set p.sides slot later })
    × BeganSo start (seen (record p { guest = guest; journal = after; seat = seat; sides = set p.sides slot later })) d (entry.Send d) false
sent_full_call p d slot seat action element later guest between after added start slot_is here later_is guest_is after_is seat_is H exists wants is_open no_ push start_is =
    let at : element ≡ get_or p.sides d element = subst (λ (k : ℕ). element ≡ get_or p.sides k element) slot_is here in
    let so = reserved_false p.journal between (entry.Send d) 1 0 added no_ push in
    let q : Parts = filled p (worker_seat p.machine d) in
    let Good : SideState → Type 0 = λ x. Holds (record q { sides = set p.sides d x }) × BeganSo start (seen (record q { sides = set p.sides d x })) d (entry.Send d) false in
    let held = sent_full p d element action H exists wants is_open so.0 in
    let side : SideState = record (get_or p.sides d element) { told = true } in
    let good : Good side =
    (held.0, subst (λ (b : Seen). BeganSo b (seen (record q { sides = set p.sides d side })) d (entry.Send d) false) start_is held.1) in
    rw (slot_is, later_is, guest_is, after_is, so.1, seat_is) (subst (λ (x : SideState). Good (record x { told = true })) (sym at) good)

pub sent_call : (p : Parts) (d slot : ℕ) (action : Action) (element later : SideState) (between after : JournalState) (added : Bool) (start : Seen)
    → slot ≡ d → element ≡ get_or p.sides slot element → later ≡ with_request element action → after ≡ pushed_reserved between (entry.Send d)
    → Holds p → d < length p.machine.device → WantsInside (dev_of (seen p) d) action → IsOpen (state_of (seen p)).mode
    → added ≡ true → ◌≡◌ {A = Bool × JournalState} (added, between) (reserved_for p.journal (entry.Send d) 1 0) → seen p ≡ start
    → Holds (record p { sides = set p.sides slot later; journal = after })
    × BeganSo start (seen (record p { sides = set p.sides slot later; journal = after })) d (entry.Send d) true
sent_call p d slot action element later between after added start slot_is here later_is after_is H exists wants is_open yes_ push start_is =
    let at : element ≡ get_or p.sides d element = subst (λ (k : ℕ). element ≡ get_or p.sides k element) slot_is here in
    let journal : JournalState = pushed_reserved between (entry.Send d) in
    let Good : SideState → Type 0 = λ x. Holds (record p { sides = set p.sides d x; journal = journal })
    × BeganSo start (seen (record p { sides = set p.sides d x; journal = journal })) d (entry.Send d) true in
    let held = sent_holds p d element action between added H exists wants is_open yes_ push in
    let side : SideState = with_request (get_or p.sides d element) action in
    let good : Good side =
    (held.0, subst (λ (b : Seen). BeganSo b (seen (record p { sides = set p.sides d side; journal = journal })) d (entry.Send d) true) start_is held.1) in
    rw (slot_is, later_is, after_is) (subst (λ (x : SideState). Good (with_request x action)) (sym at) good)
