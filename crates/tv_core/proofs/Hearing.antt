-- The call in which a worker gets what a service replied.
use Rattle.std.proofs.Common.{◌≡◌, ◌≢◌, ℕ, ◌+◌, ◌<◌, inl, inr, Bool, true, false, if◌then◌else◌, List, [], ◌∷◌, ◌++◌, length, get_or, set, Option, Some, None, refl, ap, sym, ◌∙◌, subst, arith, length-set, append_assoc, append-nil}
use Rattle.std.proofs.Math.Seq.{map-set_same}
use Rattle.std.proofs.lemmas.Bool.{true≢false}
use Rattle.std.proofs.lemmas.List.{set-get_or}
use Rattle.tv_guest.specs.GuestState.{GuestState}
use Rattle.tv_items.specs.declared.action.Action.{Action}
use Rattle.tv_items.specs.declared.action.Heard.{Heard}
use Rattle.tv_items.specs.declared.action.Way.{Way}
use Rattle.tv_items.specs.declared.action.Way.TheVariants.{Memory, Interrupt, Outside}
use Rattle.tv_items.specs.Fits.{way_of}
use Rattle.tv_journal.specs.declared.Entry.TheVariants as entry
use Rattle.tv_journal.specs.Journals.{IsReserved, JournalState, pushed_reserved}
use Rattle.tv_plan.specs.Devices.{DeviceState, next}
use Rattle.tv_proxy.specs.Messages.{heard_in}
use Rattle.tv_proxy.specs.Proxies.{ProxyState}
use Rattle.tv_script.specs.Answers.{FitsNext, IsHeard, IsHeardFrom as AreHeardFrom}
use Rattle.tv_script.specs.Services.{Next, Asks, Rests, Loses}
use Rattle.tv_side.specs.Sides.{LaneState, SideState, empty_lane, heard_by as heard_by_lane, lane_of, with_lane}
use Rattle.tv_spec.specs.declared.Mode.{Mode}
use Rattle.tv_spec.specs.declared.Mode.TheVariants as mode
use Rattle.tv_spec.specs.declared.Phase.{Phase}
use Rattle.tv_spec.specs.Devices.{IsServed, heard_by}
use Rattle.tv_spec.specs.Room.{owed}
use Rattle.tv_spec.specs.State.{State, DeviceRun}
use Rattle.tv_spec.specs.Step.{Can, IsOpen, done, made, put_dev}
use Rattle.tv_spec.proofs.Owed.{owed_finds_room, owed_got}
use Rattle.tv_wire.specs.declared.Msg.{Msg}
use Rattle.tv_core.specs.Calls.{GotSo, HeardNone}
use Rattle.tv_core.specs.Holds.{Holds, Parts, seen}
use Rattle.tv_core.specs.Lanes.{HeardSo, IsHeardFrom, IsUnanswered}
use Rattle.tv_core.specs.Seen.{Seen, dev_of, setup_by, state_of}
use Rattle.tv_core.specs.Stands.{AreIdle, HasReply, HasRequest, IsToldOf, OfNext, Stands, StandsFor, Transit, between_of, lane_at, other_lane}
use Rattle.tv_core.proofs.Ending.{told_holds, told_is}
use Rattle.tv_core.proofs.Entries.{IsWith, entry_holds}
use Rattle.tv_core.proofs.Keeping.{same_place, stands_dev}
use Rattle.tv_core.proofs.Room.{records_for_alone, run_of}
use Rattle.tv_core.proofs.Takes.{has_device, ring_kept}

-- 1. A side whose lanes change

-- nothing of it changed but the two lanes and the number of requests
pub record IsBeside (old new : SideState) : Type 0 where
  pub proxy : new.proxy ≡ old.proxy
  pub items : new.items ≡ old.items
  pub tube : new.tube ≡ old.tube
  pub replies : new.replies ≡ old.replies
  pub intended : new.intended ≡ old.intended
  pub told : new.told ≡ old.told

pub beside_lane : (s : SideState) (way : Way) (lane : LaneState) → IsBeside s (with_lane s way lane)
beside_lane s Memory lane = record { proxy = refl; items = refl; tube = refl; replies = refl; intended = refl; told = refl }
beside_lane s Interrupt lane = record { proxy = refl; items = refl; tube = refl; replies = refl; intended = refl; told = refl }
beside_lane s Outside lane = record { proxy = refl; items = refl; tube = refl; replies = refl; intended = refl; told = refl }

pub side_moved : (tube : ℕ) (now : Mode) (v : DeviceRun) (got : List Heard) (phase : Phase) (old new : SideState) → StandsFor tube now v old → IsBeside old new
    → Transit v.device got phase (between_of new) → (new.told ≡ true → IsToldOf now (between_of new))
    → StandsFor tube now (record v { got = got; phase = phase }) new
side_moved tube now v got phase old new R beside transit told = record {
  tube_is = beside.tube ∙ R.tube_is;
  made = ap (λ (x : ProxyState). x.made) beside.proxy ∙ R.made;
  harts = ap (λ (x : ProxyState). length x.harts) beside.proxy ∙ R.harts;
  commands = beside.items ∙ R.commands;
  replies = beside.replies ∙ R.replies;
  transit = transit;
  told = told;
}

-- a device that changes its phase alone, and what it got
pub phase_stands : (tube : ℕ) (guest : GuestState) (withdrawn : List Bool) (sides : List SideState) (waits : List Bool) (reserved now : ℕ) (s : State) (d : ℕ)
    (got : List Heard) (phase : Phase) (p none : SideState)
    → Stands tube guest withdrawn sides waits reserved s → d < length sides → IsBeside (get_or sides d none) p
    → StandsFor tube s.mode (record (s.devs d) { got = got; phase = phase }) p
    → now ≡ owed (put_dev s d (record (s.devs d) { got = got; phase = phase }))
    → Stands tube guest withdrawn (set sides d p) waits now (record (put_dev s d (record (s.devs d) { got = got; phase = phase })) { ticked = false })
phase_stands tube guest withdrawn sides waits reserved now s d got phase p none T within beside new room =
    let v : DeviceRun = record (s.devs d) { got = got; phase = phase } in
    let t : State = record (put_dev s d v) { ticked = false } in
    stands_dev tube guest guest withdrawn withdrawn sides waits reserved now s t d v p none T within
    (record {
      guest_harts = refl;
      local_is = T.local_is;
      pages_are = T.withdrawn_is;
      mode_is = T.mode_is;
      events_are = T.events_are;
      harts_are = refl;
      devices_are = refl;
      places = λ h. same_place (s.pending h);
    })
    refl refl (ap (λ (x : ProxyState). x.harts) beside.proxy)
    (λ j any lt ne. T.each_side j any lt)
    new room

-- 2. Replies in lanes

pub answered_none : (lane : LaneState) → lane ≡ empty_lane → lane.answered ≡ None
answered_none lane is = ap (λ (l : LaneState). l.answered) is

idle_unanswered : (s : SideState) → AreIdle (between_of s) → IsUnanswered s
idle_unanswered s idle = (answered_none s.memory idle.memory, answered_none s.interrupts idle.interrupts)

asked_unanswered : (s : SideState) (action : Action) → HasRequest (between_of s) action → IsUnanswered s
asked_unanswered s action has = by_way (way_of action) has.inside has.answered has.other
  where
    by_way : (way : Way) → way ≢ Outside → (lane_at (between_of s) way).answered ≡ None → other_lane (between_of s) way ≡ empty_lane → IsUnanswered s
    by_way Memory inside answered other = (answered, answered_none s.interrupts other)
    by_way Interrupt inside answered other = (answered_none s.memory other, answered)
    by_way Outside inside answered other = absurd (inside refl)

reply_answered : (s : SideState) (action : Action) (heard : Heard) → HasReply (between_of s) action heard → IsUnanswered s → ⊥
reply_answered s action heard has none = by_way (way_of action) has.inside has.answered
  where
    by_way : (way : Way) → way ≢ Outside → (lane_at (between_of s) way).answered ≡ Some has.reply → ⊥
    by_way Memory inside answered = let r = none.0 in cc
    by_way Interrupt inside answered = let r = none.1 in cc
    by_way Outside inside answered = absurd (inside refl)

unheard : (old new : SideState) (heard : Heard) → IsUnanswered old → IsHeardFrom old new heard → ⊥
unheard old new heard none from_ = elim from_ [
  | inl e ↦ let r : ◌≡◌ {A = Option Heard} None (Some heard) = sym (ap heard_by_lane none.0) ∙ e.said in cc
  | inr e ↦ let r : ◌≡◌ {A = Option Heard} None (Some heard) = sym (ap heard_by_lane none.1) ∙ e.said in cc
]

-- the reply that lies there is the one that is heard, and nothing is left
reply_heard : (old new : SideState) (action : Action) (reply heard : Heard) → HasReply (between_of old) action reply → IsHeardFrom old new heard
    → (reply ≡ heard) × AreIdle (between_of new)
reply_heard old new action reply heard has from_ = by_way (way_of action) has.inside has.reply has.answered has.says has.asked has.other
  where
    no_reply : (lane : LaneState) → lane ≡ empty_lane → heard_by_lane lane.answered ≡ Some heard → ⊥
    no_reply lane is said = let r : ◌≡◌ {A = Option Heard} None (Some heard) = sym (ap (λ (l : LaneState). heard_by_lane l.answered) is) ∙ said in cc

    same : (lane : LaneState) (m : Msg) → lane.answered ≡ Some m → heard_in m ≡ Some reply → heard_by_lane lane.answered ≡ Some heard → reply ≡ heard
    same lane m answered says said =
        let r : ◌≡◌ {A = Option Heard} (Some reply) (Some heard) = sym says ∙ sym (ap heard_by_lane answered) ∙ said in cc

    emptied : (lane : LaneState) → lane.asked ≡ None → ◌≡◌ {A = LaneState} (record lane { answered = None }) empty_lane
    emptied lane none = ap (λ (o : Option Msg). let r : LaneState = record { asked = o; answered = None } in r) none

    by_way : (way : Way) → way ≢ Outside → (m : Msg) → (lane_at (between_of old) way).answered ≡ Some m → heard_in m ≡ Some reply
        → (lane_at (between_of old) way).asked ≡ None → other_lane (between_of old) way ≡ empty_lane → (reply ≡ heard) × AreIdle (between_of new)
    by_way Memory inside m answered says asked other = elim from_ [
      | inl e ↦ (same old.memory m answered says e.said, rw e.new_is (record { memory = emptied old.memory asked; interrupts = other }))
      | inr e ↦ absurd (no_reply old.interrupts other e.said)
    ]
    by_way Interrupt inside m answered says asked other = elim from_ [
      | inl e ↦ absurd (no_reply old.memory other e.said)
      | inr e ↦ (same old.interrupts m answered says e.said, rw e.new_is (record { memory = other; interrupts = emptied old.interrupts asked }))
    ]
    by_way Outside inside m answered says asked other = absurd (inside refl)

heard_beside : (old new : SideState) (heard : Heard) → IsHeardFrom old new heard → IsBeside old new
heard_beside old new heard from_ = elim from_ [
  | inl e ↦ rw e.new_is (beside_lane old Memory (record (lane_of old Memory) { answered = None }))
  | inr e ↦ rw e.new_is (beside_lane old Interrupt (record (lane_of old Interrupt) { answered = None }))
]

-- a device whose worker hears a reply was served with it
record IsHeardOf (v : DeviceRun) (new : SideState) (heard : Heard) : Type 0 where
  served : v.phase ≡ Phase.Served heard
  transit : AreIdle (between_of new) × (new.intended ≡ false)

heard_of : (v : DeviceRun) (old new : SideState) (heard : Heard) → Transit v.device v.got v.phase (between_of old) → IsHeardFrom old new heard → IsHeardOf v new heard
heard_of v old new heard transit from_ = by_phase v.phase refl transit
  where
    by_asked : (n : Next DeviceState) → OfNext n (HasRequest (between_of old)) → ⊥
    by_asked (Asks action) t = unheard old new heard (asked_unanswered old action t) from_
    by_asked (Rests state) t = t
    by_asked (Loses state) t = t

    by_reply : (n : Next DeviceState) (reply : Heard) → OfNext n (λ action. HasReply (between_of old) action reply) → (reply ≡ heard) × AreIdle (between_of new)
    by_reply (Asks action) reply t = reply_heard old new action reply heard t from_
    by_reply (Rests state) reply t = absurd t
    by_reply (Loses state) reply t = absurd t

    by_phase : (phase : Phase) → v.phase ≡ phase → Transit v.device v.got phase (between_of old) → IsHeardOf v new heard
    by_phase Phase.Quiet is t = absurd (unheard old new heard (idle_unanswered old t.0) from_)
    by_phase Phase.Sent is t = absurd (by_asked (next v.device v.got) t.0)
    by_phase (Phase.Served reply) is t =
        let r = by_reply (next v.device v.got) reply t.0 in
        record {
          served = is ∙ ap (λ (h : Heard). Phase.Served h) r.0;
          transit = (r.1, (heard_beside old new heard from_).intended ∙ t.1);
        }
    by_phase Phase.Intended is t = absurd (unheard old new heard (idle_unanswered old t.0) from_)

-- and where none lies there it was not
unserved : (v : DeviceRun) (s : SideState) (heard : Heard) → Transit v.device v.got v.phase (between_of s) → IsUnanswered s → v.phase ≢ Phase.Served heard
unserved v s heard transit none is = by_next (next v.device v.got) (let r = rw is at transit in r.0)
  where
    by_next : (n : Next DeviceState) → OfNext n (λ action. HasReply (between_of s) action heard) → ⊥
    by_next (Asks action) t = reply_answered s action heard t none
    by_next (Rests state) t = t
    by_next (Loses state) t = t

-- 3. The reply fits

-- the last of these replies answers the action after those before it
last_fits : (device : DeviceState) (before hs : List Heard) (h : Heard) → AreHeardFrom (next device) before (hs ++ h ∷ []) → FitsNext (next device (before ++ hs)) h
last_fits device before [] h l = rw append-nil l.0
last_fits device before (x ∷ hs) h l =
    let r = last_fits device (before ++ x ∷ []) hs h l.1 in let q = rw (append_assoc before (x ∷ []) hs) at r in q

heard_fits : (v : DeviceRun) (heard : Heard) → IsHeard (next v.device) (heard_by v) → v.phase ≡ Phase.Served heard → FitsNext (next v.device v.got) heard
heard_fits v heard all is = last_fits v.device [] v.got heard (let r = rw is at all in r)

-- 4. The call

pub below_eight : (p : Parts) (d : ℕ) → Holds p → d < length p.machine.device → d < 8
below_eight p d H exists = let h = H.valid.slots in omega (arith, h, exists)

got_less : (p : Parts) (d : ℕ) → Holds p → d < length p.machine.device → IsServed (dev_of (seen p) d).phase
    → owed (done (setup_by (seen p)) (state_of (seen p)) (made (entry.Got d))) + 1 ≡ owed (state_of (seen p))
got_less p d H exists served = owed_got (setup_by (seen p)) (state_of (seen p)) d (below_eight p d H exists) served

heard_now : (p : Parts) (d : ℕ) (none side : SideState) (heard : Heard) → Holds p → d < length p.sides → IsHeardFrom (get_or p.sides d none) side heard
    → IsHeardOf (dev_of (seen p) d) side heard
heard_now p d none side heard H within from_ = heard_of (dev_of (seen p) d) (get_or p.sides d none) side heard (H.stands.each_side d none within).transit from_

pub got_holds : (p : Parts) (d : ℕ) (none side : SideState) (heard : Heard) → Holds p → d < length p.machine.device
    → IsHeardFrom (get_or p.sides d none) side heard
    → Holds (record p { sides = set p.sides d side; journal = pushed_reserved p.journal (entry.Got d) })
    × GotSo (seen p) (seen (record p { sides = set p.sides d side; journal = pushed_reserved p.journal (entry.Got d) })) d (Some heard)
got_holds p d none side heard H exists from_ =
    let s : State = state_of (seen p) in
    let v : DeviceRun = s.devs d in
    let old : SideState = get_or p.sides d none in
    let later : JournalState = pushed_reserved p.journal (entry.Got d) in
    let within : d < length p.sides = (let r = H.slots in omega (arith, r, exists)) in
    let R = H.stands.each_side d none within in
    let is = heard_now p d none side heard H within from_ in
    let served : IsServed v.phase = rw is.served tt in
    let less = got_less p d H exists served in
    let one = records_for_alone p.journal (entry.Got d) tt in
    let reserved : later.reserved_records ≡ owed (done (setup_by (seen p)) s (made (entry.Got d))) = (let r = H.stands.reserved_is in omega (arith, one, less, r)) in
    let can : Can (setup_by (seen p)) s (made (entry.Got d)) = (has_device p.machine d exists, served) in
    let beside = heard_beside old side heard from_ in
    let with : IsWith p.journal later (entry.Got d) = record { entries = refl; outer = refl; record_room = refl; payload_room = refl; reserved_bytes = omega arith } in (
      entry_holds p (entry.Got d) p.guest p.grants (set p.sides d side) p.waits p.ring later H can with
          (record { harts = refl; steps = refl; slots = length-set p.sides d side; theirs = H.theirs })
          (phase_stands p.machine.tube p.guest p.grants.withdrawn p.sides p.waits p.journal.reserved_records later.reserved_records s d (heard_by v) Phase.Quiet side none
          H.stands within beside
          (side_moved p.machine.tube s.mode v (heard_by v) Phase.Quiet old side R beside is.transit
          (λ told. record {
            ending = (R.told (sym beside.told ∙ told)).ending;
            memory = answered_none side.memory is.transit.0.memory;
            interrupts = answered_none side.interrupts is.transit.0.interrupts;
          }))
          reserved)
          (ring_kept p H)
          (owed_finds_room p.machine.journal_entries (setup_by (seen p)) s p.journal.entries (entry.Got d) H.room less),
      (
        record { served = is.served; fits = heard_fits v heard ((run_of p H).serving d).heard is.served },
        rw (map-set_same (λ (x : SideState). x.told) p.sides d side none beside.told) refl,
      ),
    )

-- no reply lies there
got_none : (p : Parts) (d : ℕ) (none : SideState) (ended : Bool) → Holds p → d < length p.machine.device → IsUnanswered (get_or p.sides d none)
    → (ended ≡ true → IsOpen p.guest.mode → ⊥) → ((IsOpen p.guest.mode → ⊥) → ended ≡ true)
    → Holds (record p { sides = set p.sides d (if ended then record (get_or p.sides d none) { told = true } else get_or p.sides d none) })
    × GotSo (seen p) (seen (record p { sides = set p.sides d (if ended then record (get_or p.sides d none) { told = true } else get_or p.sides d none) })) d None
got_none p d none true H exists empty over again =
    let within : d < length p.sides = (let r = H.slots in omega (arith, r, exists)) in
    let closed : IsOpen (state_of (seen p)).mode → ⊥ = λ o. over refl (subst (λ (m : Mode). IsOpen m) H.stands.mode_is o) in (
      told_holds p d none H within closed empty.0 empty.1,
      (
        λ heard. unserved (dev_of (seen p) d) (get_or p.sides d none) heard (H.stands.each_side d none within).transit empty,
        by_mode (state_of (seen p)).mode closed,
      ),
    )
  where
    by_mode : (m : Mode) → (IsOpen m → ⊥) → HeardNone m (seen p) (seen (record p { sides = set p.sides d (record (get_or p.sides d none) { told = true }) })) d
    by_mode (mode.Ending cause) closed = told_is p d none
    by_mode mode.Running closed = absurd (closed tt)
got_none p d none false H exists empty over again =
    let within : d < length p.sides = (let r = H.slots in omega (arith, r, exists)) in
    rw (set-get_or p.sides d none) (
      H,
      (
        λ heard. unserved (dev_of (seen p) d) (get_or p.sides d none) heard (H.stands.each_side d none within).transit empty,
        by_mode (state_of (seen p)).mode (λ ends. true≢false (sym (again (λ o. ends (rw H.stands.mode_is o))))),
      ),
    )
  where
    by_mode : (m : Mode) → ((IsOpen m → ⊥) → ⊥) → HeardNone m (seen p) (seen p) d
    by_mode (mode.Ending cause) is_open = absurd (is_open (λ o. o))
    by_mode mode.Running is_open = refl

-- 5. The same, as the call has its values

pub got_reserved : (p : Parts) (d slot : ℕ) (heard : Heard) (element later : SideState) (ended : Bool) (result : Option Heard) → slot ≡ d → element ≡ get_or p.sides slot element
    → HeardSo element later ended result → result ≡ Some heard → Holds p → d < length p.machine.device → IsReserved p.journal (entry.Got d)
got_reserved p d slot heard element later ended result slot_is here so is H exists =
    let at : element ≡ get_or p.sides d element = subst (λ (k : ℕ). element ≡ get_or p.sides k element) slot_is here in
    let within : d < length p.sides = (let r = H.slots in omega (arith, r, exists)) in
    let from_ : IsHeardFrom element later heard = (let r = rw is at so in r) in
    let now = heard_now p d element later heard H within (subst (λ (x : SideState). IsHeardFrom x later heard) at from_) in
    let less = got_less p d H exists (rw now.served tt) in
    let one = records_for_alone p.journal (entry.Got d) tt in
    let reserved = H.stands.reserved_is in
    record { records = omega (arith, one, less, reserved); bytes = omega arith }

pub got_call : (p : Parts) (d slot : ℕ) (heard : Heard) (element later : SideState) (journal : JournalState) (ended : Bool) (result : Option Heard) → slot ≡ d
    → element ≡ get_or p.sides slot element → HeardSo element later ended result → result ≡ Some heard → journal ≡ pushed_reserved p.journal (entry.Got d)
    → (start : Seen) → Holds p → d < length p.machine.device → seen p ≡ start
    → Holds (record p { sides = set p.sides slot later; journal = journal })
    × GotSo start (seen (record p { sides = set p.sides slot later; journal = journal })) d (Some heard)
got_call p d slot heard element later journal ended result slot_is here so is journal_is start H exists start_is =
    let at : element ≡ get_or p.sides d element = subst (λ (k : ℕ). element ≡ get_or p.sides k element) slot_is here in
    let from_ : IsHeardFrom element later heard = (let r = rw is at so in r) in
    let good = got_holds p d element later heard H exists (subst (λ (x : SideState). IsHeardFrom x later heard) at from_) in
    rw (slot_is, journal_is) (
      good.0,
      subst (λ (b : Seen). GotSo b (seen (record p { sides = set p.sides d later; journal = pushed_reserved p.journal (entry.Got d) })) d (Some heard)) start_is good.1,
    )

pub none_heard_call : (p : Parts) (d slot : ℕ) (element later : SideState) (ended : Bool) (result : Option Heard) → slot ≡ d
    → element ≡ get_or p.sides slot element → HeardSo element later ended result → result ≡ None
    → (ended ≡ true → IsOpen p.guest.mode → ⊥) → ((IsOpen p.guest.mode → ⊥) → ended ≡ true)
    → (start : Seen) → Holds p → d < length p.machine.device → seen p ≡ start
    → Holds (record p { sides = set p.sides slot later }) × GotSo start (seen (record p { sides = set p.sides slot later })) d None
none_heard_call p d slot element later ended result slot_is here so is over again start H exists start_is =
    let at : element ≡ get_or p.sides d element = subst (λ (k : ℕ). element ≡ get_or p.sides k element) slot_is here in
    let none : IsUnanswered element × (later ≡ (if ended then record element { told = true } else element)) = (let r = rw is at so in r) in
    let Good : SideState → Type 0 = λ x. Holds (record p { sides = set p.sides d x }) × GotSo start (seen (record p { sides = set p.sides d x })) d None in
    let side : SideState = (if ended then record (get_or p.sides d element) { told = true } else get_or p.sides d element) in
    let held = got_none p d element ended H exists (subst IsUnanswered at none.0) over again in
    let good : Good (if ended then record (get_or p.sides d element) { told = true } else get_or p.sides d element) =
    (held.0, subst (λ (b : Seen). GotSo b (seen (record p { sides = set p.sides d side })) d None) start_is held.1) in
    rw (slot_is, none.1) (subst (λ (x : SideState). Good (if ended then record x { told = true } else x)) (sym at) good)
