-- A service does a request, or the run ends as full where it finds no room.
use Rattle.std.proofs.Common.{◌≡◌, ◌≢◌, ℕ, ◌+◌, ◌<◌, inr, Bool, true, false, List, [], ◌∷◌, ◌++◌, length, get_or, set, Option, Some, refl, ap, sym, ◌∙◌, subst, arith, length-set}
use Rattle.std.specs.Option.{is_some}
use Rattle.std.specs.Prelude.{nat_le}
use Rattle.std.proofs.Math.Seq.{map-set_same}
use Rattle.tv_base.specs.declared.Why.TheVariants as why
use Rattle.tv_grants.specs.Grants.{GrantState}
use Rattle.tv_guest.specs.Direct.{granted_to}
use Rattle.tv_guest.specs.GuestState.{GuestState}
use Rattle.tv_items.specs.declared.action.Action.{Action}
use Rattle.tv_items.specs.declared.action.Heard.{Heard}
use Rattle.tv_items.specs.declared.action.Way.{Way}
use Rattle.tv_items.specs.declared.action.Way.TheVariants.{Memory, Interrupt, Outside}
use Rattle.tv_items.specs.Fits.{IsAction, way_of}
use Rattle.tv_journal.specs.declared.Entry.{Entry}
use Rattle.tv_journal.specs.Entries.{payload_in, record_count}
use Rattle.tv_journal.specs.Journals.{JournalState, has_room, pushed}
use Rattle.tv_plan.specs.Devices.{DeviceState}
use Rattle.tv_proxy.specs.Messages.{heard_in}
use Rattle.tv_proxy.specs.Proxies.{ProxyState}
use Rattle.tv_script.specs.Services.{Next, Asks}
use Rattle.tv_side.specs.Sides.{SideState, lane_of, with_answer, without_request}
use Rattle.tv_spec.specs.declared.Mode.{Mode}
use Rattle.tv_spec.specs.declared.Mode.TheVariants as mode
use Rattle.tv_spec.specs.declared.Phase.{Phase}
use Rattle.tv_spec.specs.Devices.{CanServe, GoesBy, next_of}
use Rattle.tv_spec.specs.Direct.{Direct, direct}
use Rattle.tv_spec.specs.LocalState.{LocalState}
use Rattle.tv_spec.specs.Room.{owed}
use Rattle.tv_spec.specs.Setup.{Setup}
use Rattle.tv_spec.specs.Shows.{bytes_of}
use Rattle.tv_spec.specs.State.{State, DeviceRun, device_in}
use Rattle.tv_spec.specs.Step.{Can, IsOpen, done, made, put_dev, served, served_as}
use Rattle.tv_spec.proofs.Owed.{owed_served}
use Rattle.tv_core.specs.Calls.{IsFull, NotServed, ServedSo, has_room_in}
use Rattle.tv_core.specs.Holds.{Holds, Parts, seen}
use Rattle.tv_core.specs.Seen.{Seen, dev_of, seat_of, setup_by, state_of}
use Rattle.tv_core.specs.Serves.{reply_message, request_by, serve_entry}
use Rattle.tv_wire.specs.declared.Msg.{Msg}
use Rattle.tv_core.specs.Stands.{Stands}
use Rattle.tv_core.proofs.Ending.{end_holds}
use Rattle.tv_core.proofs.Entries.{entry_holds}
use Rattle.tv_core.proofs.Hearing.{below_eight}
use Rattle.tv_core.proofs.Keeping.{same_place, stands_dev}
use Rattle.tv_core.proofs.Room.{room_alone}
use Rattle.tv_core.proofs.Sending.{filled}
use Rattle.tv_core.proofs.Served.{asked_call, heard_fits, requested, setup_granted}
use Rattle.tv_core.proofs.Serving.{IsAskedFor, answered_beside, answered_side, next_sent, reply_says, side_served}
use Rattle.tv_core.proofs.Takes.{has_device, is_with, pushed_false, pushed_true, ring_kept}

-- 1. The entry of a service

pub record IsServeOf (setup : Setup) (s : State) (d : ℕ) (way : Way) (e : Entry) : Type 0 where
  pub done_is : done setup s (made e) ≡ record (served setup s d (next_of (s.devs d))) { ticked = false }
  pub can : d < length setup.devices → IsOpen s.mode → CanServe (s.devs d) way → Can setup s (made e)
  pub bytes : bytes_of s (made e) ≡ []
  pub payload : payload_in e ≡ 0

pub serve_of : (setup : Setup) (s : State) (d : ℕ) (way : Way) → way ≢ Outside → IsServeOf setup s d way (serve_entry way d)
serve_of setup s d Memory inside = record { done_is = refl; can = λ a b c. (a, b, c); bytes = refl; payload = refl }
serve_of setup s d Interrupt inside = record { done_is = refl; can = λ a b c. (a, b, c); bytes = refl; payload = refl }
serve_of setup s d Outside inside = absurd (inside refl)

pub can_serve : (v : DeviceRun) (s : SideState) (way : Way) (a : Action) → IsAskedFor v s way a → CanServe v way
can_serve v s way a asked = record {
  sent = asked.sent;
  asks = subst (λ (n : Next DeviceState). GoesBy way n) (sym (next_sent v (Asks a) asked.sent asked.next_is)) asked.goes;
}

serve_owes : (p : Parts) (d : ℕ) (way : Way) → Holds p → d < length p.machine.device → way ≢ Outside → (dev_of (seen p) d).phase ≡ Phase.Sent
    → owed (done (setup_by (seen p)) (state_of (seen p)) (made (serve_entry way d))) ≡ owed (state_of (seen p))
serve_owes p d way H exists inside sent =
    let s : State = state_of (seen p) in
    let r = owed_served (setup_by (seen p)) s d (next_of (s.devs d)) (below_eight p d H exists) sent in
    ap owed (serve_of (setup_by (seen p)) s d way inside).done_is ∙ r

pub serve_room : (p : Parts) (d : ℕ) (way : Way) → Holds p → d < length p.machine.device → way ≢ Outside → (dev_of (seen p) d).phase ≡ Phase.Sent
    → has_room p.journal (serve_entry way d) ≡ has_room_in (seen p) (serve_entry way d)
serve_room p d way H exists inside sent =
    let s : State = state_of (seen p) in
    room_alone p.journal (serve_entry way d) p.machine.journal_entries (owed s) H.record_room H.stands.reserved_is (let h = H.room in omega (arith, h))
    (serve_of (setup_by (seen p)) s d way inside).payload
    ∙ ap (λ (n : ℕ). nat_le (record_count (p.journal.entries ++ serve_entry way d ∷ []) + n) p.machine.journal_entries) (sym (serve_owes p d way H exists inside sent))

-- 2. The action is done

abbrev served_state : State → ℕ → Heard → LocalState → List Bool → State
served_state s d h local pages = record (put_dev s d (record (s.devs d) { phase = Phase.Served h })) { local = local; withdrawn = pages; ticked = false }

served_is : (p : Parts) (d : ℕ) (way : Way) (a : Action) (h : Heard) (local : LocalState) (pages : List Bool) (side : SideState) → Holds p → d < length p.machine.device
    → way ≢ Outside → IsAskedFor (dev_of (seen p) d) side way a
    → direct (granted_to p.grants d) d p.guest.local p.grants.withdrawn a ≡ record { heard = h; local = local; withdrawn = pages }
    → done (setup_by (seen p)) (state_of (seen p)) (made (serve_entry way d)) ≡ served_state (state_of (seen p)) d h local pages
served_is p d way a h local pages side H exists inside asked acted =
    let s : State = state_of (seen p) in
    let setup : Setup = setup_by (seen p) in
    let direct_is : direct (device_in setup.devices d) d s.local s.withdrawn a ≡ record { heard = h; local = local; withdrawn = pages } =
    rw (setup_granted p d H exists, H.stands.local_is, H.stands.withdrawn_is) acted in
    (serve_of setup s d way inside).done_is
    ∙ ap (λ (n : Next DeviceState). let r : State = record (served setup s d n) { ticked = false } in r) (next_sent (s.devs d) (Asks a) asked.sent asked.next_is)
    ∙ ap (λ (x : Direct). let r : State = record (served_as s d x) { ticked = false } in r) direct_is

pub served_holds : (p : Parts) (d : ℕ) (none : SideState) (way : Way) (a : Action) (h : Heard) (local : LocalState) (pages : List Bool) (reply : Msg) (later : JournalState) (added : Bool)
    → Holds p → d < length p.machine.device → way ≢ Outside → IsOpen (state_of (seen p)).mode
    → IsAskedFor (dev_of (seen p) d) (get_or p.sides d none) way a
    → direct (granted_to p.grants d) d p.guest.local p.grants.withdrawn a ≡ record { heard = h; local = local; withdrawn = pages } → heard_in reply ≡ Some h
    → added ≡ true → ◌≡◌ {A = Bool × JournalState} (added, later) (pushed p.journal (serve_entry way d))
    → Holds (record p {
      guest = record p.guest { local = local };
      grants = record p.grants { withdrawn = pages };
      sides = set p.sides d (answered_side (get_or p.sides d none) way reply);
      journal = later;
    })
    × ServedSo (seen p) (seen (record p { sides = set p.sides d (answered_side (get_or p.sides d none) way reply); journal = later })) d way (serve_entry way d) true
served_holds p d none way a h local pages reply later added H exists inside is_open asked acted says yes_ push =
    let s : State = state_of (seen p) in
    let v : DeviceRun = s.devs d in
    let e : Entry = serve_entry way d in
    let old : SideState = get_or p.sides d none in
    let new : SideState = answered_side old way reply in
    let within : d < length p.sides = (let r = H.slots in omega (arith, r, exists)) in
    let is = serve_of (setup_by (seen p)) s d way inside in
    let can = is.can (has_device p.machine d exists) is_open (can_serve v old way a asked) in
    let push_so = pushed_true p.journal later e added yes_ push in
    let state_is = served_is p d way a h local pages old H exists inside asked acted in
    let owes = serve_owes p d way H exists inside asked.sent in
    let beside = answered_beside old way reply in
    let reserved : later.reserved_records ≡ owed (served_state s d h local pages) =
    ap (λ (j : JournalState). j.reserved_records) push_so.1 ∙ H.stands.reserved_is ∙ sym owes ∙ ap owed state_is in
    let stands : Stands p.machine.tube (record p.guest { local = local }) pages (set p.sides d new) p.waits later.reserved_records (served_state s d h local pages) =
    stands_dev p.machine.tube p.guest (record p.guest { local = local }) p.grants.withdrawn pages p.sides p.waits p.journal.reserved_records later.reserved_records s
    (served_state s d h local pages) d (record v { phase = Phase.Served h }) new none H.stands within
    (record {
      guest_harts = refl;
      local_is = refl;
      pages_are = refl;
      mode_is = H.stands.mode_is;
      events_are = H.stands.events_are;
      harts_are = refl;
      devices_are = refl;
      places = λ k. same_place (s.pending k);
    })
    refl refl (ap (λ (x : ProxyState). x.harts) beside.proxy)
    (λ j any lt ne. H.stands.each_side j any lt)
    (side_served p.machine.tube s.mode v way a h reply old (H.stands.each_side d none within) is_open inside asked says)
    reserved in (
      entry_holds p e (record p.guest { local = local }) (record p.grants { withdrawn = pages }) (set p.sides d new) p.waits p.ring later H can
          (is_with p.journal later e push_so.1)
          (record { harts = refl; steps = refl; slots = length-set p.sides d new; theirs = record { ranges = H.theirs.ranges; sources = H.theirs.sources } })
          (rw state_is stands)
          (rw is.bytes (ring_kept p H))
          (sym (serve_room p d way H exists inside asked.sent) ∙ push_so.0),
      (
        can_serve v old way a asked,
        rw (push_so.1, map-set_same (λ (x : SideState). x.told) p.sides d new none beside.told) refl,
      ),
    )

-- 3. The same, as the call has its values

pub served_call : (p : Parts) (d slot : ℕ) (way : Way) (element later side : SideState) (request : ℕ × Action) (result : Option (ℕ × Action)) (h : Heard)
    (guest : GuestState) (grants : GrantState) (reply : Msg) (journal : JournalState) (added : Bool) (e : Entry) (start : Seen)
    → slot ≡ d → element ≡ get_or p.sides slot element → result ≡ request_by (lane_of element way).asked → side ≡ without_request element way → result ≡ Some request
    → way ≢ Outside → Holds p → d < length p.machine.device → IsOpen (state_of (seen p)).mode → IsAction request.1
    → direct (granted_to p.grants d) d p.guest.local p.grants.withdrawn request.1 ≡ record { heard = h; local = guest.local; withdrawn = grants.withdrawn }
    → grants ≡ record p.grants { withdrawn = grants.withdrawn } → guest ≡ record p.guest { local = guest.local }
    → reply ≡ reply_message way request.0 h → later ≡ with_answer side way (Some reply) → e ≡ serve_entry way d
    → added ≡ true → ◌≡◌ {A = Bool × JournalState} (added, journal) (pushed p.journal e) → seen p ≡ start
    → Holds (record p { guest = guest; grants = grants; sides = set p.sides slot later; journal = journal })
    × ServedSo start (seen (record p { sides = set p.sides slot later; journal = journal })) d way (serve_entry way d) true
served_call p d slot way element later side request result h guest grants reply journal added e start slot_is here result_is side_is some inside H exists is_open legal acted grants_are guest_is reply_is later_is e_is yes_ push start_is =
    let within : d < length p.sides = (let r = H.slots in omega (arith, r, exists)) in
    let at : element ≡ get_or p.sides d element = subst (λ (k : ℕ). element ≡ get_or p.sides k element) slot_is here in
    let v : DeviceRun = dev_of (seen p) d in
    let asked : IsAskedFor v (get_or p.sides d element) way request.1 =
    requested v (get_or p.sides d element) way request inside (H.stands.each_side d element within).transit
    (ap (λ (x : SideState). request_by (lane_of x way).asked) (sym at) ∙ sym result_is ∙ some) in
    let goes : way_of request.1 ≢ Outside = λ x. inside (sym asked.goes ∙ x) in
    let says : heard_in reply ≡ Some h =
    ap heard_in reply_is ∙ ap (λ (w : Way). heard_in (reply_message w request.0 h)) (sym asked.goes)
    ∙ reply_says request.0 request.1 h goes (heard_fits p d request.1 h guest.local grants.withdrawn H exists goes acted) in
    let held = served_holds p d element way request.1 h guest.local grants.withdrawn reply journal added H exists inside is_open asked acted says yes_
    (subst (λ (x : Entry). ◌≡◌ {A = Bool × JournalState} (added, journal) (pushed p.journal x)) e_is push) in
    let side2 : later ≡ answered_side (get_or p.sides d element) way reply =
    later_is ∙ ap (λ (x : SideState). with_answer x way (Some reply)) side_is ∙ ap (λ (x : SideState). answered_side x way reply) at in
    let new : List SideState = set p.sides d (answered_side (get_or p.sides d element) way reply) in
    let first : Holds (record p { guest = guest; grants = grants; sides = new; journal = journal }) =
    subst (λ (g : GrantState). Holds (record p { guest = guest; grants = g; sides = new; journal = journal })) (sym grants_are)
    (subst (λ (g : GuestState). Holds (record p { guest = g; grants = record p.grants { withdrawn = grants.withdrawn }; sides = new; journal = journal })) (sym guest_is) held.0) in
    rw (slot_is, side2) (
      first,
      subst (λ (b : Seen). ServedSo b (seen (record p { sides = new; journal = journal })) d way (serve_entry way d) true) start_is held.1,
    )

-- 4. A request for which the journal has no room: the run ends as full, and the request lies where it lay

full_now : (old new : Seen) (d : ℕ) (way : Way) (e : Entry) (m : Mode) → IsOpen m → IsFull old new e → NotServed m old new d way e
full_now old new d way e (mode.Ending cause) is_open full = absurd is_open
full_now old new d way e mode.Running is_open full = inr full

pub unserved_call : (p : Parts) (d slot seat : ℕ) (way : Way) (element : SideState) (has : Bool) (guest : GuestState) (between after : JournalState) (added : Bool)
    (e : Entry) (start : Seen)
    → slot ≡ d → element ≡ get_or p.sides slot element → has ≡ is_some (lane_of element way).asked → has ≡ true
    → way ≢ Outside → Holds p → d < length p.machine.device → IsOpen (state_of (seen p)).mode → e ≡ serve_entry way d
    → guest ≡ record p.guest { mode = mode.Ending why.Full } → after ≡ record between { outer = Some (length between.entries, why.Full) }
    → seat ≡ seat_of p.machine (serve_entry way d)
    → added ≡ false → ◌≡◌ {A = Bool × JournalState} (added, between) (pushed p.journal e) → seen p ≡ start
    → Holds (record p { guest = guest; journal = after; seat = seat })
    × NotServed (state_of start).mode start (seen (record p { guest = guest; journal = after; seat = seat })) d way (serve_entry way d)
unserved_call p d slot seat way element has guest between after added e start slot_is here has_is there inside H exists is_open e_is guest_is after_is seat_is no_ push start_is =
    let q : Parts = filled p (seat_of p.machine (serve_entry way d)) in
    let asked = asked_call p d slot way element has slot_is here has_is there inside H exists in
    let so = pushed_false p.journal between (serve_entry way d) added no_
    (subst (λ (x : Entry). ◌≡◌ {A = Bool × JournalState} (added, between) (pushed p.journal x)) e_is push) in
    let full : IsFull (seen p) (seen q) (serve_entry way d) = record {
      may = (serve_of (setup_by (seen p)) (state_of (seen p)) d way inside).can (has_device p.machine d exists) is_open
          (can_serve (dev_of (seen p) d) (get_or p.sides d element) way asked.0 asked.1);
      is_open = is_open;
      wanting = sym (serve_room p d way H exists inside asked.1.sent) ∙ so.0;
      new_is = refl;
    } in
    rw (guest_is, after_is, so.1, seat_is) (
      end_holds p why.Full (seat_of p.machine (serve_entry way d)) H is_open (λ x. cc),
      subst (λ (b : Seen). NotServed (state_of b).mode b (seen q) d way (serve_entry way d)) start_is
          (full_now (seen p) (seen q) d way (serve_entry way d) (state_of (seen p)).mode is_open full),
    )
