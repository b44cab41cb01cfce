-- A burst that made no event: the hart stalls, or the run ends for want of room.
use Rattle.std.proofs.Common.{◌≡◌, ◌⊎◌, ℕ, ◌+◌, ◌<◌, inl, inr, Bool, true, false, length, get_or, Option, Some, None, refl, sym, ◌∙◌, subst, arith}
use Rattle.std.specs.Option.{is_some}
use Rattle.std.specs.Prelude.{nat_le}
use Rattle.std.proofs.lemmas.Bool.{true≢false, lt-leb}
use Rattle.std.proofs.lemmas.Bool.Decides.{leb_tells}
use Rattle.tv_base.specs.declared.Access.{Access}
use Rattle.tv_base.specs.declared.Access.TheVariants as access
use Rattle.tv_base.specs.declared.Why.TheVariants as why
use Rattle.tv_base.specs.declared.limits.TheConstants.{HARTS}
use Rattle.tv_guest.specs.Burst.{IsBurstOf, Stops}
use Rattle.tv_guest.specs.GuestState.{GuestState}
use Rattle.tv_guest.specs.Looks.{LooksSo}
use Rattle.tv_journal.specs.declared.Entry.TheVariants as entry
use Rattle.tv_journal.specs.Journals.{JournalState, has_room, has_room_with}
use Rattle.tv_side.specs.Sides.{SideState}
use Rattle.tv_spec.specs.declared.Closed.{Closed}
use Rattle.tv_spec.specs.declared.Maker.{Maker}
use Rattle.tv_spec.specs.declared.Mode.{Mode}
use Rattle.tv_spec.specs.declared.Mode.TheVariants as mode
use Rattle.tv_spec.specs.declared.Pending.{Pending}
use Rattle.tv_spec.specs.declared.Shown.{Shown}
use Rattle.tv_spec.specs.declared.Shown.TheVariants as shown
use Rattle.tv_spec.specs.Devices.{item_of, with_item}
use Rattle.tv_spec.specs.Room.{owed, owed_to_hart}
use Rattle.tv_spec.specs.State.{State}
use Rattle.tv_spec.specs.Step.{IsOpen, after_event, done, event_of, issued, made, pending_by}
use Rattle.tv_spec.proofs.Memory.{IsToDevice}
use Rattle.tv_spec.proofs.Owed.{loads_changed, phases_kept}
use Rattle.tv_core.specs.Bursts.{AreGates, is_held_up}
use Rattle.tv_core.specs.Calls.{EndsTurn, Stalls, has_room_in}
use Rattle.tv_core.specs.Holds.{Holds, Parts, seen}
use Rattle.tv_core.specs.Seen.{setup_by, state_of}
use Rattle.tv_core.proofs.Ending.{end_holds}
use Rattle.tv_core.proofs.Loads.{event_records, load_records}
use Rattle.tv_core.proofs.Stopping.{IsLoad, full_gated, gated_load, held_up_not, held_up_stalls, hosts, shown_there}

-- 1. Where a hart makes events

pub open_runs : (m : Mode) → IsOpen m → m ≡ mode.Running
open_runs (mode.Ending cause) is_open = absurd is_open
open_runs mode.Running is_open = refl

pub free_hart : (p : Parts) (hart : ℕ) → Holds p → hart < HARTS → get_or p.waits hart false ≡ false → (state_of (seen p)).pending hart ≡ None
free_hart p hart H below flag = by_load ((state_of (seen p)).pending hart) (sym (H.stands.each_flag hart below) ∙ flag)
  where
    by_load : (o : Option Pending) → is_some o ≡ false → o ≡ None
    by_load None is = refl
    by_load (Some load) is = absurd (true≢false is)

-- the run goes on, and the hart is there and waits for nothing
pub record IsReady (p : Parts) (hart : ℕ) : Type 0 where
  pub holds : Holds p
  pub exists : hart < p.machine.harts
  pub below : hart < 8
  pub running : (state_of (seen p)).mode ≡ mode.Running
  pub free : (state_of (seen p)).pending hart ≡ None

pub is_ready : (p : Parts) (hart : ℕ) → Holds p → hart < p.machine.harts → hart < HARTS → IsOpen (state_of (seen p)).mode → get_or p.waits hart false ≡ false → IsReady p hart
is_ready p hart H exists below is_open flag = record {
  holds = H;
  exists = exists;
  below = below;
  running = open_runs (state_of (seen p)).mode is_open;
  free = free_hart p hart H below flag;
}

-- 2. What an event is owed after it

abbrev pub owed_by : Shown → ℕ
owed_by (shown.Access d how) = owed_to_hart (pending_by d 0 how)
owed_by _ = 0

pub owed_shown : (s : State) (h : ℕ) (what : Shown) → h < 8 → s.pending h ≡ None → owed (issued h what s) ≡ owed s + owed_by what
owed_shown s h shown.Nothing below none = omega arith
owed_shown s h (shown.Byte byte) below none = omega arith
owed_shown s h (shown.Finish finish) below none = omega arith
owed_shown s h (shown.Access d how) below none =
    let phases = phases_kept s.devs d (with_item (s.devs d) (record { item = item_of how; maker = Maker.Hart h })) refl in
    let loads = loads_changed s.pending h (pending_by d (length (s.devs d).made) how) below in
    let free : owed_to_hart (s.pending h) ≡ 0 = rw none refl in
    let same : owed_to_hart (pending_by d (length (s.devs d).made) how) ≡ owed_to_hart (pending_by d 0 how) = any_tag how in
    omega (arith, phases, loads, free, same)
  where
    any_tag : (a : Access) → owed_to_hart (pending_by d (length (s.devs d).made) a) ≡ owed_to_hart (pending_by d 0 a)
    any_tag (access.Load width off) = refl
    any_tag (access.Store width off value) = refl

pub owed_event : (p : Parts) (hart : ℕ) → IsReady p hart
    → owed (done (setup_by (seen p)) (state_of (seen p)) (made (entry.Hart hart))) ≡ owed (state_of (seen p)) + owed_by (event_of (state_of (seen p)) hart).2.shown
owed_event p hart R =
    owed_shown (after_event (setup_by (seen p)) (state_of (seen p)) hart) hart (event_of (state_of (seen p)) hart).2.shown R.below R.free

two_owed : (what : Shown) → IsLoad what → owed_by what ≡ 2
two_owed shown.Nothing is = absurd is
two_owed (shown.Byte byte) is = absurd is
two_owed (shown.Finish finish) is = absurd is
two_owed (shown.Access d (access.Load width off)) is = refl
two_owed (shown.Access d (access.Store width off value)) is = absurd is

above : (a b : ℕ) → nat_le a b ≡ false → b < a
above a b is = elim (leb_tells a b) [ inl e ↦ absurd (true≢false (sym e.0 ∙ is)) | inr e ↦ e.1 ]

-- an event finds no record
pub wanting_event : (p : Parts) (hart : ℕ) → IsReady p hart → has_room p.journal (entry.Hart hart) ≡ false → has_room_in (seen p) (entry.Hart hart) ≡ false
wanting_event p hart R none =
    let more = above _ _ (sym (event_records p.journal hart) ∙ none) in
    let reserved = R.holds.stands.reserved_is in
    let room = R.holds.record_room in
    let owes = owed_event p hart R in
    lt-leb _ _ (omega (arith, more, reserved, room, owes))

-- or a load finds none for its Reply and its Deliver
pub wanting_load : (p : Parts) (hart : ℕ) → IsReady p hart → has_room_with p.journal (entry.Hart hart) 2 0 ≡ false → IsLoad (event_of (state_of (seen p)) hart).2.shown
    → has_room_in (seen p) (entry.Hart hart) ≡ false
wanting_load p hart R none load =
    let more = above _ _ (sym (load_records p.journal hart) ∙ none) in
    let reserved = R.holds.stands.reserved_is in
    let room = R.holds.record_room in
    let owes = owed_event p hart R in
    let two = two_owed (event_of (state_of (seen p)) hart).2.shown load in
    lt-leb _ _ (omega (arith, more, reserved, room, owes, two))

-- 3. A burst without an event

-- what the call knows: what it asked for, what was closed, and what the next event would show
pub record MadeNone (p : Parts) (hart asked : ℕ) (room : Bool) (closed : Closed) (guest : GuestState) (looked : Shown) : Type 0 where
  pub asks : (0 < asked) ⊎ (has_room p.journal (entry.Hart hart) ≡ false)
  pub room_is : room ≡ has_room_with p.journal (entry.Hart hart) 2 0
  pub gates : AreGates p.ring.items p.sides room closed
  pub last : Shown
  pub burst : IsBurstOf p.guest guest hart asked closed 0 last
  pub looks : LooksSo guest hart looked

pub looked_is : (p : Parts) (hart asked : ℕ) (room : Bool) (closed : Closed) (guest : GuestState) (looked : Shown) → IsReady p hart → MadeNone p hart asked room closed guest looked
    → looked ≡ (event_of (state_of (seen p)) hart).2.shown
looked_is p hart asked room closed guest looked R N =
    (subst (λ (g : GuestState). LooksSo g hart looked) (N.burst.same refl).0 N.looks).would (setup_by (seen p)) (state_of (seen p)) (hosts p hart R.holds R.exists R.free) R.running

pub looked_there : (p : Parts) (hart asked : ℕ) (room : Bool) (closed : Closed) (guest : GuestState) (looked : Shown) → IsReady p hart → MadeNone p hart asked room closed guest looked
    → IsToDevice (length p.sides) looked
looked_there p hart asked room closed guest looked R N =
    subst (λ (x : Shown). IsToDevice (length p.sides) x) (sym (looked_is p hart asked room closed guest looked R N)) (shown_there p hart R.holds)

pub stalls_there : (p : Parts) (hart asked : ℕ) (room : Bool) (closed : Closed) (guest : GuestState) (looked : Shown) (none : SideState) → IsReady p hart → MadeNone p hart asked room closed guest looked
    → is_held_up p.ring.items p.sides none looked ≡ true → Stalls (seen p) hart
stalls_there p hart asked room closed guest looked none R N held =
    let is = looked_is p hart asked room closed guest looked R N in
    held_up_stalls p none (event_of (state_of (seen p)) hart).2.shown R.holds (shown_there p hart R.holds)
    (subst (λ (x : Shown). is_held_up p.ring.items p.sides none x ≡ true) is held)

wanting : (p : Parts) (hart asked : ℕ) (room : Bool) (closed : Closed) (guest : GuestState) (looked : Shown) (none : SideState) → IsReady p hart → MadeNone p hart asked room closed guest looked
    → is_held_up p.ring.items p.sides none (event_of (state_of (seen p)) hart).2.shown ≡ false → has_room_in (seen p) (entry.Hart hart) ≡ false
wanting p hart asked room closed guest looked none R N free = elim N.asks [
  | inl some ↦ by_stop some (N.burst.stops (setup_by (seen p)) (state_of (seen p)) (hosts p hart R.holds R.exists R.free) some)
  | inr short ↦ wanting_event p hart R short
]
  where
    by_stop : 0 < asked → Stops closed (state_of (seen p)) hart N.last → has_room_in (seen p) (entry.Hart hart) ≡ false
    by_stop some (inl shows) = absurd (shows (N.burst.same refl).1)
    by_stop some (inr (inl over)) = absurd (over R.running)
    by_stop some (inr (inr full)) =
        let load = gated_load p.ring.items p.sides room closed none (event_of (state_of (seen p)) hart).2.shown N.gates (shown_there p hart R.holds)
        (full_gated closed (state_of (seen p)) hart full) free in
        wanting_load p hart R (sym N.room_is ∙ load.1) load.0

-- the run ends for want of room
pub full_turn : (p : Parts) (hart asked seat : ℕ) (room : Bool) (closed : Closed) (guest ended_guest : GuestState) (looked : Shown) (none : SideState) (journal ended_in : JournalState)
    → IsReady p hart → MadeNone p hart asked room closed guest looked → is_held_up p.ring.items p.sides none looked ≡ false
    → journal ≡ p.journal → ended_guest ≡ record guest { mode = mode.Ending why.Full } → ended_in ≡ record journal { outer = Some (length journal.entries, why.Full) } → seat ≡ hart + 1
    → Holds (record p { guest = ended_guest; journal = ended_in; seat = seat }) × EndsTurn (seen p) (seen (record p { guest = ended_guest; journal = ended_in; seat = seat })) hart
full_turn p hart asked seat room closed guest ended_guest looked none journal ended_in R N held same guest_is journal_is seat_is =
    let is = looked_is p hart asked room closed guest looked R N in
    let is_open : IsOpen (state_of (seen p)).mode = rw R.running tt in
    let free : is_held_up p.ring.items p.sides none (event_of (state_of (seen p)) hart).2.shown ≡ false =
    subst (λ (x : Shown). is_held_up p.ring.items p.sides none x ≡ false) is held in
    rw (guest_is, (N.burst.same refl).0, journal_is, same, seat_is) (
      end_holds p why.Full (hart + 1) R.holds is_open (λ e. cc),
      inr (record {
        full = record {
          may = record { exists = R.exists; running = R.running; ready = R.free };
          is_open = is_open;
          wanting = wanting p hart asked room closed guest looked none R N free;
          new_is = refl;
        };
        carried = held_up_not p none (event_of (state_of (seen p)) hart).2.shown R.holds (shown_there p hart R.holds) free;
      }),
    )
