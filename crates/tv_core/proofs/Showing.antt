-- What the last event of a burst showed finds its place: in the ring, in a command tube, and in the journal.
use Rattle.std.proofs.Common.{◌≡◌, ◌≢◌, ◌||◌, ℕ, zero, suc, ◌+◌, ◌<◌, ◌≤◌, ◌/◌, ◌∷◌, [], ◌++◌, inl, inr, Bool, true, false, not, length, get_or, replicate, Option, None, refl, ap, sym, ◌∙◌, subst, arith}
use Rattle.std.proofs.lemmas.Bool.{true≢false, le-leb, leb-true}
use Rattle.std.proofs.lemmas.Bool.Decides.{leb_tells}
use Rattle.std.proofs.lemmas.List.{length-map}
use Rattle.circular_buffer.specs.Buffer.{Buffer}
use Rattle.tv_base.specs.declared.Access.TheVariants as access
use Rattle.tv_base.specs.declared.Width.{Width}
use Rattle.tv_base.specs.declared.limits.TheConstants.{DEBUG_RING_BYTES, PAGE_BYTES}
use Rattle.tv_guest.specs.Burst.{IsBurst, events_of}
use Rattle.tv_hart.specs.HartState.{HartState}
use Rattle.tv_journal.specs.declared.Entry.TheVariants as entry
use Rattle.tv_journal.specs.Entries.{record_count}
use Rattle.tv_journal.specs.Journals.{JournalState, has_room, has_room_for, has_room_with, pushed_all, record_limit}
use Rattle.tv_journal.proofs.Records.{run-count}
use Rattle.tv_journal.proofs.Room.{run-room}
use Rattle.tv_side.specs.Sides.{SideState, new_side}
use Rattle.tv_spec.specs.declared.Closed.{Closed}
use Rattle.tv_spec.specs.declared.Mode.{Mode}
use Rattle.tv_spec.specs.declared.Pending.{Pending}
use Rattle.tv_spec.specs.declared.Shown.{Shown}
use Rattle.tv_spec.specs.declared.Shown.TheVariants as shown
use Rattle.tv_spec.specs.Legal.{IsLegal, after}
use Rattle.tv_spec.specs.LocalState.{LocalState}
use Rattle.tv_spec.specs.Setup.{device_setup}
use Rattle.tv_spec.specs.State.{State}
use Rattle.tv_spec.specs.Step.{event_of, made}
use Rattle.tv_spec.proofs.Memory.{IsToDevice}
use Rattle.tv_spec.proofs.Moves.{legal-parts}
use Rattle.tv_spec.proofs.Valid.{run_from, valid_ranges}
use Rattle.tv_spec.proofs.Whole.{event_place}
use Rattle.tv_core.specs.Bursts.{AreGates, CanIssue, FindsByte, FindsRoom, FindsSide, is_full, is_held_up}
use Rattle.tv_core.specs.Holds.{Holds, Parts, seen}
use Rattle.tv_core.specs.Seen.{setup_by, state_of}
use Rattle.tv_core.specs.Stands.{tag_at}
use Rattle.tv_core.proofs.Fronts.{events_next}
use Rattle.tv_core.proofs.Gates.{IsShownInPlace, is_gated}
use Rattle.tv_core.proofs.Halting.{IsReady}
use Rattle.tv_core.proofs.Loads.{free_records, load_records}
use Rattle.tv_core.proofs.Room.{run_of}
use Rattle.tv_core.proofs.Stopping.{event_gated, made_open}

-- what the call knows of a burst that made an event
pub record MadeSome (p : Parts) (hart count : ℕ) (room : Bool) (closed : Closed) (what : Shown) : Type 0 where
  pub some : count ≢ 0
  pub own : has_room p.journal (entry.Hart hart) ≡ true
  pub room_is : room ≡ has_room_with p.journal (entry.Hart hart) 2 0
  pub gates : AreGates p.ring.items p.sides room closed
  pub later : HartState
  pub local : LocalState
  pub now : Mode
  pub burst : IsBurst (setup_by (seen p)) (state_of (seen p)) hart count later local now closed what

-- what the last event showed is open, lies in the registers of a device that is there, and is not full
pub record IsLastShown (p : Parts) (closed : Closed) (what : Shown) : Type 0 where
  pub open_ : is_gated closed what ≡ false
  pub place : IsShownInPlace what
  pub there : IsToDevice (length p.sides) what

pub last_shown : (p : Parts) (hart count : ℕ) (room : Bool) (closed : Closed) (what : Shown) → IsReady p hart → MadeSome p hart count room closed what → IsLastShown p closed what
last_shown p hart zero room closed what R M = absurd (M.some refl)
last_shown p hart (suc n) room closed what R M =
    let s : State = state_of (seen p) in
    let front : IsLegal (setup_by (seen p)) s (events_of hart n) =
    (legal-parts (setup_by (seen p)) s (events_of hart n) (made (entry.Hart hart) ∷ []) (subst (IsLegal (setup_by (seen p)) s) (events_next hart n) M.burst.legal)).0 in
    let run = run_from (setup_by (seen p)) p.machine.ram (p.machine.ram / PAGE_BYTES) s (events_of hart n) (valid_ranges p.machine R.holds.valid) front (run_of p R.holds) in
    let t : State = after (setup_by (seen p)) s (events_of hart n) in
    let at = event_place (setup_by (seen p)) p.machine.ram (p.machine.ram / PAGE_BYTES) t hart run.whole in
    let count : length (setup_by (seen p)).devices ≡ length p.sides = length-map p.machine.device device_setup ∙ sym R.holds.slots in
    let is : what ≡ (event_of t hart).2.shown = M.burst.last n refl in
    rw is record {
      open_ = made_open closed t hart (M.burst.carried n (omega arith));
      place = (event_gated closed t hart).1;
      there = subst (λ (k : ℕ). IsToDevice k (event_of t hart).2.shown) count at.seen;
    }

-- 1. The ring, and the tube

pub finds_byte : (p : Parts) (closed : Closed) (what : Shown) (none : SideState) → Holds p → is_held_up p.ring.items p.sides none what ≡ false → FindsByte (length p.ring.items) p.ring.capacity what
finds_byte p closed shown.Nothing none H free = tt
finds_byte p closed (shown.Finish finish) none H free = tt
finds_byte p closed (shown.Access d how) none H free = tt
finds_byte p closed (shown.Byte byte) none H free =
    let all : p.ring.capacity ≡ DEBUG_RING_BYTES = ap (λ (b : Buffer ℕ). b.capacity) H.ring_is in
    rw all (elim (leb_tells DEBUG_RING_BYTES (length p.ring.items)) [ inl e ↦ absurd (true≢false (sym e.0 ∙ free)) | inr e ↦ e.1 ])

pub finds_side : (p : Parts) (hart : ℕ) (closed : Closed) (what : Shown) → IsReady p hart → IsLastShown p closed what → ((none : SideState) → is_held_up p.ring.items p.sides none what ≡ false)
    → FindsSide hart p.sides what
finds_side p hart closed shown.Nothing R L free = tt
finds_side p hart closed (shown.Byte byte) R L free = tt
finds_side p hart closed (shown.Finish finish) R L free = tt
finds_side p hart closed (shown.Access d how) R L free = (L.there, λ none. can none)
  where
    can : (none : SideState) → CanIssue (get_or p.sides d none) hart how
    can none =
        let side : SideState = get_or p.sides d none in
        let S = R.holds.stands.each_side d none L.there in
        let items = (run_of p R.holds).bounded.items d in
        let events = (run_of p R.holds).bounded.events in
        let steps = R.holds.valid.steps.1 in
        let numbers = S.made in
        let waits : get_or side.proxy.harts hart None ≡ tag_at d ((state_of (seen p)).pending hart) = R.holds.stands.each_wait d none hart L.there R.below in
        record {
          numbers = omega (arith, numbers, items, events, steps);
          free = waits ∙ ap (λ (o : Option Pending). tag_at d o) R.free;
          place = L.place.0;
          room = elim (leb_tells side.tube (length side.items)) [ inl e ↦ absurd (true≢false (sym e.0 ∙ free none)) | inr e ↦ e.1 ];
        }

-- 2. The journal

pub pushed_events : (p : Parts) (hart count : ℕ) (room : Bool) (closed : Closed) (what : Shown) (later : JournalState) (added : Bool) → MadeSome p hart count room closed what
    → ◌≡◌ {A = Bool × JournalState} (added, later) (pushed_all p.journal (replicate count (entry.Hart hart)))
    → later ≡ record p.journal { entries = p.journal.entries ++ replicate count (entry.Hart hart) }
pushed_events p hart count room closed what later added M is =
    let some : 0 < count = (let r = M.some in omega (arith, r)) in
    let fits : has_room_for p.journal (replicate count (entry.Hart hart)) ≡ true = run-room p.journal hart count some ∙ M.own in
    let all : ◌≡◌ {A = Bool × JournalState} (pushed_all p.journal (replicate count (entry.Hart hart))) (true, record p.journal { entries = p.journal.entries ++ replicate count (entry.Hart hart) }) = rw fits refl in
    ap (λ (r : Bool × JournalState). r.1) (is ∙ all)

-- a load was open, so there is room for its Reply and its Deliver
pub load_fits : (p : Parts) (hart count : ℕ) (room : Bool) (closed : Closed) (d : ℕ) (width : Width) (off : ℕ) → MadeSome p hart count room closed (shown.Access d (access.Load width off))
    → IsLastShown p closed (shown.Access d (access.Load width off)) → record_count (p.journal.entries ++ entry.Hart hart ∷ []) + 2 ≤ record_limit p.journal
load_fits p hart count room closed d width off M L =
    let open_ : room ≡ true = by_room (is_full (get_or p.sides d none)) room (sym (M.gates.loads d none L.there) ∙ L.open_) in
    leb-true _ _ (sym (load_records p.journal hart) ∙ sym M.room_is ∙ open_)
  where
    none : SideState
    none = new_side 0

    by_room : (full b : Bool) → (full || not b) ≡ false → b ≡ true
    by_room full true is = refl
    by_room true false is = absurd (true≢false is)
    by_room false false is = absurd (true≢false is)

pub finds_room : (p : Parts) (hart count : ℕ) (room : Bool) (closed : Closed) (what : Shown) → MadeSome p hart count room closed what → IsLastShown p closed what
    → FindsRoom (record p.journal { entries = p.journal.entries ++ replicate count (entry.Hart hart) }) what
finds_room p hart zero room closed what M L = absurd (M.some refl)
finds_room p hart (suc n) room closed shown.Nothing M L = tt
finds_room p hart (suc n) room closed (shown.Byte byte) M L = tt
finds_room p hart (suc n) room closed (shown.Finish finish) M L = tt
finds_room p hart (suc n) room closed (shown.Access d (access.Store width off value)) M L = tt
finds_room p hart (suc n) room closed (shown.Access d (access.Load width off)) M L =
    let later : JournalState = record p.journal { entries = p.journal.entries ++ replicate (suc n) (entry.Hart hart) } in
    let some = load_fits p hart (suc n) room closed d width off M L in
    let count = run-count p.journal.entries hart n in
    free_records later 2 ∙ le-leb _ _ (omega (arith, some, count))
