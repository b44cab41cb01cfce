-- A burst that made an event: what the hart is after it, what the journal has, and what a core keeps.
use Rattle.std.proofs.Common.{◌≡◌, ◌≢◌, ℕ, zero, suc, ◌+◌, ◌/◌, ◌<◌, ◌≤◌, ◌==◌, if◌then◌else◌, List, [], ◌∷◌, ◌++◌, length, length-append, length-set, drop, replicate, get_or, Bool, false, None, refl, ap, sym, ◌∙◌, subst, arith}
use Rattle.std.specs.Prelude.{IsSome}
use Rattle.std.proofs.Math.Seq.{map-set_same}
use Rattle.std.proofs.lemmas.Bool.{leb-true}
use Rattle.std.proofs.lemmas.List.{drop-append-le}
use Rattle.circular_buffer.specs.Buffer.{Buffer, buffer}
use Rattle.tv_base.specs.declared.Access.TheVariants as access
use Rattle.tv_base.specs.declared.limits.TheConstants.{DEBUG_RING_BYTES, PAGE_BYTES}
use Rattle.tv_guest.specs.Burst.{IsBurst, IsBurstOf, after_events, events_of}
use Rattle.tv_guest.specs.GuestState.{GuestState}
use Rattle.tv_hart.specs.declared.Did.TheVariants as did
use Rattle.tv_hart.specs.Hart.{Outcome}
use Rattle.tv_hart.specs.HartState.{HartState}
use Rattle.tv_journal.specs.declared.Entry.{Entry}
use Rattle.tv_journal.specs.declared.Entry.TheVariants as entry
use Rattle.tv_journal.specs.Entries.{record_count}
use Rattle.tv_journal.specs.Journals.{JournalState, record_limit}
use Rattle.tv_journal.proofs.Records.{run-count}
use Rattle.tv_side.specs.Sides.{SideState, new_side, with_access}
use Rattle.tv_spec.specs.declared.Closed.{Closed}
use Rattle.tv_spec.specs.declared.Mode.{Mode}
use Rattle.tv_spec.specs.declared.Shown.{Shown}
use Rattle.tv_spec.specs.declared.Shown.TheVariants as shown
use Rattle.tv_spec.specs.Legal.{IsLegal, after, with_outer}
use Rattle.tv_spec.specs.Local.{local_meaning}
use Rattle.tv_spec.specs.LocalState.{LocalState, lines_of}
use Rattle.tv_spec.specs.Reach.{Reach, all_open}
use Rattle.tv_spec.specs.Room.{owed}
use Rattle.tv_spec.specs.Setup.{Setup}
use Rattle.tv_spec.specs.Shows.{byte_shown}
use Rattle.tv_spec.specs.State.{State}
use Rattle.tv_spec.specs.Step.{CanStep, IsOpen, Move, after_event, done, event_of, issued, made}
use Rattle.tv_spec.specs.Update.{update}
use Rattle.tv_spec.proofs.Ahead.{ahead_ready}
use Rattle.tv_spec.proofs.HeldShown.{HeldShows, IsLoadShown, stepped_shows}
use Rattle.tv_spec.proofs.Moves.{after-append, legal-parts}
use Rattle.tv_spec.proofs.Updates.{update_same}
use Rattle.tv_spec.proofs.Valid.{run_from, valid_ranges}
use Rattle.tv_spec.proofs.Waits.{WaitsSo, stepped_waits}
use Rattle.tv_core.specs.Bursts.{IsMadeBy, IssuesSo, journal_by, waits_by}
use Rattle.tv_core.specs.Holds.{Holds, Parts, seen, told_by}
use Rattle.tv_core.specs.Seen.{debug_of, first_by, setup_by, state_of}
use Rattle.tv_core.specs.Stands.{Stands}
use Rattle.tv_core.proofs.Accessing.{WaitsFor, shown_stands}
use Rattle.tv_core.proofs.Behind.{is_behind}
use Rattle.tv_core.proofs.Carrying.{carried}
use Rattle.tv_core.proofs.Ending.{no_outer}
use Rattle.tv_core.proofs.Fronts.{events_next}
use Rattle.tv_core.proofs.Halting.{IsReady, owed_by, owed_shown}
use Rattle.tv_core.proofs.Loads.{event_records}
use Rattle.tv_core.proofs.Room.{run_of}
use Rattle.tv_core.proofs.Showing.{IsLastShown, MadeSome, last_shown, load_fits}
use Rattle.tv_core.proofs.Stopping.{hosts}

-- 1. The hart after it

held_for : (what : Shown) (hart : HartState) → IsLoadShown what → IsSome hart.waits → WaitsFor what hart
held_for shown.Nothing hart load waits = absurd load
held_for (shown.Byte byte) hart load waits = absurd load
held_for (shown.Finish finish) hart load waits = absurd load
held_for (shown.Access d (access.Store width off value)) hart load waits = absurd load
held_for (shown.Access d (access.Load width off)) hart load waits = waits

free_for : (what : Shown) (hart : HartState) → (IsLoadShown what → ⊥) → hart.waits ≡ None → WaitsFor what hart
free_for shown.Nothing hart load none = none
free_for (shown.Byte byte) hart load none = none
free_for (shown.Finish finish) hart load none = none
free_for (shown.Access d (access.Store width off value)) hart load none = none
free_for (shown.Access d (access.Load width off)) hart load none = absurd (load tt)

waits_shown : (o : Outcome Reach) → HeldShows o → WaitsSo o → WaitsFor o.2.shown o.1
waits_shown (did.Held, hart, p) shows waits = held_for p.shown hart shows waits
waits_shown (did.Retired, hart, p) shows waits = free_for p.shown hart shows waits
waits_shown (did.Trapped cause, hart, p) shows waits = free_for p.shown hart shows waits
waits_shown (did.Full, hart, p) shows waits = free_for p.shown hart shows waits

harts_issued : (hart : ℕ) (what : Shown) (s : State) → (issued hart what s).harts ≡ s.harts
harts_issued hart shown.Nothing s = refl
harts_issued hart (shown.Byte byte) s = refl
harts_issued hart (shown.Finish finish) s = refl
harts_issued hart (shown.Access d how) s = refl

-- it waits exactly where the last event showed a load
later_waits : (p : Parts) (hart count : ℕ) (later : HartState) (local : LocalState) (now : Mode) (closed : Closed) (what : Shown) → IsReady p hart → count ≢ 0
    → IsBurst (setup_by (seen p)) (state_of (seen p)) hart count later local now closed what → WaitsFor what later
later_waits p hart zero later local now closed what R some B = absurd (some refl)
later_waits p hart (suc n) later local now closed what R some B =
    let setup : Setup = setup_by (seen p) in
    let s : State = state_of (seen p) in
    let e : Move = made (entry.Hart hart) in
    let t : State = after setup s (events_of hart n) in
    let reach : Reach = record { local = t.local; closed = all_open; shown = shown.Nothing } in
    let parts = legal-parts setup s (events_of hart n) (e ∷ []) (subst (IsLegal setup s) (events_next hart n) B.legal) in
    let run = run_from setup p.machine.ram (p.machine.ram / PAGE_BYTES) s (events_of hart n) (valid_ranges p.machine R.holds.valid) parts.0 (run_of p R.holds) in
    let can : CanStep setup t hart = parts.1.0 in
    let none : (t.harts hart).waits ≡ None = ahead_ready t.harts t.pending t.devs hart run.ahead can.ready in
    let shows : HeldShows (event_of t hart) = stepped_shows (t.harts hart) reach (lines_of t.local hart) (λ l. l) in
    let waits : WaitsSo (event_of t hart) = stepped_waits local_meaning (t.harts hart) reach (lines_of t.local hart) none in
    let last : after setup s (events_of hart (suc n)) ≡ done setup t e = ap (after setup s) (events_next hart n) ∙ after-append setup s (events_of hart n) (e ∷ []) in
    let made_of : (done setup t e).harts hart ≡ (event_of t hart).1 =
    ap (λ (f : ℕ → HartState). f hart) (harts_issued hart (event_of t hart).2.shown (after_event setup t hart)) ∙ update_same t.harts hart (event_of t hart).1 in
    let base : State = record s { harts = update s.harts hart later; local = local; mode = now; events = s.events + suc n; ticked = if suc n == 0 then s.ticked else false } in
    let kept : (after_events s hart (suc n) later local now what).harts hart ≡ later =
    ap (λ (f : ℕ → HartState). f hart) (harts_issued hart what base) ∙ update_same s.harts hart later in
    let is : (event_of t hart).1 ≡ later = sym made_of ∙ ap (λ (x : State). x.harts hart) (sym last ∙ B.state) ∙ kept in
    subst (λ (x : HartState). WaitsFor what x) is
    (subst (λ (w : Shown). WaitsFor w (event_of t hart).1) (sym (B.last n refl)) (waits_shown (event_of t hart) shows waits))

-- 2. The journal

-- these events stand in it, and what they are owed is reserved
pub record HasEvents (old new : JournalState) (hart count : ℕ) (what : Shown) : Type 0 where
  pub entries : new.entries ≡ old.entries ++ replicate count (entry.Hart hart)
  pub outer : new.outer ≡ old.outer
  pub record_room : new.record_room ≡ old.record_room
  pub payload_room : new.payload_room ≡ old.payload_room
  pub reserved_records : new.reserved_records ≡ old.reserved_records + owed_by what
  pub reserved_bytes : new.reserved_bytes ≡ old.reserved_bytes

has_events : (old : JournalState) (hart count : ℕ) (what : Shown)
    → HasEvents old (journal_by what (record old { entries = old.entries ++ replicate count (entry.Hart hart) })) hart count what
has_events old hart count shown.Nothing =
    record { entries = refl; outer = refl; record_room = refl; payload_room = refl; reserved_records = omega arith; reserved_bytes = refl }
has_events old hart count (shown.Byte byte) =
    record { entries = refl; outer = refl; record_room = refl; payload_room = refl; reserved_records = omega arith; reserved_bytes = refl }
has_events old hart count (shown.Finish finish) =
    record { entries = refl; outer = refl; record_room = refl; payload_room = refl; reserved_records = omega arith; reserved_bytes = refl }
has_events old hart count (shown.Access d (access.Store width off value)) =
    record { entries = refl; outer = refl; record_room = refl; payload_room = refl; reserved_records = omega arith; reserved_bytes = refl }
has_events old hart count (shown.Access d (access.Load width off)) =
    record { entries = refl; outer = refl; record_room = refl; payload_room = refl; reserved_records = refl; reserved_bytes = omega arith }

-- it has room for them and for what they are owed
events_fit : (p : Parts) (hart count : ℕ) (room : Bool) (closed : Closed) (what : Shown) → IsReady p hart → MadeSome p hart count room closed what → IsLastShown p closed what
    → record_count (p.journal.entries ++ replicate count (entry.Hart hart)) + (owed (state_of (seen p)) + owed_by what) ≤ p.machine.journal_entries
events_fit p hart zero room closed what R M L = absurd (M.some refl)
events_fit p hart (suc n) room closed what R M L =
    let records = run-count p.journal.entries hart n in
    let reserved = R.holds.stands.reserved_is in
    let all = R.holds.record_room in
    let owes = R.holds.room in
    let fits = by_shown what M L in
    omega (arith, records, reserved, all, owes, fits)
  where
    own : record_count (p.journal.entries ++ entry.Hart hart ∷ []) ≤ record_limit p.journal
    own = leb-true _ _ (sym (event_records p.journal hart) ∙ M.own)

    by_shown : (w : Shown) → MadeSome p hart (suc n) room closed w → IsLastShown p closed w → record_count (p.journal.entries ++ entry.Hart hart ∷ []) + owed_by w ≤ record_limit p.journal
    by_shown shown.Nothing some last = omega (arith, own)
    by_shown (shown.Byte byte) some last = omega (arith, own)
    by_shown (shown.Finish finish) some last = omega (arith, own)
    by_shown (shown.Access d (access.Store width off value)) some last = omega (arith, own)
    by_shown (shown.Access d (access.Load width off)) some last = load_fits p hart (suc n) room closed d width off some last

-- 3. The sides

slots_issued : (hart : ℕ) (what : Shown) (old new : List SideState) → IssuesSo hart what old new → length new ≡ length old
slots_issued hart shown.Nothing old new same = ap (λ (xs : List SideState). length xs) same
slots_issued hart (shown.Byte byte) old new same = ap (λ (xs : List SideState). length xs) same
slots_issued hart (shown.Finish finish) old new same = ap (λ (xs : List SideState). length xs) same
slots_issued hart (shown.Access d how) old new is = rw (is (new_side 0)) (length-set old d (with_access (get_or old d (new_side 0)) hart how))

-- no worker is told
told_issued : (hart : ℕ) (what : Shown) (old new : List SideState) → IssuesSo hart what old new → told_by new ≡ told_by old
told_issued hart shown.Nothing old new same = rw same refl
told_issued hart (shown.Byte byte) old new same = rw same refl
told_issued hart (shown.Finish finish) old new same = rw same refl
told_issued hart (shown.Access d how) old new is =
    rw (is (new_side 0)) (map-set_same (λ (side : SideState). side.told) old d (with_access (get_or old d (new_side 0)) hart how) (new_side 0) refl)

-- 4. The call

-- what the call knows of the parts after it
pub record IsAfter (p : Parts) (hart count : ℕ) (what : Shown) (sides : List SideState) (flags : List Bool) (ring : Buffer ℕ) (pushed later : JournalState) : Type 0 where
  pub pushed_is : pushed ≡ record p.journal { entries = p.journal.entries ++ replicate count (entry.Hart hart) }
  pub ring_is : ring ≡ buffer (p.ring.items ++ byte_shown what) p.ring.capacity
  pub issues : IssuesSo hart what p.sides sides
  pub flags_are : flags ≡ waits_by hart what p.waits
  pub later_is : later ≡ journal_by what pushed

events_in : (p : Parts) (hart count : ℕ) (what : Shown) (sides : List SideState) (flags : List Bool) (ring : Buffer ℕ) (pushed later : JournalState)
    → IsAfter p hart count what sides flags ring pushed later → HasEvents p.journal later hart count what
events_in p hart count what sides flags ring pushed later A = rw (A.later_is, A.pushed_is) (has_events p.journal hart count what)

pub made_holds : (p : Parts) (hart most count : ℕ) (room : Bool) (closed : Closed) (what : Shown) (next : GuestState) (sides : List SideState) (flags : List Bool) (ring : Buffer ℕ) (pushed later : JournalState)
    → IsReady p hart → MadeSome p hart count room closed what → IsBurstOf p.guest next hart most closed count what → IsAfter p hart count what sides flags ring pushed later
    → Holds (record p { guest = next; sides = sides; waits = flags; ring = ring; journal = later })
made_holds p hart most count room closed what next sides flags ring pushed later R M G A =
    let H = R.holds in
    let setup : Setup = setup_by (seen p) in
    let s : State = state_of (seen p) in
    let is_open : IsOpen s.mode = rw R.running tt in
    let none = no_outer p H is_open in
    let B = G.burst setup s (hosts p hart H R.exists R.free) in
    let J = events_in p hart count what sides flags ring pushed later A in
    let L = last_shown p hart count room closed what R M in
    let behind = is_behind setup (first_by (seen p)) p.journal.entries p.journal.outer hart count G.later next.local next.mode closed what none H.legal B in
    let moves : with_outer later.entries later.outer ≡ with_outer (p.journal.entries ++ replicate count (entry.Hart hart)) p.journal.outer = rw (J.entries, J.outer) refl in
    let ticked : Bool = if count == 0 then s.ticked else false in
    let t : State = after_events s hart count G.later next.local next.mode what in
    let state : after setup (first_by (seen p)) (with_outer later.entries later.outer) ≡ t = ap (after setup (first_by (seen p))) moves ∙ behind.state in
    let bytes : debug_of (record (seen p) { entries = later.entries; outer = later.outer }) ≡ debug_of (seen p) ++ byte_shown what = rw (J.entries, J.outer) behind.bytes in
    let items : p.ring.items ≡ drop p.handed (debug_of (seen p)) = ap (λ (b : Buffer ℕ). b.items) H.ring_is in
    let capacity : p.ring.capacity ≡ DEBUG_RING_BYTES = ap (λ (b : Buffer ℕ). b.capacity) H.ring_is in
    let events_are : next.events ≡ s.events + count = G.events ∙ ap (λ (k : ℕ). k + count) (sym H.stands.events_are) in
    let inside : hart < length p.guest.harts = (let r = H.harts in let q = R.exists in omega (arith, r, q)) in
    let stands : Stands p.machine.tube next p.grants.withdrawn sides flags later.reserved_records t =
    subst (λ (fs : List Bool). Stands p.machine.tube next p.grants.withdrawn sides fs later.reserved_records t) (sym A.flags_are)
    (subst (λ (k : ℕ). Stands p.machine.tube next p.grants.withdrawn sides (waits_by hart what p.waits) later.reserved_records
    (issued hart what (record s { harts = update s.harts hart G.later; local = next.local; mode = next.mode; events = k; ticked = ticked }))) events_are
    (shown_stands p.machine.tube p.machine.harts p.guest next p.grants.withdrawn p.sides sides p.waits p.journal.reserved_records later.reserved_records s hart G.later ticked what (new_side 0)
    H.stands (run_of p H).sound is_open inside R.below R.free G.harts L.place L.there (later_waits p hart count G.later next.local next.mode closed what R M.some B) A.issues J.reserved_records)) in
    let owes : owed t ≡ owed s + owed_by what =
    owed_shown (record s { harts = update s.harts hart G.later; local = next.local; mode = next.mode; events = s.events + count; ticked = ticked }) hart what R.below R.free in
    let fit = events_fit p hart count room closed what R M L in
    record {
      valid = H.valid;
      fits = H.fits;
      place = rw (J.outer, none) tt;
      legal = subst (λ (ms : List Move). IsLegal setup (first_by (seen p)) ms) (sym moves) behind.legal;
      ends = rw (J.outer, none) tt;
      harts = rw G.harts (length-set p.guest.harts hart G.later ∙ H.harts);
      steps = G.steps ∙ H.steps;
      slots = slots_issued hart what p.sides sides A.issues ∙ H.slots;
      stands = subst (λ (x : State). Stands p.machine.tube next p.grants.withdrawn sides flags later.reserved_records x) (sym state) stands;
      theirs = H.theirs;
      ring_is = A.ring_is ∙ rw (bytes, drop-append-le p.handed (debug_of (seen p)) (byte_shown what) H.handed, items, capacity) refl;
      handed = rw (bytes, length-append (debug_of (seen p)) (byte_shown what)) (let h = H.handed in omega (arith, h));
      record_room = J.record_room ∙ H.record_room;
      payload_room = J.payload_room ∙ H.payload_room;
      no_bytes = J.reserved_bytes ∙ H.no_bytes;
      room = subst (λ (k : ℕ). k ≤ p.machine.journal_entries)
          (sym (ap (λ (x : State). record_count later.entries + owed x) state ∙ ap (λ (k : ℕ). record_count later.entries + k) owes
          ∙ ap (λ (es : List Entry). record_count es + (owed s + owed_by what)) J.entries)) fit;
    }

pub made_so : (p : Parts) (hart most count : ℕ) (room : Bool) (closed : Closed) (what : Shown) (next : GuestState) (sides : List SideState) (flags : List Bool) (ring : Buffer ℕ) (pushed later : JournalState)
    → IsReady p hart → MadeSome p hart count room closed what → count ≤ most → IsAfter p hart count what sides flags ring pushed later
    → IsMadeBy (seen p) (seen (record p { guest = next; sides = sides; waits = flags; ring = ring; journal = later })) hart most count
made_so p hart most count room closed what next sides flags ring pushed later R M few A =
    let is_open : IsOpen (state_of (seen p)).mode = rw R.running tt in
    let J = events_in p hart count what sides flags ring pushed later A in
    record {
      some = (let r = M.some in omega (arith, r));
      few = few;
      carried = carried p hart count room closed what R M (no_outer p R.holds is_open);
      new_is = rw (J.entries, J.outer, told_issued hart what p.sides sides A.issues) refl;
    }
