-- Events of a hart, by what the code of a burst came to.
use Rattle.std.proofs.Common.{◌≡◌, ◌≢◌, inl, inr, ℕ, zero, suc, ◌+◌, ◌<◌, ◌^◌, ◌==◌, if◌then◌else◌, Bool, false, List, [], ◌∷◌, ◌++◌, length, length-set, map, replicate, get_or, set, Option, None, refl, ap, sym, ◌∙◌, subst, arith}
use Rattle.std.specs.Prelude.{Result, Ok, Err, OnOk, ⊤}
use Rattle.std.specs.Result.{is_err}
use Rattle.tv_base.specs.declared.Memory.{Memory}
use Rattle.std.proofs.lemmas.Bool.Decides.{eqb_tells}
use Rattle.std.proofs.lemmas.Grind.{replicate_next}
use Rattle.std.proofs.lemmas.List.{length-map}
use Rattle.tv_guest.specs.Burst.{Hosts, IsBurst, IsBurstOf, Stops, after_events, events_of}
use Rattle.tv_guest.specs.GuestState.{GuestState}
use Rattle.tv_guest.proofs.Bursts.{same_state}
use Rattle.tv_hart.specs.Hart.{first_hart}
use Rattle.tv_hart.specs.HartState.{HartState}
use Rattle.tv_journal.specs.declared.Entry.TheVariants as entry
use Rattle.tv_spec.specs.declared.Closed.{Closed}
use Rattle.tv_spec.specs.declared.Made.{Made}
use Rattle.tv_spec.specs.declared.Maker.{Maker}
use Rattle.tv_spec.specs.declared.Pending.{Pending}
use Rattle.tv_spec.specs.declared.Shown.{Shown}
use Rattle.tv_spec.specs.declared.Shown.TheVariants as shown
use Rattle.tv_spec.specs.Devices.{item_of, with_item}
use Rattle.tv_spec.specs.Legal.{IsLegal, after}
use Rattle.tv_spec.specs.LocalState.{lines_of}
use Rattle.tv_spec.specs.Reach.{is_closed}
use Rattle.tv_spec.specs.Setup.{Setup}
use Rattle.tv_spec.specs.Shows.{byte_shown}
use Rattle.tv_spec.specs.State.{DeviceRun, State}
use Rattle.tv_spec.specs.Step.{Can, event_of, made, pending_by}
use Rattle.tv_spec.specs.Update.{update}
use Rattle.tv_spec.proofs.Ahead.{ahead_ready}
use Rattle.tv_spec.proofs.Memory.{IsToDevice}
use Rattle.tv_spec.proofs.Moves.{legal-parts}
use Rattle.tv_spec.proofs.Opens.{IsAllOpen, open_made}
use Rattle.tv_spec.proofs.Valid.{run_from}
use Rattle.tv_spec.proofs.Whole.{event_place}
use Rattle.tv_model.specs.Monitor.{IsMonitor, IsMonitorBurst, IsNoStep, gates_open}
use Rattle.tv_model.specs.MonitorState.{MonitorState, SlotState, grants_from, run_at, setup_in, state_in}
use Rattle.tv_model.specs.Moves.{IsSame}
use Rattle.tv_model.specs.Parts.{IssuesSo, run_of}
use Rattle.tv_model.proofs.Rooms.{runs_at}
use Rattle.tv_model.proofs.Steps.{grants_count, list_put, run_put}

-- 1. Before a burst

hosts : (m : MonitorState) (hart : ℕ) → IsMonitor m → hart < length m.guest.harts → (state_in m).pending hart ≡ None → Hosts (setup_in m) (state_in m) hart m.guest
hosts m hart is exists free = record {
  exists = exists;
  count = refl;
  steps = refl;
  free = free;
  ready = ahead_ready (state_in m).harts (state_in m).pending (state_in m).devs hart is.run.ahead free;
  hart_is = refl;
  local_is = refl;
  mode_is = refl;
  events_are = refl;
}

count_same : (slots later : List SlotState) → map run_of later ≡ map run_of slots → length later ≡ length slots
count_same slots later same = sym (length-map later run_of) ∙ ap (λ (rs : List DeviceRun). length rs) same ∙ length-map slots run_of

-- memory was taken, and nothing else was done
pub same_runs : (m : MonitorState) (slots : List SlotState) → map run_of slots ≡ map run_of m.slots → IsSame m (record m { slots = slots })
same_runs m slots same = record {
  setup = ap (λ (n : ℕ). let s : Setup = record { harts = length m.guest.harts; steps = m.guest.steps; devices = grants_from m.grants 0 n } in s) (count_same m.slots slots same);
  state = same_state _ _ refl refl (runs_at m.slots slots same) refl refl refl refl refl;
  console = refl;
}

-- what holds where a call was no failure
pub holds_there : (result : Result ⊤ Memory) (P : Type 0) → is_err result ≡ false → OnOk result P → P
holds_there (Ok done) P no_fault holds = holds
holds_there (Err fault) P no_fault holds = cc

-- 2. No event

closed_none : (n slot : ℕ) → is_closed (replicate n false) slot ≡ false
closed_none zero slot = refl
closed_none (suc n) zero = refl
closed_none (suc n) (suc slot) = closed_none n slot

all_are_open : IsAllOpen gates_open
all_are_open = record { debug = refl; loads = closed_none 8; stores = closed_none 8 }

stops_none : (m : MonitorState) (hart : ℕ) (seen : Shown) → seen ≡ shown.Nothing → Stops gates_open (state_in m) hart seen → Can (setup_in m) (state_in m) (made (entry.Hart hart)) → ⊥
stops_none m hart seen none (inl shows) can = shows none
stops_none m hart seen none (inr (inl ended)) can = ended can.running
stops_none m hart seen none (inr (inr full)) can =
    open_made ((state_in m).harts hart) (record { local = m.guest.local; closed = gates_open; shown = shown.Nothing }) (lines_of m.guest.local hart) all_are_open full

none_by : (m : MonitorState) (hart most count : ℕ) (closed : Closed) (guest : GuestState) (seen : Shown) → IsMonitor m → hart < length m.guest.harts → (state_in m).pending hart ≡ None → 0 < most
    → closed ≡ gates_open → IsBurstOf m.guest guest hart most closed count seen → count ≡ 0 → (guest ≡ m.guest) × (Can (setup_in m) (state_in m) (made (entry.Hart hart)) → ⊥)
none_by m hart most count closed guest seen is exists free some open_ b none =
    let same = b.same none in
    let stops : Stops closed (after (setup_in m) (state_in m) (events_of hart count)) hart seen = b.stops (setup_in m) (state_in m) (hosts m hart is exists free) (omega (arith, none, some)) in
    let first : Stops gates_open (state_in m) hart seen =
    subst (λ (c : Closed). Stops c (state_in m) hart seen) open_ (subst (λ (n : ℕ). Stops closed (after (setup_in m) (state_in m) (events_of hart n)) hart seen) none stops) in
    (same.0, stops_none m hart seen same.1 first)

pub no_event : (m : MonitorState) (hart most count : ℕ) (closed : Closed) (guest : GuestState) (slots : List SlotState) (seen : Shown) → IsMonitor m → hart < length m.guest.harts
    → (state_in m).pending hart ≡ None → 0 < most → closed ≡ gates_open → IsBurstOf m.guest guest hart most closed count seen → count ≡ 0 → map run_of slots ≡ map run_of m.slots
    → IsNoStep m (record m { guest = guest; slots = slots }) (made (entry.Hart hart))
no_event m hart most count closed guest slots seen is exists free some open_ b none same =
    let n = none_by m hart most count closed guest seen is exists free some open_ b none in
    let s = same_runs m slots same in
    record {
      cannot = n.1;
      same = subst (λ (g : GuestState). IsSame m (record m { guest = g; slots = slots })) (sym n.0) s;
    }

-- 3. What the last event showed

shown_to : (m : MonitorState) (hart : ℕ) (guest : GuestState) (local_count : ℕ) (seen : Shown) (closed : Closed) (later : HartState) → IsMonitor m
    → IsBurst (setup_in m) (state_in m) hart local_count later guest.local guest.mode closed seen → local_count ≢ 0 → IsToDevice (length m.slots) seen
shown_to m hart guest zero seen closed later is b some = absurd (some refl)
shown_to m hart guest (suc n) seen closed later is b some =
    let next : suc n ≡ n + 1 = omega arith in
    let split : events_of hart (suc n) ≡ events_of hart n ++ made (entry.Hart hart) ∷ [] = ap (events_of hart) next ∙ replicate_next n (made (entry.Hart hart)) in
    let front : IsLegal (setup_in m) (state_in m) (events_of hart n) =
    (legal-parts (setup_in m) (state_in m) (events_of hart n) (made (entry.Hart hart) ∷ []) (subst (IsLegal (setup_in m) (state_in m)) split b.legal)).0 in
    let run = run_from (setup_in m) is.bytes is.pages (state_in m) (events_of hart n) is.within front is.run in
    let place = event_place (setup_in m) is.bytes is.pages (after (setup_in m) (state_in m) (events_of hart n)) hart run.whole in
    let count : length (setup_in m).devices ≡ length m.slots = grants_count m.grants 0 (length m.slots) in
    rw (b.last n refl) (subst (λ (k : ℕ). IsToDevice k (event_of (after (setup_in m) (state_in m) (events_of hart n)) hart).2.shown) count place.seen)

pub to_device : (m : MonitorState) (hart most count : ℕ) (closed : Closed) (guest : GuestState) (slots : List SlotState) (seen : Shown) → IsMonitor m → hart < length m.guest.harts
    → (state_in m).pending hart ≡ None → IsBurstOf m.guest guest hart most closed count seen → count ≢ 0 → map run_of slots ≡ map run_of m.slots → IsToDevice (length slots) seen
to_device m hart most count closed guest slots seen is exists free b some same =
    subst (λ (n : ℕ). IsToDevice n seen) (sym (count_same m.slots slots same))
    (shown_to m hart guest count seen closed b.later is (b.burst (setup_in m) (state_in m) (hosts m hart is exists free)) some)

pub tags_small : (m : MonitorState) (slots : List SlotState) (slot : ℕ) → IsMonitor m → map run_of slots ≡ map run_of m.slots → length (run_at slots slot).made < 2 ^ 32
tags_small m slots slot is same =
    let items = is.run.bounded.items slot in let events = is.run.bounded.events in let steps = is.steps in
    let at : run_at slots slot ≡ run_at m.slots slot = ap (λ (f : ℕ → DeviceRun). f slot) (runs_at m.slots slots same) in
    rw at (omega (arith, items, events, steps))

-- 4. Some events

not_first : (count : ℕ) (b : Bool) → count ≢ 0 → false ≡ (if count == 0 then b else false)
not_first count b some = elim (eqb_tells count 0) [
  | inl e ↦ absurd (some e.1)
  | inr e ↦ rw e.0 refl
]

-- the state after the events, by what the last one showed
events_state : (m : MonitorState) (hart count : ℕ) (later : HartState) (guest : GuestState) (slots slots3 : List SlotState) (pending : List (Option Pending)) (seen : Shown) (console : List ℕ)
    → IsMonitor m → length m.pending ≡ 8 → hart < length m.guest.harts → guest.harts ≡ set m.guest.harts hart later → guest.events ≡ m.guest.events + count → count ≢ 0
    → map run_of slots ≡ map run_of m.slots → IsToDevice (length slots) seen → IssuesSo hart seen slots slots3 m.pending pending
    → state_in (record { guest = guest; grants = m.grants; slots = slots3; pending = pending; ticked = false; console = console }) ≡ after_events (state_in m) hart count later guest.local guest.mode seen
events_state m hart count later guest slots slots3 pending seen console is lanes exists harts_are events_are some same there issued = by_shown seen there issued
  where
    harts : ◌≡◌ {A = ℕ → HartState} (λ k. get_or guest.harts k (first_hart k)) (update (state_in m).harts hart later)
    harts = ap (λ (hs : List HartState). let f : ℕ → HartState = λ k. get_or hs k (first_hart k) in f) harts_are ∙ list_put m.guest.harts first_hart hart later exists

    lane : hart < length m.pending
    lane = let few = is.few in omega (arith, exists, few, lanes)

    runs : ◌≡◌ {A = ℕ → DeviceRun} (run_at slots) (run_at m.slots)
    runs = runs_at m.slots slots same

    quiet : slots3 ≡ slots → pending ≡ m.pending
        → state_in (record { guest = guest; grants = m.grants; slots = slots3; pending = pending; ticked = false; console = console })
        ≡ record (state_in m) { harts = update (state_in m).harts hart later; local = guest.local; mode = guest.mode; events = m.guest.events + count; ticked = if count == 0 then m.ticked else false }
    quiet slots_are pending_is = same_state _ _ harts (ap (λ (ps : List (Option Pending)). let f : ℕ → Option Pending = λ k. get_or ps k None in f) pending_is)
        (ap run_at slots_are ∙ runs) refl refl refl events_are (not_first count m.ticked some)

    by_shown : (seen : Shown) → IsToDevice (length slots) seen → IssuesSo hart seen slots slots3 m.pending pending
        → state_in (record { guest = guest; grants = m.grants; slots = slots3; pending = pending; ticked = false; console = console }) ≡ after_events (state_in m) hart count later guest.local guest.mode seen
    by_shown shown.Nothing there i = quiet i.0 i.1
    by_shown (shown.Byte byte) there i = quiet i.0 i.1
    by_shown (shown.Finish finish) there i = quiet i.0 i.1
    by_shown (shown.Access dev access) there i =
        let item : Made = record { item = item_of access; maker = Maker.Hart hart } in
        same_state _ _ harts
        (ap (λ (ps : List (Option Pending)). let f : ℕ → Option Pending = λ k. get_or ps k None in f) i.pending_is
        ∙ list_put m.pending (λ _. None) hart (pending_by dev (length (run_at slots dev).made) access) lane
        ∙ ap (λ (f : ℕ → DeviceRun). update (state_in m).pending hart (pending_by dev (length (f dev).made) access)) runs)
        (ap run_at i.slots_are ∙ run_put slots dev (record { run = with_item (run_at slots dev) item; spare = false }) there
        ∙ ap (λ (f : ℕ → DeviceRun). update f dev (with_item (f dev) item)) runs)
        refl refl refl events_are (not_first count m.ticked some)

issued_count : (hart : ℕ) (seen : Shown) (slots slots3 : List SlotState) (pending waiting : List (Option Pending)) → IssuesSo hart seen slots slots3 pending waiting → length slots3 ≡ length slots
issued_count hart shown.Nothing slots slots3 pending waiting i = ap (λ (xs : List SlotState). length xs) i.0
issued_count hart (shown.Byte byte) slots slots3 pending waiting i = ap (λ (xs : List SlotState). length xs) i.0
issued_count hart (shown.Finish finish) slots slots3 pending waiting i = ap (λ (xs : List SlotState). length xs) i.0
issued_count hart (shown.Access dev access) slots slots3 pending waiting i = ap (λ (xs : List SlotState). length xs) i.slots_are ∙ length-set slots dev _

pub some_events : (m : MonitorState) (hart most count : ℕ) (closed : Closed) (guest : GuestState) (slots slots3 : List SlotState) (pending : List (Option Pending)) (console : List ℕ) (seen : Shown)
    → IsMonitor m → length m.pending ≡ 8 → hart < length m.guest.harts → (state_in m).pending hart ≡ None → closed ≡ gates_open → IsBurstOf m.guest guest hart most closed count seen → count ≢ 0
    → map run_of slots ≡ map run_of m.slots → IssuesSo hart seen slots slots3 m.pending pending → console ≡ m.console ++ byte_shown seen
    → IsMonitorBurst m (record { guest = guest; grants = m.grants; slots = slots3; pending = pending; ticked = false; console = console }) hart most count
some_events m hart most count closed guest slots slots3 pending console seen is lanes exists free open_ b some same issued console_is =
    let at = hosts m hart is exists free in
    let burst : IsBurst (setup_in m) (state_in m) hart count b.later guest.local guest.mode closed seen = b.burst (setup_in m) (state_in m) at in
    let there : IsToDevice (length slots) seen = to_device m hart most count closed guest slots seen is exists free b some same in
    let state = events_state m hart count b.later guest slots slots3 pending seen console is lanes exists b.harts b.events some same there issued in
    record {
      seen = seen;
      some = omega (arith, some);
      few = b.few;
      moves = record {
        legal = burst.legal;
        setup =
            ap (λ (n : ℕ). let s : Setup = record { harts = n; steps = guest.steps; devices = grants_from m.grants 0 (length slots3) } in s) (ap (λ (hs : List HartState). length hs) b.harts ∙ length-set m.guest.harts hart b.later)
            ∙ ap (λ (n : ℕ). let s : Setup = record { harts = length m.guest.harts; steps = n; devices = grants_from m.grants 0 (length slots3) } in s) b.steps
            ∙ ap (λ (n : ℕ). let s : Setup = record { harts = length m.guest.harts; steps = m.guest.steps; devices = grants_from m.grants 0 n } in s)
            (issued_count hart seen slots slots3 m.pending pending issued ∙ count_same m.slots slots same);
        state = state ∙ sym burst.state;
      };
      console = console_is ∙ ap (λ (bs : List ℕ). m.console ++ bs) (sym burst.bytes);
      last = burst.last;
      stops = λ less. subst (λ (c : Closed). Stops c (state_in (record { guest = guest; grants = m.grants; slots = slots3; pending = pending; ticked = false; console = console })) hart seen) open_
          (subst (λ (s : State). Stops closed s hart seen) (burst.state ∙ sym state) (b.stops (setup_in m) (state_in m) at less));
    }
