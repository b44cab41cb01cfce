-- An entry of the device that is served: the schedule makes it there, so the device's turn goes on by it.
use Rattle.std.proofs.Common.{◌≡◌, ◌≢◌, ℕ, suc, ◌+◌, ◌<◌, ◌≤◌, Bool, List, [], ◌∷◌, ◌++◌, length, Option, Some, None, if◌then◌else◌, refl, ap, sym, ◌∙◌, subst, arith}
use Rattle.std.specs.Prelude.{nat_lt}
use Rattle.std.proofs.lemmas.Bool.{le-ltb, lt-ltb}
use Rattle.tv_base.specs.declared.Why.{Why}
use Rattle.tv_base.specs.declared.Why.TheVariants as why
use Rattle.tv_items.specs.declared.action.Action.{Action}
use Rattle.tv_items.specs.declared.action.Action.TheVariants as action
use Rattle.tv_items.specs.declared.action.Heard.{Heard}
use Rattle.tv_items.specs.declared.action.Way.{Way}
use Rattle.tv_items.specs.declared.action.Way.TheVariants.{Outside}
use Rattle.tv_items.specs.Fits.{way_of}
use Rattle.tv_journal.specs.declared.Entry.{Entry}
use Rattle.tv_journal.specs.declared.Entry.TheVariants as entry
use Rattle.tv_journal.specs.Entries.{record_count}
use Rattle.tv_plan.specs.Devices.{DeviceState, next}
use Rattle.tv_script.specs.Services.{Next, Asks, Rests, Loses}
use Rattle.tv_spec.specs.declared.Due.{Due}
use Rattle.tv_spec.specs.declared.Mode.{Mode}
use Rattle.tv_spec.specs.declared.Mode.TheVariants as mode
use Rattle.tv_spec.specs.declared.Phase.{Phase}
use Rattle.tv_spec.specs.declared.Stop.{Stop}
use Rattle.tv_spec.specs.declared.Stop.TheVariants as stop
use Rattle.tv_spec.specs.Devices.{CanServe, GoesBy, IsOver, heard_in, next_of}
use Rattle.tv_spec.specs.Setup.{Setup}
use Rattle.tv_spec.specs.Shows.{cause_in}
use Rattle.tv_spec.specs.Solo.{Bounds, Going, Solo, answer_entry, begun_entry, device_entry, device_makes, device_step, device_turn, onward, phase_entry, served_entry, solo_entry}
use Rattle.tv_spec.specs.State.{DeviceRun, State}
use Rattle.tv_spec.specs.Step.{IsOpen, done, made}
use Rattle.tv_core.specs.Calls.{EndsNow, IsFull, TellsEnd, why_of}
use Rattle.tv_core.specs.Seen.{Seen, dev_of, is_told, seat_of, setup_by, state_of, with_end, with_entry}
use Rattle.tv_core.specs.Serves.{serve_entry}
use Rattle.tv_core.proofs.Room.{IsNoEvent, count_alone}
use Rattle.tv_core.proofs.Turns.{end_ends}
use Rattle.tv_runner.specs.Cores.{EndsBy, IsPartOf, bounds_by, solo_of, stop_for, stop_of}
use Rattle.tv_runner.specs.Lines.{GoesTo, IsAnswered, IsGoing, IsStill, StopsIn, ends_counted, entries_of, going_of, next_got}
use Rattle.tv_runner.proofs.CoreLoops.{end_state}
use Rattle.tv_runner.proofs.CoreParts.{entry_of, entry_part, full_entry, state_with}
use Rattle.tv_runner.proofs.CoreTurns.{IsLater, IsOwnEnd, own_running, plain, plain_is}
use Rattle.tv_runner.proofs.DeviceMoves.{IsOf, mode_kept, other_kept}

-- 1. What the schedule has a device make

-- the schedule makes this entry next, whatever replies come from outside
abbrev pub IsNext : Seen → ℕ → Entry → Type 0
IsNext p d e = (answers : List Heard) → device_entry d (dev_of p d) answers ≡ Some e

no_event : (d : ℕ) (e : Entry) → IsOf d e → IsNoEvent e
no_event d (entry.Hart hart) is = absurd is
no_event d (entry.Take e) is = tt
no_event d (entry.Send e) is = tt
no_event d (entry.ServeMem e) is = tt
no_event d (entry.ServeIrq e) is = tt
no_event d (entry.Got e) is = tt
no_event d (entry.Reply e) is = tt
no_event d (entry.Deliver e) is = tt
no_event d (entry.Intend e) is = tt
no_event d (entry.Did e heard) is = tt
no_event d (entry.Tick n) is = tt

makes_so : (d : ℕ) (e : Entry) (setup : Setup) (bounds : Bounds) (solo : Solo) → IsOf d e → ◌≡◌ {A = Going} (device_makes setup bounds e solo) (solo_entry setup bounds e solo)
makes_so d (entry.Hart hart) setup bounds solo is = absurd is
makes_so d (entry.Take e) setup bounds solo is = refl
makes_so d (entry.Send e) setup bounds solo is = refl
makes_so d (entry.ServeMem e) setup bounds solo is = refl
makes_so d (entry.ServeIrq e) setup bounds solo is = refl
makes_so d (entry.Got e) setup bounds solo is = refl
makes_so d (entry.Reply e) setup bounds solo is = refl
makes_so d (entry.Deliver e) setup bounds solo is = refl
makes_so d (entry.Intend e) setup bounds solo is = absurd is
makes_so d (entry.Did e heard) setup bounds solo is = absurd is
makes_so d (entry.Tick n) setup bounds solo is = absurd is

-- a turn that begins with it
step_is : (d left : ℕ) (e : Entry) (setup : Setup) (bounds : Bounds) (solo : Solo) → IsOf d e → device_entry d (solo.state.devs d) (solo.answers d) ≡ Some e
    → ◌≡◌ {A = Going} (entries_of d (1 + left) setup bounds solo) (onward (entries_of d left setup bounds) (entry_of e setup bounds solo))
unfolding device_turn
step_is d left e setup bounds solo own is =
    let more : 1 + left ≡ suc left = omega arith in
    ap (λ (n : ℕ). entries_of d n setup bounds solo) more
    ∙ ap (device_step setup bounds (device_turn setup bounds d left) solo) is
    ∙ ap (onward (entries_of d left setup bounds)) (makes_so d e setup bounds solo own)

-- 2. An entry that was made

runs_on : (p : Seen) → (state_of p).mode ≡ mode.Running → stop_of p ≡ None
runs_on p runs = ap (λ (m : Mode). stop_for (cause_in m)) runs

none_counted : (p : Seen) → (state_of p).mode ≡ mode.Running → ends_counted (why_of p) ≡ 0
none_counted p runs = ap (λ (m : Mode). ends_counted (cause_in m)) runs

leads_on : (q new : Seen) (d : ℕ) (e : Entry) → IsOf d e → (state_of (plain q)).mode ≡ mode.Running → IsNext (plain q) d e → IsPartOf (entry_of e) (plain q) new
    → (answers : ℕ → List Heard) (left : ℕ)
    → ◌≡◌ {A = Going} (onward (entries_of d left (setup_by q) (bounds_by q)) (going_of new answers)) (onward (entries_of d (1 + left) (setup_by q) (bounds_by q)) (going_of (plain q) answers))
leads_on q new d e own runs is_next part answers left =
    ap (onward (entries_of d left (setup_by q) (bounds_by q))) (part.made answers)
    ∙ sym (step_is d left e (setup_by q) (bounds_by q) (solo_of (plain q) answers) own (is_next (answers d)))
    ∙ ap (λ (o : Option Stop). onward (entries_of d (1 + left) (setup_by q) (bounds_by q)) (solo_of (plain q) answers, o)) (sym (runs_on (plain q) runs))

goes_plain : (q : Seen) (d : ℕ) (e : Entry) (v : DeviceRun) → IsOf d e → (state_of (plain q)).mode ≡ mode.Running → IsLater (with_entry (plain q) e) → IsNext (plain q) d e
    → (done (setup_by q) (state_of (plain q)) (made e)).devs d ≡ v → GoesTo d (plain q) (with_entry (plain q) e) v
goes_plain q d e v own runs L is_next dev =
    let kept : (done (setup_by q) (state_of (plain q)) (made e)).mode ≡ mode.Running = mode_kept (setup_by q) (state_of (plain q)) d e own ∙ runs in
    let part : IsPartOf (entry_of e) (plain q) (with_entry (plain q) e) = entry_part q e L (subst IsOwnEnd (sym kept) own_running) in
    let records : record_count (q.entries ++ e ∷ []) ≡ record_count q.entries + 1 = count_alone q.entries e (no_event d e own) in
    let none = none_counted (plain q) runs in
    record {
      on = record {
        machine = refl;
        image = refl;
        handed = refl;
        made = 1;
        few = omega (arith, records, none);
        records = omega (arith, records);
        leads = leads_on q (with_entry (plain q) e) d e own runs is_next part;
        ends = λ ends. part.ends;
        others = λ k other. ap (λ (s : State). s.devs k) (state_with q e) ∙ other_kept (setup_by q) (state_of (plain q)) d k e own other;
      };
      going = record { outer = refl; runs = ap (λ (s : State). s.mode) (state_with q e) ∙ kept };
      dev = ap (λ (s : State). s.devs d) (state_with q e) ∙ dev;
    }

-- the schedule's next entry was made, and has made this of the device
pub entry_goes : (old new : Seen) (d : ℕ) (e : Entry) (v : DeviceRun) → IsOf d e → IsGoing old → IsLater new → new ≡ with_entry old e → IsNext old d e
    → (done (setup_by old) (state_of old) (made e)).devs d ≡ v → GoesTo d old new v
entry_goes old new d e v own going L new_is is_next dev =
    let is = plain_is old going.outer in
    let later : new ≡ with_entry (plain old) e = new_is ∙ ap (λ (p : Seen). with_entry p e) is in
    subst (λ (p : Seen). GoesTo d p new v) (sym is)
    (subst (λ (p : Seen). GoesTo d (plain old) p v) (sym later)
    (goes_plain old d e v own (subst (λ (p : Seen). (state_of p).mode ≡ mode.Running) is going.runs) (subst IsLater later L)
    (subst (λ (p : Seen). IsNext p d e) is is_next)
    (subst (λ (p : Seen). (done (setup_by p) (state_of p) (made e)).devs d ≡ v) is dev)))

-- 3. An entry that found no room

full_plain : (q new : Seen) (d : ℕ) (e : Entry) → IsOf d e → (state_of (plain q)).mode ≡ mode.Running → IsNext (plain q) d e → IsFull (plain q) new e → StopsIn d (plain q) new
full_plain q new d e own runs is_next full =
    let seat : ℕ = seat_of q.machine e in
    let later : Seen = with_end (plain q) why.Full seat in
    let part : IsPartOf (entry_of e) (plain q) later = subst (λ (x : Seen). IsPartOf (entry_of e) (plain q) x) full.new_is (full_entry q new e full) in
    let none = none_counted (plain q) runs in
    let cause : why_of later ≡ Some why.Full = ap (λ (m : Mode). cause_in m) (end_ends (plain q) why.Full seat) in
    let one : ends_counted (why_of later) ≡ 1 = ap ends_counted cause in
    let devs : (k : ℕ) → dev_of later k ≡ dev_of (plain q) k = λ k. ap (λ (s : State). s.devs k) (end_state q why.Full seat) in
    subst (λ (x : Seen). StopsIn d (plain q) x) (sym full.new_is) record {
      on = record {
        machine = refl;
        image = refl;
        handed = refl;
        made = 1;
        few = omega (arith, none, one);
        records = omega arith;
        leads = leads_on q later d e own runs is_next part;
        ends = λ ends. part.ends;
        others = λ k other. devs k;
      };
      over = λ is. (let both : ◌≡◌ {A = Option Why} None (Some why.Full) = sym is ∙ cause in cc);
      dev = devs d;
    }

pub full_stops : (old new : Seen) (d : ℕ) (e : Entry) → IsOf d e → IsGoing old → IsNext old d e → IsFull old new e → StopsIn d old new
full_stops old new d e own going is_next full =
    let is = plain_is old going.outer in
    subst (λ (p : Seen). StopsIn d p new) (sym is)
    (full_plain old new d e own (subst (λ (p : Seen). (state_of p).mode ≡ mode.Running) is going.runs) (subst (λ (p : Seen). IsNext p d e) is is_next)
    (subst (λ (p : Seen). IsFull p new e) is full))

-- the worker is told of it
told_stops : (old later : Seen) (d e : ℕ) → StopsIn d old later → StopsIn d old (is_told later e)
told_stops old later d e stops = record {
  on = record {
    machine = stops.on.machine;
    image = stops.on.image;
    handed = stops.on.handed;
    made = stops.on.made;
    few = stops.on.few;
    records = stops.on.records;
    leads = stops.on.leads;
    ends = λ ends. by_stop (stop_of later) (stops.on.ends ends);
    others = stops.on.others;
  };
  over = stops.over;
  dev = stops.dev;
}
  where
    by_stop : (o : Option Stop) → EndsBy o later → EndsBy o (is_told later e)
    by_stop None ends = ends
    by_stop (Some stop.Full) ends = ends
    by_stop (Some (stop.Ended cause)) ends = ends

pub tells_stops : (old new : Seen) (d : ℕ) (e : Entry) → IsOf d e → IsGoing old → IsNext old d e → TellsEnd old new d e → StopsIn d old new
tells_stops old new d e own going is_next tells = subst (λ (x : Seen). StopsIn d old x) (sym tells.2) (told_stops old tells.0 d d (by_end tells.1))
  where
    by_end : EndsNow old tells.0 e → StopsIn d old tells.0
    by_end (EndsNow.before over same) = absurd (over (subst IsOpen (sym going.runs) tt))
    by_end (EndsNow.full full) = full_stops old tells.0 d e own going is_next full

-- 4. Which entry is next

still_entry : (d : ℕ) (v : DeviceRun) (answers : List Heard) → IsStill v → device_entry d v answers ≡ begun_entry d v (next_of v)
still_entry d v answers still =
    ap (λ (due : List Due). answer_entry d v answers due v.replied) still.answered.due
    ∙ ap (λ (replied : List Due). answer_entry d v answers [] replied) still.answered.replied
    ∙ ap (phase_entry d v answers) still.quiet

pub still_next : (v : DeviceRun) → v.phase ≡ Phase.Quiet → next_of v ≡ next_got v
still_next v quiet = ap (λ (phase : Phase). next v.device (heard_in v.got phase)) quiet

begins : (d : ℕ) (v : DeviceRun) (a : Action) → way_of a ≢ Outside → begun_entry d v (Asks a) ≡ Some (entry.Send d)
begins d v (action.Read addr len) in_it = refl
begins d v (action.Write addr bytes) in_it = refl
begins d v (action.Release page hold) in_it = refl
begins d v (action.Regain page) in_it = refl
begins d v action.Raise in_it = refl
begins d v (action.DiskRead sector) in_it = absurd (in_it refl)
begins d v (action.DiskWrite sector bytes) in_it = absurd (in_it refl)
begins d v action.Flush in_it = absurd (in_it refl)
begins d v (action.SetLen sectors) in_it = absurd (in_it refl)
begins d v (action.Put bytes) in_it = absurd (in_it refl)
begins d v (action.Input most) in_it = absurd (in_it refl)
begins d v (action.Random len) in_it = absurd (in_it refl)

pub next_send : (p : Seen) (d : ℕ) (a : Action) → IsStill (dev_of p d) → next_got (dev_of p d) ≡ Asks a → way_of a ≢ Outside → IsNext p d (entry.Send d)
next_send p d a still is in_it answers =
    still_entry d (dev_of p d) answers still
    ∙ ap (begun_entry d (dev_of p d)) (still_next (dev_of p d) still.quiet ∙ is)
    ∙ begins d (dev_of p d) a in_it

pub next_take : (p : Seen) (d : ℕ) → IsStill (dev_of p d) → IsOver (next_of (dev_of p d)) → (dev_of p d).acted < length (dev_of p d).made → IsNext p d (entry.Take d)
next_take p d still over more answers = still_entry d (dev_of p d) answers still ∙ by_next (next_of (dev_of p d)) over
  where
    takes : (if nat_lt (dev_of p d).acted (length (dev_of p d).made) then Some (entry.Take d) else None) ≡ Some (entry.Take d)
    takes = ap (λ (b : Bool). if b then Some (entry.Take d) else None) (lt-ltb (dev_of p d).acted (length (dev_of p d).made) more)

    by_next : (n : Next DeviceState) → IsOver n → begun_entry d (dev_of p d) n ≡ Some (entry.Take d)
    by_next (Asks a) over = absurd over
    by_next (Rests state) over = takes
    by_next (Loses state) over = takes

-- where no item is left, none is
pub next_none : (d : ℕ) (v : DeviceRun) (answers : List Heard) → IsStill v → IsOver (next_of v) → length v.made ≤ v.acted → device_entry d v answers ≡ None
next_none d v answers still over none = still_entry d v answers still ∙ by_next (next_of v) over
  where
    rests : ◌≡◌ {A = Option Entry} (if nat_lt v.acted (length v.made) then Some (entry.Take d) else None) None
    rests = ap (λ (b : Bool). let o : Option Entry = if b then Some (entry.Take d) else None in o) (le-ltb v.acted (length v.made) none)

    by_next : (n : Next DeviceState) → IsOver n → begun_entry d v n ≡ None
    by_next (Asks a) over = absurd over
    by_next (Rests state) over = rests
    by_next (Loses state) over = rests

answered_entry : (d : ℕ) (v : DeviceRun) (answers : List Heard) (phase : Phase) → IsAnswered v → v.phase ≡ phase → device_entry d v answers ≡ phase_entry d v answers phase
answered_entry d v answers phase answered is =
    ap (λ (due : List Due). answer_entry d v answers due v.replied) answered.due
    ∙ ap (λ (replied : List Due). answer_entry d v answers [] replied) answered.replied
    ∙ ap (phase_entry d v answers) is

-- the action that goes this way
pub record IsBy (way : Way) (n : Next DeviceState) : Type 0 where
  pub action : Action
  pub is : n ≡ Asks action
  pub way_is : way_of action ≡ way

pub goes_by : (way : Way) (n : Next DeviceState) → GoesBy way n → IsBy way n
goes_by way (Asks a) by = record { action = a; is = refl; way_is = by }
goes_by way (Rests state) by = absurd by
goes_by way (Loses state) by = absurd by

serves : (d : ℕ) (a : Action) (way : Way) → way_of a ≡ way → way ≢ Outside → served_entry d (Asks a) ≡ Some (serve_entry way d)
serves d (action.Read addr len) way is in_it = ap (λ (w : Way). Some (serve_entry w d)) is
serves d (action.Write addr bytes) way is in_it = ap (λ (w : Way). Some (serve_entry w d)) is
serves d (action.Release page hold) way is in_it = ap (λ (w : Way). Some (serve_entry w d)) is
serves d (action.Regain page) way is in_it = ap (λ (w : Way). Some (serve_entry w d)) is
serves d action.Raise way is in_it = ap (λ (w : Way). Some (serve_entry w d)) is
serves d (action.DiskRead sector) way is in_it = absurd (in_it (sym is))
serves d (action.DiskWrite sector bytes) way is in_it = absurd (in_it (sym is))
serves d action.Flush way is in_it = absurd (in_it (sym is))
serves d (action.SetLen sectors) way is in_it = absurd (in_it (sym is))
serves d (action.Put bytes) way is in_it = absurd (in_it (sym is))
serves d (action.Input most) way is in_it = absurd (in_it (sym is))
serves d (action.Random len) way is in_it = absurd (in_it (sym is))

pub next_serve : (p : Seen) (d : ℕ) (way : Way) → IsAnswered (dev_of p d) → CanServe (dev_of p d) way → way ≢ Outside → IsNext p d (serve_entry way d)
next_serve p d way answered can in_it answers =
    let by = goes_by way (next_of (dev_of p d)) can.asks in
    answered_entry d (dev_of p d) answers Phase.Sent answered can.sent
    ∙ ap (served_entry d) by.is
    ∙ serves d by.action way by.way_is in_it

pub next_hear : (p : Seen) (d : ℕ) (heard : Heard) → IsAnswered (dev_of p d) → (dev_of p d).phase ≡ Phase.Served heard → IsNext p d (entry.Got d)
next_hear p d heard answered served answers = answered_entry d (dev_of p d) answers (Phase.Served heard) answered served

pub next_reply : (p : Seen) (d : ℕ) (w : Due) (ws : List Due) → (dev_of p d).due ≡ w ∷ ws → (dev_of p d).replied ≡ [] → IsNext p d (entry.Reply d)
next_reply p d w ws due replied answers =
    ap (λ (x : List Due). answer_entry d (dev_of p d) answers (dev_of p d).due x) replied
    ∙ ap (λ (x : List Due). answer_entry d (dev_of p d) answers x []) due

pub next_deliver : (p : Seen) (d : ℕ) (w : Due) (ws : List Due) → (dev_of p d).replied ≡ w ∷ ws → IsNext p d (entry.Deliver d)
next_deliver p d w ws replied answers = ap (answer_entry d (dev_of p d) answers (dev_of p d).due) replied
