-- Parts of the schedule that a core carried out, one after another; and an entry, as a part of its own.
use Rattle.std.proofs.Common.{◌≡◌, ℕ, ◌+◌, ◌≤◌, Bool, true, false, List, [], ◌∷◌, ◌++◌, append-nil, map, Option, Some, None, refl, ap, sym, ◌∙◌, subst}
use Rattle.std.proofs.lemmas.Bool.{le-leb, true≢false}
use Rattle.tv_base.specs.declared.Why.{Why}
use Rattle.tv_base.specs.declared.Why.TheVariants as why
use Rattle.tv_items.specs.declared.action.Heard.{Heard}
use Rattle.tv_journal.specs.declared.Entry.{Entry}
use Rattle.tv_journal.specs.declared.Entry.TheVariants as entry
use Rattle.tv_spec.specs.declared.Mode.{Mode}
use Rattle.tv_spec.specs.declared.Mode.TheVariants as mode
use Rattle.tv_spec.specs.declared.Stop.{Stop}
use Rattle.tv_spec.specs.declared.Stop.TheVariants as stop
use Rattle.tv_spec.specs.Legal.{after}
use Rattle.tv_journal.specs.Entries.{record_count}
use Rattle.tv_spec.specs.Room.{has_room, owed}
use Rattle.tv_spec.specs.Shows.{bytes_of, cause_in, debug_bytes}
use Rattle.tv_spec.specs.Solo.{Bounds, Going, Solo, going, makes, onward, solo_entry, solo_tick}
use Rattle.tv_spec.specs.Setup.{Setup}
use Rattle.tv_spec.specs.State.{State}
use Rattle.tv_spec.specs.Step.{done, made}
use Rattle.tv_spec.proofs.Moves.{after-append}
use Rattle.tv_spec.proofs.SoFar.{debug-append, moves-more}
use Rattle.tv_core.specs.Calls.{IsFull, NotTicked, TickedSo, why_of}
use Rattle.tv_core.specs.Seen.{Seen, debug_of, first_by, seat_of, setup_by, state_of, with_end, with_entry}
use Rattle.tv_core.proofs.Turns.{end_ends}
use Rattle.tv_runner.specs.Cores.{EndsBy, IsPartOf, bounds_by, solo_of, stop_for, stop_of}
use Rattle.tv_runner.specs.Parts.{Part}
use Rattle.tv_runner.proofs.CoreTurns.{IsLater, IsOwnEnd, own_running, plain, plain_is}
use Rattle.tv_runner.proofs.On.{Splits}

-- 1. Whether the run goes on

pub goes_on : (p : Seen) → why_of p ≡ None → stop_of p ≡ None
goes_on p none = ap stop_for none

pub runs_by : (p : Seen) → why_of p ≡ None → (state_of p).mode ≡ mode.Running
runs_by p none = by_mode (state_of p).mode none
  where
    by_mode : (m : Mode) → cause_in m ≡ None → m ≡ mode.Running
    by_mode mode.Running is = refl
    by_mode (mode.Ending cause) is = cc

pub no_outer : (part : Part) (old new : Seen) → IsPartOf part old new → why_of new ≡ None → new.outer ≡ None
no_outer part old new is none = subst (λ (o : Option Stop). EndsBy o new) (goes_on new none) is.ends

-- where it stopped, what would come next doesn't
pub stays : (next : Solo → Going) (solo : Solo) (cause : Why) → onward next (solo, stop_for (Some cause)) ≡ (solo, stop_for (Some cause))
stays next solo why.PowerOff = refl
stays next solo why.Stopped = refl
stays next solo (why.Failed code) = refl
stays next solo (why.Lost d) = refl
stays next solo why.DebugLost = refl
stays next solo why.Steps = refl
stays next solo why.Full = refl
stays next solo why.ListenFailed = refl
stays next solo why.CrewRefused = refl

-- 2. Parts one after another

-- parts were carried out, the run goes on, and the rest makes of it what the whole makes
pub record IsCoreOn (whole rest : Part) (old now : Seen) : Type 0 where
  pub machine : now.machine ≡ old.machine
  pub image : now.image ≡ old.image
  pub handed : now.handed ≡ old.handed
  pub outer : now.outer ≡ None
  pub runs : (state_of now).mode ≡ mode.Running
  pub leads : (answers : ℕ → List Heard) → ◌≡◌ {A = Going} (rest (setup_by old) (bounds_by old) (solo_of now answers)) (whole (setup_by old) (bounds_by old) (solo_of old answers))

pub core_start : (whole : Part) (p : Seen) → p.outer ≡ None → (state_of p).mode ≡ mode.Running → IsCoreOn whole whole p p
core_start whole p none runs = record { machine = refl; image = refl; handed = refl; outer = none; runs = runs; leads = λ answers. refl }

-- a part of the same machine
pub part_of : (part : Part) (old now : Seen) (solo : Solo) → now.machine ≡ old.machine → ◌≡◌ {A = Going} (part (setup_by now) (bounds_by now) solo) (part (setup_by old) (bounds_by old) solo)
part_of part old now solo same = ap (λ m. let p : Seen = record old { machine = m } in part (setup_by p) (bounds_by p) solo) same

made_by : (whole rest next part : Part) (old now new : Seen) (answers : ℕ → List Heard) → IsCoreOn whole rest old now → Splits rest next part → IsPartOf part now new
    → ◌≡◌ {A = Going} (onward (next (setup_by old) (bounds_by old)) (solo_of new answers, stop_of new)) (whole (setup_by old) (bounds_by old) (solo_of old answers))
made_by whole rest next part old now new answers on split is =
    ap (onward (next (setup_by old) (bounds_by old))) (is.made answers ∙ part_of part old now (solo_of now answers) on.machine)
    ∙ sym (split (setup_by old) (bounds_by old) (solo_of now answers))
    ∙ on.leads answers

pub core_next : (whole rest next part : Part) (old now new : Seen) → IsCoreOn whole rest old now → Splits rest next part → IsPartOf part now new → why_of new ≡ None → IsCoreOn whole next old new
core_next whole rest next part old now new on split is none = record {
  machine = is.machine ∙ on.machine;
  image = is.image ∙ on.image;
  handed = is.handed ∙ on.handed;
  outer = no_outer part now new is none;
  runs = runs_by new none;
  leads = λ (answers : ℕ → List Heard).
      ap (λ (o : Option Stop). onward (next (setup_by old) (bounds_by old)) (solo_of new answers, o)) (sym (goes_on new none))
      ∙ made_by whole rest next part old now new answers on split is;
}

pub core_stop : (whole rest next part : Part) (old now new : Seen) (cause : Why) → IsCoreOn whole rest old now → Splits rest next part → IsPartOf part now new → why_of new ≡ Some cause → IsPartOf whole old new
core_stop whole rest next part old now new cause on split is some = record {
  machine = is.machine ∙ on.machine;
  image = is.image ∙ on.image;
  handed = is.handed ∙ on.handed;
  made = λ (answers : ℕ → List Heard).
      sym (subst (λ (o : Option Stop). ◌≡◌ {A = Going} (onward (next (setup_by old) (bounds_by old)) (solo_of new answers, o)) (solo_of new answers, o)) (sym (ap stop_for some))
      (stays (next (setup_by old) (bounds_by old)) (solo_of new answers) cause))
      ∙ made_by whole rest next part old now new answers on split is;
  ends = is.ends;
}

pub core_end : (whole rest : Part) (old now : Seen) → IsCoreOn whole rest old now → ((setup : Setup) (bounds : Bounds) (solo : Solo) → ◌≡◌ {A = Going} (rest setup bounds solo) (solo, None)) → IsPartOf whole old now
core_end whole rest old now on over =
    let goes : stop_of now ≡ None = ap (λ (m : Mode). stop_for (cause_in m)) on.runs in
    record {
      machine = on.machine;
      image = on.image;
      handed = on.handed;
      made = λ (answers : ℕ → List Heard).
          ap (λ (o : Option Stop). let g : Going = (solo_of now answers, o) in g) goes
          ∙ sym (over (setup_by old) (bounds_by old) (solo_of now answers))
          ∙ on.leads answers;
      ends = subst (λ (o : Option Stop). EndsBy o now) (sym goes) on.outer;
    }

-- the last part of a whole
pub core_last : (whole part : Part) (old now new : Seen) → IsCoreOn whole part old now → IsPartOf part now new → IsPartOf whole old new
core_last whole part old now new on is = record {
  machine = is.machine ∙ on.machine;
  image = is.image ∙ on.image;
  handed = is.handed ∙ on.handed;
  made = λ (answers : ℕ → List Heard). is.made answers ∙ part_of part old now (solo_of now answers) on.machine ∙ on.leads answers;
  ends = is.ends;
}

-- 3. An entry

abbrev pub entry_of : Entry → Part
entry_of e setup bounds solo = solo_entry setup bounds e solo

pub state_with : (q : Seen) (e : Entry) → state_of (with_entry (plain q) e) ≡ done (setup_by q) (state_of (plain q)) (made e)
state_with q e = ap (after (setup_by q) (first_by q)) (moves-more q.entries e) ∙ after-append (setup_by q) (first_by q) (map made q.entries) (made e ∷ [])

bytes_with : (q : Seen) (e : Entry) → debug_of (with_entry (plain q) e) ≡ debug_of (plain q) ++ bytes_of (state_of (plain q)) (made e)
bytes_with q e =
    ap (debug_bytes (setup_by q) (first_by q)) (moves-more q.entries e)
    ∙ debug-append (setup_by q) (first_by q) (map made q.entries) (made e ∷ [])
    ∙ ap (λ (xs : List ℕ). debug_of (plain q) ++ xs) (append-nil (bytes_of (state_of (plain q)) (made e)))

solo_makes : (q : Seen) (e : Entry) (answers : ℕ → List Heard) → makes (setup_by q) (solo_of q answers) e ≡ solo_of (with_entry (plain q) e) answers
solo_makes q e answers =
    let state_is = sym (state_with q e) in
    let bytes_are = sym (bytes_with q e) in
    λ i. record { state = state_is i; entries = q.entries ++ e ∷ []; bytes = bytes_are i; answers = answers }

-- an entry that was made
pub entry_part : (q : Seen) (e : Entry) → IsLater (with_entry (plain q) e) → IsOwnEnd (done (setup_by q) (state_of (plain q)) (made e)).mode → IsPartOf (entry_of e) (plain q) (with_entry (plain q) e)
entry_part q e L ending =
    let later : Seen = with_entry (plain q) e in
    let s : State = done (setup_by q) (state_of (plain q)) (made e) in
    let own : IsOwnEnd (state_of later).mode = subst (λ (t : State). IsOwnEnd t.mode) (sym (state_with q e)) ending in
    let fits : record_count later.entries + owed s ≤ q.machine.journal_entries = subst (λ (t : State). record_count later.entries + owed t ≤ q.machine.journal_entries) (state_with q e) L.room in
    let room : has_room q.machine.journal_entries (setup_by q) (state_of (plain q)) q.entries e ≡ true = le-leb _ _ fits in
    record {
      machine = refl;
      image = refl;
      handed = refl;
      made = λ (answers : ℕ → List Heard).
          ap (λ (o : Option Stop). let g : Going = (solo_of later answers, o) in g) own.stop_is
          ∙ ap going (sym (solo_makes q e answers))
          ∙ sym (rw room refl);
      ends = own.ends later refl;
    }

-- an entry that found no room
pub full_entry : (q new : Seen) (e : Entry) → IsFull (plain q) new e → IsPartOf (entry_of e) (plain q) new
full_entry q new e full =
    let p : Seen = plain q in
    let later : Seen = with_end p why.Full (seat_of p.machine e) in
    let stops : stop_of later ≡ Some stop.Full = ap (λ (m : Mode). stop_for (cause_in m)) (end_ends p why.Full (seat_of p.machine e)) in
    let room : has_room q.machine.journal_entries (setup_by q) (state_of p) q.entries e ≡ false = full.wanting in
    subst (λ (x : Seen). IsPartOf (entry_of e) p x) (sym full.new_is) record {
      machine = refl;
      image = refl;
      handed = refl;
      made = λ (answers : ℕ → List Heard). ap (λ (o : Option Stop). let g : Going = (solo_of p answers, o) in g) stops ∙ sym (rw room refl);
      ends = subst (λ (o : Option Stop). EndsBy o later) (sym stops) refl;
    }

-- 4. A tick

pub tick_full : (m : Mode) (ticked : Bool) (old new : Seen) (n : ℕ) → m ≡ mode.Running → ticked ≡ false → NotTicked m ticked old new n → IsFull old new (entry.Tick n)
tick_full mode.Running false old new n runs first is = is
tick_full mode.Running true old new n runs first is = absurd (true≢false first)
tick_full (mode.Ending cause) ticked old new n runs first is = cc

tick_plain : (q new : Seen) (result : Bool) → (state_of (plain q)).mode ≡ mode.Running → (state_of (plain q)).ticked ≡ false → IsLater new → TickedSo (plain q) new 64 result → IsPartOf solo_tick (plain q) new
tick_plain q new true runs first L T =
    subst (λ (x : Seen). IsPartOf solo_tick (plain q) x) (sym T.2) (entry_part q (entry.Tick 64) (subst IsLater T.2 L) (subst IsOwnEnd (sym runs) own_running))
tick_plain q new false runs first L T = full_entry q new (entry.Tick 64) (tick_full (state_of (plain q)).mode (state_of (plain q)).ticked (plain q) new 64 runs first T)

-- a tick of a core is that of the schedule
pub tick_is : (old new : Seen) (result : Bool) → old.outer ≡ None → (state_of old).mode ≡ mode.Running → (state_of old).ticked ≡ false → IsLater new → TickedSo old new 64 result → IsPartOf solo_tick old new
tick_is old new result none runs first L T =
    let is = plain_is old none in
    subst (λ (p : Seen). IsPartOf solo_tick p new) (sym is)
    (tick_plain old new result (subst (λ (p : Seen). (state_of p).mode ≡ mode.Running) is runs) (subst (λ (p : Seen). (state_of p).ticked ≡ false) is first) L
    (subst (λ (p : Seen). TickedSo p new 64 result) is T))
