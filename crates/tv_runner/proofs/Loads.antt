-- What harts wait for as a round begins: nothing, since each device acted on all its items, and each value landed.
use Rattle.std.proofs.Common.{◌≡◌, ℕ, zero, suc, ◌+◌, ◌<◌, ◌≤◌, inl, inr, Bool, true, false, List, [], ◌∷◌, ◌++◌, length, Option, Some, None, refl, ap, sym, ◌∙◌, subst, arith}
use Rattle.std.specs.List.{slice_get}
use Rattle.std.proofs.lemmas.List.{length-map}
use Rattle.tv_base.specs.declared.Access.TheVariants as access
use Rattle.tv_base.specs.declared.limits.TheConstants.{DEBUG_RING_BYTES}
use Rattle.tv_journal.specs.declared.Entry.TheVariants as entry
use Rattle.tv_machine.specs.Valid.{IsValid}
use Rattle.tv_plan.specs.Devices.{DeviceState}
use Rattle.tv_plan.specs.Probe.{ProbeState, new_probe}
use Rattle.tv_script.specs.Services.{Next, Asks, Rests, Loses}
use Rattle.tv_spec.specs.declared.Answer.{Answer}
use Rattle.tv_spec.specs.declared.Due.{Due}
use Rattle.tv_spec.specs.declared.Made.{Made}
use Rattle.tv_spec.specs.declared.Maker.{Maker}
use Rattle.tv_spec.specs.declared.Pending.{Pending}
use Rattle.tv_spec.specs.declared.Shown.{Shown}
use Rattle.tv_spec.specs.declared.Shown.TheVariants as shown
use Rattle.tv_spec.specs.Devices.{act_on, answers_of, due_for, next_of}
use Rattle.tv_spec.specs.Legal.{IsLegal, IsLegalRun, after}
use Rattle.tv_spec.specs.Setup.{Setup, device_setup}
use Rattle.tv_spec.specs.Sound.{IsLoadOf, Sound, load_at}
use Rattle.tv_spec.specs.State.{State}
use Rattle.tv_spec.specs.Step.{Can, Move, made, ended, after_event, done, event_of, issued, landed, noted, reached, served, took}
use Rattle.tv_spec.specs.Update.{update}
use Rattle.tv_spec.proofs.Kept.{same_load, sound_after}
use Rattle.tv_spec.proofs.Memory.{IsToDevice}
use Rattle.tv_spec.proofs.Updates.{update_elim}
use Rattle.tv_spec.proofs.Whole.{AreInRam, IsWhole, event_place, whole_done}
use Rattle.tv_core.specs.Calls.{StalledBy, Stalls}
use Rattle.tv_core.specs.Seen.{Seen, debug_of, dev_of, first_by, history, setup_by, state_of}
use Rattle.tv_core.specs.Stands.{HasValue, IsUnderWay}
use Rattle.tv_runner.specs.Engines.{AreDone}
use Rattle.tv_runner.proofs.CoreEvents.{is_there, ranges_inside, to_device, whole_first}

-- 1. A load that a hart waits for is of a device of the machine

abbrev AreTheirs : ℕ → (ℕ → Option Pending) → Type 0
AreTheirs count pending = (h : ℕ) (p : Pending) → pending h ≡ Some p → p.dev < count

theirs_at : (count : ℕ) (pending : ℕ → Option Pending) (k : ℕ) (v : Option Pending) → ((p : Pending) → v ≡ Some p → p.dev < count) → AreTheirs count pending
    → AreTheirs count (update pending k v)
theirs_at count pending k v new old h p = update_elim pending k v h (λ x. x ≡ Some p → p.dev < count) (λ _. new p) (λ _. old h p)

of_none : (count : ℕ) (p : Pending) → ◌≡◌ {A = Option Pending} None (Some p) → p.dev < count
of_none count p e = cc

of_load : (count d tag : ℕ) (replied : Bool) → d < count → (p : Pending) → Some (load_at d tag replied) ≡ Some p → p.dev < count
of_load count d tag replied below p e = let same = (same_load (load_at d tag replied) p e).0 in omega (arith, below, same)

theirs_issued : (count hart : ℕ) (seen : Shown) (s : State) → IsToDevice count seen → AreTheirs count s.pending → AreTheirs count (issued hart seen s).pending
theirs_issued count hart (shown.Access d (access.Load width off)) s there theirs =
    theirs_at count s.pending hart (Some (load_at d (length (s.devs d).made) false)) (of_load count d (length (s.devs d).made) false there) theirs
theirs_issued count hart (shown.Access d (access.Store width off value)) s there theirs = theirs_at count s.pending hart None (of_none count) theirs
theirs_issued count hart shown.Nothing s there theirs = theirs
theirs_issued count hart (shown.Byte byte) s there theirs = theirs
theirs_issued count hart (shown.Finish finish) s there theirs = theirs

pending_reached : (s : State) (ws : List Due) → (reached s ws).pending ≡ s.pending
pending_reached s [] = refl
pending_reached s (w ∷ ws) = by_maker w.maker w.answer
  where
    by_maker : (maker : Maker) (answer : Answer) → (reached s (record { tag = w.tag; maker = maker; answer = answer } ∷ ws)).pending ≡ s.pending
    by_maker (Maker.Line c) answer = refl
    by_maker (Maker.Hart h) (Answer.Value v) = refl
    by_maker (Maker.Hart h) (Answer.Verdict v) = refl

theirs_took : (count : ℕ) (s : State) (d : ℕ) (m : Option Made) → AreTheirs count s.pending → AreTheirs count (took s d m).pending
theirs_took count s d None theirs = theirs
theirs_took count s d (Some m) theirs =
    subst (AreTheirs count) (sym (pending_reached s (due_for (s.devs d).acted m.maker (answers_of m.item (act_on (s.devs d) m))))) theirs

theirs_served : (count : ℕ) (setup : Setup) (s : State) (d : ℕ) (n : Next DeviceState) → AreTheirs count s.pending → AreTheirs count (served setup s d n).pending
theirs_served count setup s d (Asks action) theirs = theirs
theirs_served count setup s d (Rests state) theirs = theirs
theirs_served count setup s d (Loses state) theirs = theirs

theirs_noted : (count : ℕ) (s : State) (d : ℕ) (ws : List Due) → d < count → AreTheirs count s.pending → AreTheirs count (noted s d ws).pending
theirs_noted count s d [] below theirs = theirs
theirs_noted count s d (w ∷ ws) below theirs = by_maker w.maker
  where
    by_maker : (maker : Maker) → AreTheirs count (noted s d (record { tag = w.tag; maker = maker; answer = w.answer } ∷ ws)).pending
    by_maker (Maker.Hart h) = theirs_at count s.pending h (Some (load_at d w.tag true)) (of_load count d w.tag true below) theirs
    by_maker (Maker.Line c) = theirs

theirs_landed : (count : ℕ) (s : State) (d : ℕ) (ws : List Due) → AreTheirs count s.pending → AreTheirs count (landed s d ws).pending
theirs_landed count s d [] theirs = theirs
theirs_landed count s d (w ∷ ws) theirs = by_maker w.maker
  where
    by_maker : (maker : Maker) → AreTheirs count (landed s d (record { tag = w.tag; maker = maker; answer = w.answer } ∷ ws)).pending
    by_maker (Maker.Hart h) = theirs_at count s.pending h None (of_none count) theirs
    by_maker (Maker.Line c) = theirs

theirs_done : (setup : Setup) (bytes pages : ℕ) (s : State) (move : Move) → Can setup s move → IsWhole setup bytes pages s → AreTheirs (length setup.devices) s.pending
    → AreTheirs (length setup.devices) (done setup s move).pending
theirs_done setup bytes pages s (made (entry.Hart h)) can whole theirs =
    theirs_issued (length setup.devices) h (event_of s h).2.shown (after_event setup s h) (event_place setup bytes pages s h whole).seen theirs
theirs_done setup bytes pages s (made (entry.Take d)) can whole theirs = theirs_took (length setup.devices) s d (slice_get (s.devs d).made (s.devs d).acted) theirs
theirs_done setup bytes pages s (made (entry.Send d)) can whole theirs = theirs
theirs_done setup bytes pages s (made (entry.ServeMem d)) can whole theirs = theirs_served (length setup.devices) setup s d (next_of (s.devs d)) theirs
theirs_done setup bytes pages s (made (entry.ServeIrq d)) can whole theirs = theirs_served (length setup.devices) setup s d (next_of (s.devs d)) theirs
theirs_done setup bytes pages s (made (entry.Got d)) can whole theirs = theirs
theirs_done setup bytes pages s (made (entry.Reply d)) can whole theirs = theirs_noted (length setup.devices) s d (s.devs d).due can.0 theirs
theirs_done setup bytes pages s (made (entry.Deliver d)) can whole theirs = theirs_landed (length setup.devices) s d (s.devs d).replied theirs
theirs_done setup bytes pages s (made (entry.Intend d)) can whole theirs = theirs
theirs_done setup bytes pages s (made (entry.Did d heard)) can whole theirs = theirs
theirs_done setup bytes pages s (made (entry.Tick n)) can whole theirs = theirs
theirs_done setup bytes pages s (ended cause) can whole theirs = theirs

theirs_after : (setup : Setup) (bytes pages : ℕ) (s : State) (moves : List Move) → AreInRam bytes setup.devices → IsLegal setup s moves → IsWhole setup bytes pages s
    → AreTheirs (length setup.devices) s.pending → AreTheirs (length setup.devices) (after setup s moves).pending
theirs_after setup bytes pages s [] within legal whole theirs = theirs
theirs_after setup bytes pages s (move ∷ moves) within legal whole theirs =
    theirs_after setup bytes pages (done setup s move) moves within legal.1 (whole_done setup bytes pages s move within legal.0 whole)
    (theirs_done setup bytes pages s move legal.0 whole theirs)

theirs_in : (p : Seen) → IsValid p.machine → IsLegalRun p.machine p.image p.entries p.outer → AreTheirs (length p.machine.device) (state_of p).pending
theirs_in p valid run =
    subst (λ (n : ℕ). AreTheirs n (state_of p).pending) (length-map p.machine.device device_setup)
    (theirs_after (setup_by p) (length (first_by p).local.ram) (length (first_by p).withdrawn) (first_by p) (history p) (ranges_inside p valid) run.legal (whole_first p)
    (λ h load e. of_none (length (setup_by p).devices) load e))

-- 2. No hart waits where all devices are done

load_within : (made : List Made) (k h : ℕ) → IsLoadOf h (slice_get made k) → k < length made
load_within [] k h is = absurd is
load_within (m ∷ ms) zero h is = omega arith
load_within (m ∷ ms) (suc k) h is = let less = load_within ms k h is in omega (arith, less)

no_value : (tag value : ℕ) (replied due : List Due) → replied ≡ [] → due ≡ [] → HasValue tag value (replied ++ due) → ⊥
no_value tag value replied due none_replied none_due has =
    subst (HasValue tag value) (ap (λ (xs : List Due). xs ++ due) none_replied ∙ none_due) has

pub free_of : (p : Seen) (probes : List ProbeState) (hart : ℕ) → IsValid p.machine → IsLegalRun p.machine p.image p.entries p.outer → AreDone p probes
    → IsUnderWay (state_of p).devs ((state_of p).pending hart) → (state_of p).pending hart ≡ None
free_of p probes hart valid run devices way = by_load ((state_of p).pending hart) refl way
  where
    sound : Sound (setup_by p) (state_of p)
    sound = sound_after p.machine p.image (history p) run.legal

    by_load : (o : Option Pending) → (state_of p).pending hart ≡ o → IsUnderWay (state_of p).devs o → o ≡ None
    by_load None is under = refl
    by_load (Some load) is under =
        let count = devices.rest.count in
        let theirs : load.dev < length p.machine.device = theirs_in p valid run hart load is in
        let below : load.dev < length probes = omega (arith, count, theirs) in
        let tag : load.tag < length (dev_of p load.dev).made = load_within (dev_of p load.dev).made load.tag hart (sound.owner hart load is) in
        let through : length (dev_of p load.dev).made ≤ (dev_of p load.dev).acted = devices.through load.dev below in
        let answered = (devices.rest.each load.dev new_probe below).still.answered in
        elim under [
          | inl e ↦ absurd (omega (arith, tag, through, e))
          | inr e ↦ absurd (no_value load.tag e.0 (dev_of p load.dev).replied (dev_of p load.dev).due answered.replied answered.due e.1)
        ]

-- 3. No hart stalls there, where all debug bytes were handed out

pub ring_takes : 512 ≤ DEBUG_RING_BYTES
ring_takes = omega arith

pub carried_of : (p : Seen) (probes : List ProbeState) (hart : ℕ) → IsValid p.machine → IsLegalRun p.machine p.image p.entries p.outer → AreDone p probes → length (debug_of p) ≤ p.handed
    → Stalls p hart → ⊥
carried_of p probes hart valid run devices handed = by_shown (event_of (state_of p) hart).2.shown (to_device p hart (is_there p valid run))
  where
    room : (d : ℕ) → d < length (setup_by p).devices → (dev_of p d).acted + p.machine.tube ≤ length (dev_of p d).made → ⊥
    room d there full =
        let same = length-map p.machine.device device_setup in
        let count = devices.rest.count in
        let through = devices.through d (omega (arith, there, same, count)) in
        let some = valid.tube.0 in
        omega (arith, through, some, full)

    by_shown : (what : Shown) → IsToDevice (length (setup_by p).devices) what → StalledBy p what → ⊥
    by_shown shown.Nothing there stalls = stalls
    by_shown (shown.Byte byte) there stalls = let takes = ring_takes in omega (arith, handed, stalls, takes)
    by_shown (shown.Finish finish) there stalls = stalls
    by_shown (shown.Access d (access.Load width off)) there stalls = room d there stalls
    by_shown (shown.Access d (access.Store width off value)) there stalls = room d there stalls
