-- The run that an engine carried out, from the machine as it is made to the journal.
use Rattle.std.proofs.Common.{◌≡◌, ℕ, zero, suc, ◌<◌, ◌≤◌, Bool, true, List, [], ◌∷◌, append-nil, length, map, replicate, get_or, Option, Some, None, refl, ap, sym, ◌∙◌, subst, arith}
use Rattle.std.specs.List.{slice_get}
use Rattle.std.specs.Option.{is_some}
use Rattle.std.specs.Prelude.{IfNone, Result, Ok}
use Rattle.std.proofs.lemmas.Bool.{false≢true}
use Rattle.std.proofs.lemmas.List.{length-replicate}
use Rattle.tv_base.specs.declared.Why.{Why}
use Rattle.tv_base.specs.declared.Why.TheVariants as why
use Rattle.tv_items.specs.declared.action.Heard.{Heard}
use Rattle.tv_journal.specs.declared.Entry.{Entry}
use Rattle.tv_journal.specs.Journals.{JournalState}
use Rattle.tv_machine.specs.declared.kinds.DeviceKind.{DeviceKind}
use Rattle.tv_machine.specs.declared.kinds.DeviceSpec.{DeviceSpec}
use Rattle.tv_machine.specs.declared.machine.Machine.{Machine}
use Rattle.tv_machine.specs.Valid.{IsValid}
use Rattle.tv_out.specs.Told.{ToldSink}
use Rattle.tv_plan.specs.Devices.{DeviceState, next}
use Rattle.tv_plan.specs.Probe.{ProbeState, new_probe}
use Rattle.tv_script.specs.Services.{Rests, after as after_replies, next_of as next_in, opened}
use Rattle.tv_spec.specs.declared.Mode.{Mode}
use Rattle.tv_spec.specs.declared.Mode.TheVariants as mode
use Rattle.tv_spec.specs.declared.Stop.{Stop}
use Rattle.tv_spec.specs.declared.Stop.TheVariants as stop
use Rattle.tv_spec.specs.Devices.{IsOver, rested}
use Rattle.tv_spec.specs.Legal.{IsLegalRun, with_outer}
use Rattle.tv_spec.specs.Setup.{device_of, setup_of}
use Rattle.tv_spec.specs.Shows.{cause_in, cause_of_end, debug_bytes}
use Rattle.tv_spec.specs.Solo.{Going, answers_in, solo_run}
use Rattle.tv_spec.specs.State.{first_in, first_run, first_state}
use Rattle.tv_spec.specs.Step.{ended, made}
use Rattle.tv_spec.proofs.SoFar.{debug-append}
use Rattle.tv_core.specs.Calls.{EndedIn, EndedSo, why_of}
use Rattle.tv_core.specs.Seen.{Seen, debug_of, dev_of, first_by, first_seen, setup_by, state_of}
use Rattle.tv_core.proofs.History.{outer_set}
use Rattle.tv_core.proofs.Turns.{end_ends}
use Rattle.tv_runner.specs.Cores.{EndsBy, IsRunTo, solo_of, stop_for, stop_of}
use Rattle.tv_runner.specs.Engines.{AreProbes, AreRounds, IsReady}
use Rattle.tv_runner.specs.Lines.{IsAtRest}
use Rattle.tv_runner.specs.Runs.{IsPut, IsRun, cause_by, outer_by, rounds_of}
use Rattle.tv_runner.proofs.CoreRounds.{cause_is, run_whole}

-- 1. As a run begins

-- a probe that is new rests
new_rests : next (DeviceState.Probe new_probe) [] ≡ Rests (DeviceState.Probe new_probe)
unfolding next after_replies opened next_in
new_rests = refl

kind_at : (devices : List DeviceSpec) (d : ℕ) → AreProbes devices → d < length devices → first_in d (slice_get devices d) ≡ DeviceState.Probe new_probe
kind_at devices d probes below = by_list devices d d probes below
  where
    by_list : (ds : List DeviceSpec) (k slot : ℕ) → AreProbes ds → k < length ds → first_in slot (slice_get ds k) ≡ DeviceState.Probe new_probe
    by_list [] k slot probes below = absurd (omega (arith, below))
    by_list (x ∷ ds) zero slot probes below = ap (λ (kind : DeviceKind). device_of kind slot x) probes.0
    by_list (x ∷ ds) (suc k) slot probes below = by_list ds k slot probes.1 (omega (arith, below))

new_at : (n d : ℕ) (none : ProbeState) → d < n → get_or (replicate n new_probe) d none ≡ new_probe
new_at zero d none below = absurd (omega (arith, below))
new_at (suc n) zero none below = refl
new_at (suc n) (suc d) none below = new_at n d none (omega (arith, below))

first_rest : (machine : Machine) (image : List ℕ) (d : ℕ) → AreProbes machine.device → d < length machine.device → IsAtRest (dev_of (first_seen machine image) d) (DeviceState.Probe new_probe)
first_rest machine image d probes below =
    subst (λ (s : DeviceState). IsAtRest (first_run s) (DeviceState.Probe new_probe)) (sym (kind_at machine.device d probes below)) record {
      still = record { quiet = refl; answered = record { due = refl; replied = refl } };
      over = subst IsOver (sym new_rests) tt;
      state = ap (rested (DeviceState.Probe new_probe)) new_rests;
    }

first_ready : (machine : Machine) (image : List ℕ) → IsValid machine → AreProbes machine.device → IsReady (first_seen machine image) (replicate (length machine.device) new_probe) machine.harts
first_ready machine image valid probes =
    let count : length (replicate (length machine.device) new_probe) ≡ length machine.device = length-replicate (length machine.device) new_probe in
    record {
      valid = valid;
      harts = refl;
      going = record { outer = refl; runs = refl };
      devices = record {
        rest = record {
          count = count;
          each = λ (d : ℕ) (none : ProbeState) (below : d < length (replicate (length machine.device) new_probe)).
              (let there : d < length machine.device = omega (arith, below, count) in
              subst (λ (q : ProbeState). IsAtRest (dev_of (first_seen machine image) d) (DeviceState.Probe q)) (sym (new_at (length machine.device) d none there))
              (first_rest machine image d probes there));
        };
        through = λ d below. omega arith;
      };
      handed = omega arith;
    }

pub ready_call : (machine : Machine) (image : List ℕ) (core : Seen) (devices : List ProbeState) (harts : ℕ) → IsValid machine → AreProbes machine.device → core ≡ first_seen machine image
    → devices ≡ replicate (length machine.device) new_probe → harts ≡ machine.harts → IsReady core devices harts
ready_call machine image core devices harts valid probes core_is devices_are harts_are =
    subst (λ (p : Seen). IsReady p devices harts) (sym core_is)
    (subst (λ (ds : List ProbeState). IsReady (first_seen machine image) ds harts) (sym devices_are)
    (subst (λ (n : ℕ). IsReady (first_seen machine image) (replicate (length machine.device) new_probe) n) (sym harts_are) (first_ready machine image valid probes)))

pub same_ok : {E : Type 0} (p q : ProbeState) → ◌≡◌ {A = Result ProbeState E} (Ok p) (Ok q) → p ≡ q
same_ok p q is = cc

-- 2. The journal

-- a run that went on ended as bytes were lost; any other stays as it ended
pub record IsClosed (p q : Seen) : Type 0 where
  pub machine : q.machine ≡ p.machine
  pub image : q.image ≡ p.image
  pub entries : q.entries ≡ p.entries
  pub outer : q.outer ≡ outer_by p.entries (stop_of p)
  pub cause : why_of q ≡ Some (cause_by (stop_of p))

closed_for : (cause : Why) (p : Seen) → EndsBy (stop_for (Some cause)) p → (p.outer ≡ outer_by p.entries (stop_for (Some cause))) × (cause_by (stop_for (Some cause)) ≡ cause)
closed_for why.Full p ends = (ends, refl)
closed_for why.PowerOff p ends = (ends, refl)
closed_for why.Stopped p ends = (ends, refl)
closed_for (why.Failed code) p ends = (ends, refl)
closed_for (why.Lost d) p ends = (ends, refl)
closed_for why.DebugLost p ends = (ends, refl)
closed_for why.Steps p ends = (ends, refl)
closed_for why.ListenFailed p ends = (ends, refl)
closed_for why.CrewRefused p ends = (ends, refl)

pub closed_call : (p q : Seen) (seat : ℕ) → EndsBy (stop_of p) p → EndedSo p q why.DebugLost seat → IsClosed p q
closed_call p q seat ends ended_so = by_mode (state_of p).mode refl ended_so
  where
    by_mode : (m : Mode) → (state_of p).mode ≡ m → EndedIn m p q why.DebugLost seat → IsClosed p q
    by_mode (mode.Ending cause) is same =
        let some : why_of p ≡ Some cause = ap cause_in is in
        let at : stop_of p ≡ stop_for (Some cause) = ap stop_for some in
        let closed = closed_for cause p (subst (λ (o : Option Stop). EndsBy o p) at ends) in
        subst (λ (x : Seen). IsClosed p x) (sym same) record {
          machine = refl;
          image = refl;
          entries = refl;
          outer = closed.0 ∙ ap (outer_by p.entries) (sym at);
          cause = some ∙ ap (λ (c : Why). Some c) (sym closed.1 ∙ ap cause_by (sym at));
        }
    by_mode mode.Running is later =
        let at : stop_of p ≡ None = ap (λ (m : Mode). stop_for (cause_in m)) is in
        subst (λ (x : Seen). IsClosed p x) (sym later) record {
          machine = refl;
          image = refl;
          entries = refl;
          outer = ap (outer_by p.entries) (sym at);
          cause = ap cause_in (end_ends p why.DebugLost seat) ∙ ap (λ (o : Option Stop). Some (cause_by o)) (sym at);
        }

pub closed_legal : (p q : Seen) (entries : List Entry) (outer : Option (ℕ × Why)) → IsClosed p q → entries ≡ q.entries → outer ≡ q.outer → IsLegalRun q.machine q.image q.entries q.outer
    → IsLegalRun p.machine p.image entries outer
closed_legal p q entries outer closed entries_are outer_is legal =
    subst (λ (m : Machine). IsLegalRun m p.image entries outer) closed.machine
    (subst (λ (i : List ℕ). IsLegalRun q.machine i entries outer) closed.image
    (subst (λ (es : List Entry). IsLegalRun q.machine q.image es outer) (sym entries_are) (subst (λ (o : Option (ℕ × Why)). IsLegalRun q.machine q.image q.entries o) (sym outer_is) legal)))

pub closed_cause : (p q : Seen) (entries : List Entry) (outer : Option (ℕ × Why)) → IsClosed p q → entries ≡ q.entries → outer ≡ q.outer → IsLegalRun q.machine q.image q.entries q.outer
    → cause_of_end (setup_by p) (first_by p) (with_outer entries outer) ≡ Some (cause_by (stop_of p))
closed_cause p q entries outer closed entries_are outer_is legal =
    ap (λ (m : Machine). let x : Seen = record p { machine = m } in cause_of_end (setup_by x) (first_by x) (with_outer entries outer)) (sym closed.machine)
    ∙ ap (λ (i : List ℕ). let x : Seen = record q { image = i } in cause_of_end (setup_by x) (first_by x) (with_outer entries outer)) (sym closed.image)
    ∙ ap (λ (es : List Entry). cause_of_end (setup_by q) (first_by q) (with_outer es outer)) entries_are
    ∙ ap (λ (o : Option (ℕ × Why)). cause_of_end (setup_by q) (first_by q) (with_outer q.entries o)) outer_is
    ∙ cause_is q legal
    ∙ closed.cause

-- 3. The run

-- an end behind all entries shows no byte
bytes_there : (p : Seen) (answers : ℕ → List Heard) → EndsBy (stop_of p) p → debug_of p ≡ (solo_of p answers).bytes
bytes_there p answers ends = by_stop (stop_of p) ends
  where
    none : p.outer ≡ None → debug_of p ≡ (solo_of p answers).bytes
    none is = ap (λ (o : Option (ℕ × Why)). debug_bytes (setup_by p) (first_by p) (with_outer p.entries o)) is

    by_stop : (o : Option Stop) → EndsBy o p → debug_of p ≡ (solo_of p answers).bytes
    by_stop None is = none is
    by_stop (Some (stop.Ended cause)) is = none is
    by_stop (Some stop.Full) is =
        ap (λ (o : Option (ℕ × Why)). debug_bytes (setup_by p) (first_by p) (with_outer p.entries o)) is
        ∙ ap (debug_bytes (setup_by p) (first_by p)) (outer_set p.entries why.Full)
        ∙ debug-append (setup_by p) (first_by p) (map made p.entries) (ended why.Full ∷ [])
        ∙ append-nil (debug_bytes (setup_by p) (first_by p) (map made p.entries))

stopped_for : (o : Option Why) (lost : Bool) → IfNone o (lost ≡ true) → IfNone (stop_for o) (lost ≡ true)
stopped_for None lost is = is
stopped_for (Some why.Full) lost is = tt
stopped_for (Some why.PowerOff) lost is = tt
stopped_for (Some why.Stopped) lost is = tt
stopped_for (Some (why.Failed code)) lost is = tt
stopped_for (Some (why.Lost d)) lost is = tt
stopped_for (Some why.DebugLost) lost is = tt
stopped_for (Some why.Steps) lost is = tt
stopped_for (Some why.ListenFailed) lost is = tt
stopped_for (Some why.CrewRefused) lost is = tt

-- rounds that stopped are the whole run
whole_for : (machine : Machine) (image : List ℕ) (n : ℕ) (p : Seen) (answers : ℕ → List Heard) → IsRunTo (rounds_of n) (first_seen machine image) p → n ≤ machine.steps → is_some (stop_of p) ≡ true
    → ◌≡◌ {A = Going} (solo_run machine image answers) (solo_of p answers, stop_of p)
whole_for machine image n p answers is few some = by_why (why_of p) refl
  where
    by_why : (o : Option Why) → why_of p ≡ o → ◌≡◌ {A = Going} (solo_run machine image answers) (solo_of p answers, stop_of p)
    by_why None none = absurd (false≢true (sym (ap (λ (x : Option Why). is_some (stop_for x)) none) ∙ some))
    by_why (Some cause) here = run_whole machine image n p cause answers is here few

pub run_is : (machine : Machine) (image : List ℕ) (first p : Seen) (journal : JournalState) (stopped : Option Stop) (lost : Bool) (told now : ToldSink) → first ≡ first_seen machine image
    → AreRounds first p lost told now → stopped ≡ stop_of p → journal.entries ≡ p.entries → journal.outer ≡ outer_by p.entries (stop_of p)
    → IsLegalRun p.machine p.image journal.entries journal.outer
    → cause_of_end (setup_by p) (first_by p) (with_outer journal.entries journal.outer) ≡ Some (cause_by (stop_of p))
    → IsRun machine image (record { journal = journal; stop = stopped; lost = lost }) told now
run_is machine image first p journal stopped lost told now first_is rounds stopped_is entries outer legal cause =
    subst (λ (o : Option Stop). IsRun machine image (record { journal = journal; stop = o; lost = lost }) told now) (sym stopped_is) (by_rounds (subst (λ (x : Seen). AreRounds x p lost told now) first_is rounds))
  where
    by_rounds : AreRounds (first_seen machine image) p lost told now → IsRun machine image (record { journal = journal; stop = stop_of p; lost = lost }) told now
    by_rounds R =
        let answers : ℕ → List Heard = answers_in journal.entries in
        let middle_ends : EndsBy (stop_of R.middle) R.middle = R.before.ends in
        record {
          earlier = R.earlier;
          middle = solo_of R.middle answers;
          solo = solo_of p answers;
          before = sym (R.before.made answers) ∙ ap (λ (o : Option Stop). let g : Going = (solo_of R.middle answers, o) in g) R.goes;
          rounds = sym (R.part.made answers);
          whole = whole_for machine image (suc R.earlier) p answers R.part R.few;
          stopped = stopped_for (why_of p) lost R.stopped;
          entries = entries;
          outer = outer;
          legal = subst (λ (m : Machine). IsLegalRun m image journal.entries journal.outer) R.part.machine
              (subst (λ (i : List ℕ). IsLegalRun p.machine i journal.entries journal.outer) R.part.image legal);
          bytes = by_machine R answers;
          cause = by_cause R;
          put = subst (λ (xs : List ℕ). IsPut lost xs (solo_of p answers).bytes told now) (bytes_there R.middle answers middle_ends)
              (subst (λ (xs : List ℕ). IsPut lost (debug_of R.middle) xs told now) (bytes_there p answers R.part.ends) R.put);
        }
      where
        by_machine : (R : AreRounds (first_seen machine image) p lost told now) (answers : ℕ → List Heard) → (solo_of p answers).bytes ≡ debug_bytes (setup_of machine) (first_state machine image) (map made p.entries)
        by_machine R answers =
            ap (λ (m : Machine). let x : Seen = record p { machine = m } in debug_bytes (setup_by x) (first_by x) (map made p.entries)) R.part.machine
            ∙ ap (λ (i : List ℕ). debug_bytes (setup_of machine) (first_state machine i) (map made p.entries)) R.part.image

        by_cause : (R : AreRounds (first_seen machine image) p lost told now)
            → cause_of_end (setup_of machine) (first_state machine image) (with_outer journal.entries journal.outer) ≡ Some (cause_by (stop_of p))
        by_cause R =
            sym (ap (λ (m : Machine). let x : Seen = record p { machine = m } in cause_of_end (setup_by x) (first_by x) (with_outer journal.entries journal.outer)) R.part.machine
            ∙ ap (λ (i : List ℕ). cause_of_end (setup_of machine) (first_state machine i) (with_outer journal.entries journal.outer)) R.part.image)
            ∙ cause
