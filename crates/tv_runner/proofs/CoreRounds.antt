-- Rounds of a core, and the run that they are.
use Rattle.std.proofs.Common.{◌≡◌, ℕ, suc, ◌<◌, ◌≤◌, List, [], ◌∷◌, Option, Some, None, refl, ap, sym, ◌∙◌, subst, arith}
use Rattle.tv_base.specs.declared.Why.{Why}
use Rattle.tv_base.specs.declared.Why.TheVariants as why
use Rattle.tv_items.specs.declared.action.Heard.{Heard}
use Rattle.tv_machine.specs.declared.machine.Machine.{Machine}
use Rattle.tv_machine.specs.Valid.{IsValid}
use Rattle.tv_spec.specs.declared.Mode.{Mode}
use Rattle.tv_spec.specs.declared.Mode.TheVariants as mode
use Rattle.tv_spec.specs.declared.Stop.{Stop}
use Rattle.tv_spec.specs.declared.Stop.TheVariants as stop
use Rattle.tv_spec.specs.Legal.{IsLegal, IsLegalRun, after}
use Rattle.tv_spec.specs.Setup.{Setup, setup_of}
use Rattle.tv_spec.specs.Shows.{cause_in, cause_of_end, end_of, or_else}
use Rattle.tv_spec.specs.Solo.{Going, bounds_of, first_solo, onward, round, rounds, solo_run, solo_tick}
use Rattle.tv_spec.specs.State.{State}
use Rattle.tv_spec.specs.Step.{Can, IsOpen, Move, done, ended, made}
use Rattle.tv_spec.proofs.Bound.{IsBounded, bounded_done}
use Rattle.tv_spec.proofs.SoFar.{cause-more}
use Rattle.tv_core.specs.Calls.{why_of}
use Rattle.tv_core.specs.Seen.{Seen, first_by, first_seen, history, setup_by, state_of}
use Rattle.tv_runner.specs.Cores.{EndsBy, IsPartOf, IsRunTo, bounds_by, solo_of, stop_for, stop_of}
use Rattle.tv_runner.specs.Engines.{all_devices}
use Rattle.tv_runner.specs.Parts.{Part, all_turns}
use Rattle.tv_runner.specs.Runs.{rounds_of}
use Rattle.tv_runner.proofs.CoreParts.{IsCoreOn, core_last, core_next, core_start, core_stop, goes_on, part_of}
use Rattle.tv_runner.proofs.On.{Splits, both, onward-twice}
use Rattle.tv_runner.proofs.Rounds.{rounds-more, rounds-stay, rounds-zero}

-- 1. A round

-- what follows the turns of the harts
abbrev pub after_turns : Part
after_turns = both all_devices solo_tick

pub splits_round : Splits round after_turns all_turns
splits_round setup bounds solo = sym (onward-twice (after_turns setup bounds) (all_devices setup bounds) (solo_tick setup bounds) (all_turns setup bounds solo) (λ s. refl))

-- the harts had their turns
pub round_on : (old now : Seen) → old.outer ≡ None → (state_of old).mode ≡ mode.Running → IsPartOf all_turns old now → why_of now ≡ None → IsCoreOn round after_turns old now
round_on old now none runs is goes = core_next round round after_turns all_turns old old now (core_start round old none runs) splits_round is goes

pub round_stop : (old new : Seen) (cause : Why) → old.outer ≡ None → (state_of old).mode ≡ mode.Running → IsPartOf all_turns old new → why_of new ≡ Some cause → IsPartOf round old new
round_stop old new cause none runs is some = core_stop round round after_turns all_turns old old new cause (core_start round old none runs) splits_round is some

-- and the devices theirs
pub devices_on : (old mid now : Seen) → IsCoreOn round after_turns old mid → IsPartOf all_devices mid now → why_of now ≡ None → IsCoreOn round solo_tick old now
devices_on old mid now on is goes = core_next round after_turns solo_tick all_devices old mid now on (λ setup bounds solo. refl) is goes

pub devices_stop : (old mid new : Seen) (cause : Why) → IsCoreOn round after_turns old mid → IsPartOf all_devices mid new → why_of new ≡ Some cause → IsPartOf round old new
devices_stop old mid new cause on is some = core_stop round after_turns solo_tick all_devices old mid new cause on (λ setup bounds solo. refl) is some

-- and time went on
pub round_is : (old mid new : Seen) → IsCoreOn round solo_tick old mid → IsPartOf solo_tick mid new → IsPartOf round old new
round_is old mid new on is = core_last round solo_tick old mid new on is

-- 2. Rounds

pub handed_on : (part : Part) (old now : Seen) (handed : ℕ) → IsRunTo part old now → IsRunTo part old (record now { handed = handed })
handed_on part old now handed is = record { machine = is.machine; image = is.image; made = is.made; ends = by_stop (stop_of now) is.ends }
  where
    by_stop : (o : Option Stop) → EndsBy o now → EndsBy o (record now { handed = handed })
    by_stop None ends = ends
    by_stop (Some stop.Full) ends = ends
    by_stop (Some (stop.Ended cause)) ends = ends

pub rounds_none : (p : Seen) → p.outer ≡ None → (state_of p).mode ≡ mode.Running → IsRunTo (rounds_of 0) p p
rounds_none p none runs =
    let goes : stop_of p ≡ None = ap (λ (m : Mode). stop_for (cause_in m)) runs in
    record {
      machine = refl;
      image = refl;
      made = λ (answers : ℕ → List Heard).
          ap (λ (o : Option Stop). let g : Going = (solo_of p answers, o) in g) goes ∙ sym (rounds-zero (setup_by p) (bounds_by p) (solo_of p answers));
      ends = subst (λ (o : Option Stop). EndsBy o p) (sym goes) none;
    }

pub rounds_next : (n : ℕ) (old now new : Seen) → IsRunTo (rounds_of n) old now → why_of now ≡ None → IsPartOf round now new → IsRunTo (rounds_of (suc n)) old new
rounds_next n old now new before goes is = record {
  machine = is.machine ∙ before.machine;
  image = is.image ∙ before.image;
  made = λ (answers : ℕ → List Heard).
      is.made answers
      ∙ part_of round old now (solo_of now answers) before.machine
      ∙ ap (λ (o : Option Stop). onward (round (setup_by old) (bounds_by old)) (solo_of now answers, o)) (sym (goes_on now goes))
      ∙ ap (onward (round (setup_by old) (bounds_by old))) (before.made answers)
      ∙ sym (rounds-more (setup_by old) (bounds_by old) n (solo_of old answers));
  ends = is.ends;
}

-- 3. The run

-- rounds that stopped are all of it
pub run_whole : (machine : Machine) (image : List ℕ) (n : ℕ) (new : Seen) (cause : Why) (answers : ℕ → List Heard) → IsRunTo (rounds_of n) (first_seen machine image) new → why_of new ≡ Some cause
    → n ≤ machine.steps → ◌≡◌ {A = Going} (solo_run machine image answers) (solo_of new answers, stop_of new)
run_whole machine image n new cause answers is some few =
    by_cause cause some
  where
    there : ◌≡◌ {A = Going} (rounds (setup_of machine) (bounds_of machine) n (first_solo machine image answers)) (solo_of new answers, stop_of new)
    there = sym (is.made answers)

    stays_so : (stopped : Stop) → stop_of new ≡ Some stopped → ◌≡◌ {A = Going} (solo_run machine image answers) (solo_of new answers, stop_of new)
    stays_so stopped so =
        rounds-stay (setup_of machine) (bounds_of machine) n machine.steps (first_solo machine image answers) (solo_of new answers) stopped few
        (there ∙ ap (λ (o : Option Stop). let g : Going = (solo_of new answers, o) in g) so)
        ∙ ap (λ (o : Option Stop). let g : Going = (solo_of new answers, o) in g) (sym so)

    by_cause : (c : Why) → why_of new ≡ Some c → ◌≡◌ {A = Going} (solo_run machine image answers) (solo_of new answers, stop_of new)
    by_cause why.Full e = stays_so stop.Full (ap stop_for e)
    by_cause why.PowerOff e = stays_so (stop.Ended why.PowerOff) (ap stop_for e)
    by_cause why.Stopped e = stays_so (stop.Ended why.Stopped) (ap stop_for e)
    by_cause (why.Failed code) e = stays_so (stop.Ended (why.Failed code)) (ap stop_for e)
    by_cause (why.Lost d) e = stays_so (stop.Ended (why.Lost d)) (ap stop_for e)
    by_cause why.DebugLost e = stays_so (stop.Ended why.DebugLost) (ap stop_for e)
    by_cause why.Steps e = stays_so (stop.Ended why.Steps) (ap stop_for e)
    by_cause why.ListenFailed e = stays_so (stop.Ended why.ListenFailed) (ap stop_for e)
    by_cause why.CrewRefused e = stays_so (stop.Ended why.CrewRefused) (ap stop_for e)

bounded_after : (setup : Setup) (s : State) (moves : List Move) → IsLegal setup s moves → IsBounded setup s → IsBounded setup (after setup s moves)
bounded_after setup s [] legal b = b
bounded_after setup s (move ∷ moves) legal b = bounded_after setup (done setup s move) moves legal.1 (bounded_done setup s move legal.0 b)

-- while a run goes on it has made fewer events than its limit
pub events_below : (p : Seen) → IsValid p.machine → IsLegalRun p.machine p.image p.entries p.outer → (state_of p).mode ≡ mode.Running → (state_of p).events < p.machine.steps
events_below p valid run runs =
    let some = valid.steps.0 in
    let first : IsBounded (setup_by p) (first_by p) = record { items = λ d. omega arith; events = omega arith; below = λ _. omega (arith, some) } in
    (bounded_after (setup_by p) (first_by p) (history p) run.legal first).below runs

-- the cause for which a run ended is the first of its moves
cause_after : (setup : Setup) (s : State) (moves : List Move) → IsLegal setup s moves → cause_in (after setup s moves).mode ≡ or_else (cause_in s.mode) (cause_of_end setup s moves)
cause_after setup s [] legal = or_none (cause_in s.mode)
  where
    or_none : (o : Option Why) → o ≡ or_else o None
    or_none None = refl
    or_none (Some cause) = refl
cause_after setup s (move ∷ moves) legal =
    cause_after setup (done setup s move) moves legal.1
    ∙ ap (λ (o : Option Why). or_else o (cause_of_end setup (done setup s move) moves)) (one move legal.0)
    ∙ joined (cause_in s.mode) (end_of setup s move) (cause_of_end setup (done setup s move) moves)
  where
    one : (m : Move) → Can setup s m → cause_in (done setup s m).mode ≡ or_else (cause_in s.mode) (or_else (end_of setup s m) None)
    one (made e) can = cause-more setup s e can
    one (ended cause) can = by_mode s.mode can.is_open
      where
        by_mode : (m : Mode) → IsOpen m → ◌≡◌ {A = Option Why} (Some cause) (or_else (cause_in m) (Some cause))
        by_mode mode.Running is_open = refl
        by_mode (mode.Ending earlier) is_open = absurd is_open

    joined : (a b c : Option Why) → or_else (or_else a (or_else b None)) c ≡ or_else a (or_else b c)
    joined None None c = refl
    joined None (Some cause) c = refl
    joined (Some cause) b c = refl

pub cause_is : (p : Seen) → IsLegalRun p.machine p.image p.entries p.outer → cause_of_end (setup_by p) (first_by p) (history p) ≡ why_of p
cause_is p run = sym (cause_after (setup_by p) (first_by p) (history p) run.legal)
