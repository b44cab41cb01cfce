-- What each state of a legal run has, the monitor keeps.
use Rattle.std.proofs.Common.{◌≡◌, ℕ, Bool, true, false, List, [], ◌∷◌, ◌++◌, ap, sym, ◌∙◌, subst, arith, append-nil}
use Rattle.std.specs.Prelude.{Result, Ok, Err, ⊤}
use Rattle.tv_base.specs.declared.Why.{Why}
use Rattle.tv_guest.specs.Burst.{events_of}
use Rattle.tv_journal.specs.declared.Entry.{Entry}
use Rattle.tv_journal.specs.declared.Entry.TheVariants as entry
use Rattle.tv_spec.specs.Setup.{Setup}
use Rattle.tv_spec.specs.Shows.{debug_bytes}
use Rattle.tv_spec.specs.State.{State}
use Rattle.tv_spec.specs.Step.{Move, made, ended}
use Rattle.tv_spec.proofs.Valid.{HasRun, run_from}
use Rattle.tv_spec.proofs.Whole.{AreInRam}
use Rattle.tv_model.specs.declared.fault.StepFault.{StepFault}
use Rattle.tv_model.specs.declared.fault.StepFault.TheVariants as step_fault
use Rattle.tv_model.specs.Monitor.{BurstsSo, EndsSo, IsMonitor, IsMonitorBurst, IsStep, StepsSo}
use Rattle.tv_model.specs.MonitorState.{MonitorState, setup_in, state_in}
use Rattle.tv_model.specs.Moves.{AreMade, IsMade, IsSame}

-- a monitor with the setup of another one, in a state that has it
kept_as : (old new : MonitorState) → (is : IsMonitor old) → setup_in new ≡ setup_in old → HasRun (setup_in old) is.bytes is.pages (state_in new) → IsMonitor new
kept_as old new is setup run = record {
  bytes = is.bytes;
  pages = is.pages;
  run = subst (λ (s : Setup). HasRun s is.bytes is.pages (state_in new)) (sym setup) run;
  within = subst (λ (s : Setup). AreInRam is.bytes s.devices) (sym setup) is.within;
  memory = is.memory;
  steps = let same = ap (λ (s : Setup). s.steps) setup in let below = is.steps in omega (arith, same, below);
  few = let same = ap (λ (s : Setup). s.harts) setup in let below = is.few in omega (arith, same, below);
}

moves_kept : (old new : MonitorState) (moves : List Move) → IsMonitor old → AreMade old new moves → IsMonitor new
moves_kept old new moves is m =
    kept_as old new is m.setup
    (subst (λ (s : State). HasRun (setup_in old) is.bytes is.pages s) (sym m.state) (run_from (setup_in old) is.bytes is.pages (state_in old) moves is.within m.legal is.run))

same_kept : (old new : MonitorState) → IsMonitor old → IsSame old new → IsMonitor new
same_kept old new is s = kept_as old new is s.setup (subst (λ (t : State). HasRun (setup_in old) is.bytes is.pages t) (sym s.state) is.run)

one_made : (old new : MonitorState) (move : Move) → IsMade old new move → AreMade old new (move ∷ [])
one_made old new move m = record { legal = (m.can, tt); setup = m.setup; state = m.state }

pub steps_kept : (old new : MonitorState) (e : Entry) (result : Result ⊤ StepFault) → IsMonitor old → StepsSo old new e result → IsMonitor new
steps_kept old new e (Ok done) is s = moves_kept old new (made e ∷ []) is (one_made old new (made e) s.step)
steps_kept old new e (Err step_fault.Illegal) is s = same_kept old new is s.same
steps_kept old new e (Err step_fault.Memory) is s = same_kept old new is s

pub bursts_kept : (old new : MonitorState) (hart most : ℕ) (result : Result ℕ StepFault) → IsMonitor old → BurstsSo old new hart most result → IsMonitor new
bursts_kept old new hart most (Ok count) is b = moves_kept old new (events_of hart count) is b.moves
bursts_kept old new hart most (Err step_fault.Illegal) is b = same_kept old new is b.same
bursts_kept old new hart most (Err step_fault.Memory) is b = same_kept old new is b

pub ends_kept : (old new : MonitorState) (cause : Why) (result : Bool) → IsMonitor old → EndsSo old new cause result → IsMonitor new
ends_kept old new cause true is e = moves_kept old new (ended cause ∷ []) is (one_made old new (ended cause) e.step)
ends_kept old new cause false is e = same_kept old new is e.same

-- a burst of one event is a step
pub one_step : (old new : MonitorState) (e : Entry) (hart count : ℕ) → e ≡ entry.Hart hart → IsMonitorBurst old new hart 1 count → IsStep old new (made e)
one_step old new e hart count is b =
    let one : count ≡ 1 = let some = b.some in let few = b.few in omega (arith, some, few) in
    let moves : AreMade old new (made (entry.Hart hart) ∷ []) = subst (λ (n : ℕ). AreMade old new (events_of hart n)) one b.moves in
    let console : new.console ≡ old.console ++ debug_bytes (setup_in old) (state_in old) (made (entry.Hart hart) ∷ []) =
    subst (λ (n : ℕ). new.console ≡ old.console ++ debug_bytes (setup_in old) (state_in old) (events_of hart n)) one b.console in
    subst (λ (x : Entry). IsStep old new (made x)) (sym is) (record {
      step = record { can = moves.legal.0; setup = moves.setup; state = moves.state };
      console = console ∙ ap (λ (bs : List ℕ). old.console ++ bs) (append-nil _);
    })
