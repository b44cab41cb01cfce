-- The exit statuses of runs.
use Rattle.std.proofs.Common.{◌≡◌, ◌≢◌, ◌||◌, if◌then◌else◌, ℕ, ◌<◌, ◌^◌, not, Bool, true, false, Option, IfSome, arith, subst, sym}
use Rattle.tv_base.specs.declared.Why.{Why}
use Rattle.tv_base.specs.declared.Why.TheVariants as why
use Rattle.tv_spec.specs.declared.Mode.{Mode}
use Rattle.tv_spec.specs.declared.Mode.TheVariants as mode
use Rattle.tv_spec.specs.Shows.{exit_status}
use Rattle.tv_runner.specs.Runs.{cause_by}
use Rattle.tv_model.specs.Monitor.{status_of}
use Rattle.tv_top.specs.declared.run.Run.{Run}
use Rattle.tv_top.specs.Texts.{run_status}

-- an exit status is a byte
exit-small : (cause : Why) → exit_status cause < 2 ^ 8
exit-small why.PowerOff = omega arith
exit-small why.Stopped = omega arith
exit-small (why.Failed code) = omega arith
exit-small (why.Lost device) = omega arith
exit-small why.DebugLost = omega arith
exit-small why.Steps = omega arith
exit-small why.Full = omega arith
exit-small why.ListenFailed = omega arith
exit-small why.CrewRefused = omega arith

small : (m : Mode) → IfSome (status_of m) (λ s. s < 2 ^ 8)
small mode.Running = tt
small (mode.Ending cause) = exit-small cause

pub status-small : (m : Mode) (status : Option ℕ) → status ≡ status_of m → IfSome status (λ s. s < 2 ^ 8)
status-small m status is = subst (λ (s : Option ℕ). IfSome s (λ n. n < 2 ^ 8)) (sym is) (small m)

-- a run ends with 9 never
exit-not-9 : (cause : Why) → exit_status cause ≢ 9
exit-not-9 why.PowerOff is = omega arith
exit-not-9 why.Stopped is = omega arith
exit-not-9 (why.Failed code) is = omega arith
exit-not-9 (why.Lost device) is = omega arith
exit-not-9 why.DebugLost is = omega arith
exit-not-9 why.Steps is = omega arith
exit-not-9 why.Full is = omega arith
exit-not-9 why.ListenFailed is = omega arith
exit-not-9 why.CrewRefused is = omega arith

either-not-9 : (lost : Bool) (other : ℕ) → other ≢ 9 → (if lost then 5 else other) ≢ 9
either-not-9 true other not_9 is = omega arith
either-not-9 false other not_9 is = not_9 is

pub run-not-9 : (run : Run) → run_status run ≢ 9
run-not-9 run = either-not-9 (run.ran.lost || not run.saved) (exit_status (cause_by run.ran.stop)) (exit-not-9 (cause_by run.ran.stop))
