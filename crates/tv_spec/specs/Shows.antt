-- What a run shows, as folds over its moves.
use Rattle.std.specs.Prelude.{ℕ, List, [], ◌∷◌, ◌++◌, Option, Some, None}
use Rattle.tv_base.specs.declared.Why.{Why}
use Rattle.tv_base.specs.declared.Why.TheVariants as why
use Rattle.tv_items.specs.declared.action.Heard.{Heard}
use Rattle.tv_items.specs.declared.action.Heard.TheVariants as heard
use Rattle.tv_journal.specs.declared.Entry.TheVariants as entry
use Rattle.tv_spec.specs.declared.Mode.{Mode}
use Rattle.tv_spec.specs.declared.Mode.TheVariants as mode
use Rattle.tv_spec.specs.declared.Shown.{Shown}
use Rattle.tv_spec.specs.declared.Shown.TheVariants as shown
use Rattle.tv_spec.specs.Setup.{Setup}
use Rattle.tv_spec.specs.State.{State}
use Rattle.tv_spec.specs.Step.{Move, made, ended, done, event_of, end_of_event}

-- the byte of an event at the debug port
abbrev pub byte_shown : Shown → List ℕ
byte_shown (shown.Byte byte) = byte ∷ []
byte_shown _ = []

abbrev pub bytes_of : State → Move → List ℕ
bytes_of s (made (entry.Hart hart)) = byte_shown (event_of s hart).2.shown
bytes_of s _ = []

-- the bytes stored to the debug port
abbrev pub debug_bytes : Setup → State → List Move → List ℕ
debug_bytes setup s [] = []
debug_bytes setup s (move ∷ moves) = bytes_of s move ++ debug_bytes setup (done setup s move) moves

-- the cause for which what a device hears of its action outside ends the run
abbrev pub end_heard : ℕ → Heard → Option Why
end_heard d (heard.Taken n) = Some (why.Lost d)
end_heard d _ = None

-- the cause for which a move ends a run that has not ended
abbrev pub end_of : Setup → State → Move → Option Why
end_of setup s (made (entry.Hart hart)) = end_of_event setup s hart
end_of setup s (made (entry.Did d heard)) = end_heard d heard
end_of setup s (made _) = None
end_of setup s (ended cause) = Some cause

abbrev pub or_else : Option Why → Option Why → Option Why
or_else None later = later
or_else (Some cause) later = Some cause

-- the first cause of ending; none where the run is open
abbrev pub cause_of_end : Setup → State → List Move → Option Why
cause_of_end setup s [] = None
cause_of_end setup s (move ∷ moves) = or_else (end_of setup s move) (cause_of_end setup (done setup s move) moves)

-- the cause for which a run in this mode ended, if it did
abbrev pub cause_in : Mode → Option Why
cause_in (mode.Ending cause) = Some cause
cause_in _ = None

-- the exit status of a run by its cause
abbrev pub exit_status : Why → ℕ
exit_status why.PowerOff = 0
exit_status why.Stopped = 0
exit_status (why.Failed code) = 1
exit_status (why.Lost device) = 5
exit_status why.DebugLost = 5
exit_status why.Steps = 6
exit_status why.Full = 7
exit_status why.ListenFailed = 10
exit_status why.CrewRefused = 11
