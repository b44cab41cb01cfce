-- The status of each end, and the line that goes to the error output with it.
use Rattle.std.specs.Prelude.{◌≡◌, ◌⊎◌, ◌||◌, ◌≤◌, not, if◌then◌else◌, ℕ, ◌++◌, List, [], ◌∷◌, length, Option, Some, None, codes, decimal}
use Rattle.std.specs.Option.{option_map}
use Rattle.tv_base.specs.declared.limits.TheConstants.{PIECE_BYTES}
use Rattle.tv_out.specs.Calls.{RoomScript, after_call}
use Rattle.tv_out.specs.Faults.{Rose}
use Rattle.tv_out.specs.Told.{ToldSink, appended}
use Rattle.tv_base.specs.declared.Why.{Why}
use Rattle.tv_base.specs.declared.Why.TheVariants as why
use Rattle.tv_journal.specs.Entries.{record_count}
use Rattle.tv_spec.specs.Shows.{exit_status}
use Rattle.tv_runner.specs.Runs.{cause_by}
use Rattle.tv_top.specs.declared.run.Run.{Run}
use Rattle.tv_top.specs.Refusals.{line}

-- the exit status of a run; 5 where a part of its bytes, or of its journal's file, was not put
abbrev pub run_status : Run → ℕ
run_status run = if run.ran.lost || not run.saved then 5 else exit_status (cause_by run.ran.stop)

-- the line of a run by the cause of its end, with its limit of events and the number of its records; one that was switched
-- off or stopped has none
abbrev pub end_line : ℕ → ℕ → Why → List ℕ
end_line steps records why.PowerOff = []
end_line steps records why.Stopped = []
end_line steps records (why.Failed code) = line (codes "guest failed with code " ++ decimal code)
end_line steps records (why.Lost device) = line (codes "cannot write")
end_line steps records why.DebugLost = line (codes "cannot write")
end_line steps records why.Steps = line (codes "step limit " ++ decimal steps)
end_line steps records why.Full = line (codes "journal full after " ++ (decimal records ++ codes " records"))
end_line steps records why.ListenFailed = line (codes "cannot listen")
end_line steps records why.CrewRefused = line (codes "cannot start workers")

abbrev pub run_line : Run → List ℕ
run_line run =
    if run.ran.lost || not run.saved then line (codes "cannot write")
    else end_line run.steps (record_count run.ran.journal.entries) (cause_by run.ran.stop)

-- the line that the output gets for a legal run; one that goes on has no status
abbrev pub status_text : Option ℕ → List ℕ
status_text None = codes "open"
status_text (Some status) = decimal status

abbrev pub legal_line : ℕ → ℕ → Option ℕ → List ℕ
legal_line records events status =
    codes "legal: " ++ (decimal records ++ (codes " records, " ++ (decimal events ++ (codes " events, status " ++ (status_text status ++ codes "\n")))))

-- the line of words that are no command line
abbrev pub bad_line : List ℕ
bad_line = line (codes "bad command line")

-- the script of a sink after a line that went out by one put, or by none where it is empty
abbrev pub after_line : List ℕ → Option RoomScript → Option RoomScript
after_line [] script = script
after_line (_ ∷ _) script = option_map after_call script

-- bytes went to a sink; a part of them is missing only where the sink failed
pub record HasGone (bytes : List ℕ) (old new : ToldSink) : Type 0 where
  pub front : List ℕ
  pub rest : List ℕ
  pub parts : bytes ≡ front ++ rest
  pub told : new.bytes ≡ appended old.bytes front
  pub whole : (rest ≡ []) ⊎ Rose old.faults new.faults

-- a line went to a sink; one that is no longer than a piece went by one put
pub record IsSaid (text : List ℕ) (old new : ToldSink) : Type 0 where
  pub gone : HasGone text old new
  pub once : length text ≤ PIECE_BYTES → new.script ≡ after_line text old.script
