-- What the program answers to its words, over what lies outside it before and after.
use Rattle.std.specs.Prelude.{◌≡◌, ◌⊎◌, ℕ, List, [], Option, Some, None, Result, Ok, Err}
use Rattle.tv_out.specs.Told.{ToldStore, ToldSink, ToldEntropy}
use Rattle.tv_top.specs.declared.Ended.{Ended}
use Rattle.tv_top.specs.declared.run.Run.{Run}
use Rattle.tv_top.specs.Commands.{Serves}
use Rattle.tv_top.specs.Refusals.{Refused, refused_status, refused_line}
use Rattle.tv_top.specs.Stages.{Sides, sides}
use Rattle.tv_top.specs.Texts.{IsSaid, run_status, run_line, bad_line}
use Rattle.tv_words.specs.CommandLine.{Asked, IsCommandLine}

-- what lies outside, as far as it tells of itself
pub record ToldOutside : Type 0 where
  pub store : ToldStore
  pub out : ToldSink
  pub err : ToldSink
  pub random : ToldEntropy

abbrev pub told_by : ToldStore → ToldSink → ToldSink → ToldEntropy → ToldOutside
told_by store out err random = record { store = store; out = out; err = err; random = random }

abbrev pub sides_of : ToldOutside → Sides
sides_of outside = sides outside.store outside.out

-- how a command ends that leaves no run
abbrev pub ended_with : ℕ → Ended
ended_with status = record { status = status; outer = None; journal = None }

-- how a command ends: a run leaves its journal, with the outer end that this has
abbrev pub ended_by : Result (Option Run) Refused → Ended
ended_by (Ok (Some run)) = record { status = run_status run; outer = run.ran.journal.outer; journal = Some run.ran.journal }
ended_by (Ok None) = ended_with 0
ended_by (Err why) = ended_with (refused_status why)

-- the line that goes with it
abbrev pub line_by : Result (Option Run) Refused → List ℕ
line_by (Ok (Some run)) = run_line run
line_by (Ok None) = []
line_by (Err why) = refused_line why

-- a command was served with some answer
pub record HasAnswer (asked : Asked) (before after : ToldOutside) (ended : Ended) : Type 0 where
  pub answer : Result (Option Run) Refused
  pub served : Serves asked (sides_of before) (sides_of after) answer
  pub ended_is : ended ≡ ended_by answer
  pub said : IsSaid (line_by answer) before.err after.err

-- the words are a command line, and its command was served
pub record IsServed (words : List (List ℕ)) (before after : ToldOutside) (ended : Ended) : Type 0 where
  pub asked : Asked
  pub is_line : IsCommandLine words asked
  pub serves : HasAnswer asked before after ended

-- the words are no command line: nothing was read or put but the line that says so
pub record IsBadLine (words : List (List ℕ)) (before after : ToldOutside) (ended : Ended) : Type 0 where
  pub no_line : (asked : Asked) → ¬ IsCommandLine words asked
  pub ended_is : ended ≡ ended_with 2
  pub store : after.store ≡ before.store
  pub out : after.out ≡ before.out
  pub said : IsSaid bad_line before.err after.err

-- the program's answer: nothing random is taken, and the words are served or refused
pub record Answers (words : List (List ℕ)) (before after : ToldOutside) (ended : Ended) : Type 0 where
  pub random : after.random ≡ before.random
  pub served : IsServed words before after ended ⊎ IsBadLine words before after ended
