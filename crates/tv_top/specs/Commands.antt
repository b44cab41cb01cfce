-- What each command does.
use Rattle.std.specs.Prelude.{ℕ, List, Option, codes}
use Rattle.tv_machine.specs.declared.machine.Machine.{Machine}
use Rattle.tv_top.specs.declared.run.Run.{Run}
use Rattle.tv_top.specs.Stages.{Stage, Still, Sides, OnStore, OnOut, ◌>>=◌}
use Rattle.tv_top.specs.Steps.{TakesMachine, LoadsImage, LoadsJournal, IsJudged, Creates, Runs, Puts}
use Rattle.tv_words.specs.CommandLine.{Asked, solo, replay, check, AskedMachine, of_image, of_file, machine_of}

-- the name of the image's file
abbrev pub image_name : AskedMachine → Machine → List ℕ
image_name (of_image name steps) machine = name
image_name (of_file name) machine = machine.image

-- a run on one thread
abbrev pub DoesSolo : Machine → List ℕ → Option (List ℕ) → Stage Sides (Option Run)
DoesSolo machine name file = do
  image ← OnStore (LoadsImage name machine.ram)
  created ← OnStore (Creates file)
  OnOut (Runs machine image created)

-- a replay
abbrev pub DoesReplay : Machine → List ℕ → List ℕ → Stage Sides (Option Run)
DoesReplay machine name file = do
  image ← OnStore (LoadsImage name machine.ram)
  journal ← OnStore (LoadsJournal file)
  text ← Still (IsJudged machine image journal)
  OnOut (Puts text)

-- a check
abbrev pub DoesCheck : Stage Sides (Option Run)
DoesCheck = OnOut (Puts (codes "ok\n"))

-- what a command does with its machine
abbrev pub Does : Asked → Machine → Stage Sides (Option Run)
Does (solo origin file) machine = DoesSolo machine (image_name origin machine) file
Does (replay origin file) machine = DoesReplay machine (image_name origin machine) file
Does (check name) machine = DoesCheck

-- what a command does: it leaves a run, or none
abbrev pub Serves : Asked → Stage Sides (Option Run)
Serves asked = do
  machine ← OnStore (TakesMachine (machine_of asked))
  Does asked machine
