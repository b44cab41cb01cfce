-- The command lines: what each asks for, and the words that write it.
use Rattle.std.specs.Prelude.{◌≡◌, ◌≢◌, ℕ, ◌<◌, ◌≤◌, Bool, false, true, List, [], ◌∷◌, length, map, codes, String, string_bytes, Option, Some, None, option_map, IfSome}
use Rattle.std.specs.Str.Parse.{AllDigits, digits_value}
use Rattle.tv_base.specs.declared.limits.TheConstants.{HART_EVENTS, HART_EVENTS_DEFAULT}
use Rattle.tv_words.specs.declared.command.Command.{Command}
use Rattle.tv_words.specs.declared.command.Command.TheVariants as command
use Rattle.tv_words.specs.declared.command.Origin.{Origin}
use Rattle.tv_words.specs.declared.command.Origin.TheVariants as origin
use Rattle.tv_words.specs.Arguments.{Given, Gives}

-- the words as lists of bytes
abbrev pub texts : {A : Type 0} → List (String A) → List (List ℕ)
texts words = map string_bytes words

-- the machine that a command is given: the flat one with an image and a step limit, or that of a machine file
pub data AskedMachine : Type 0 where
  of_image : List ℕ → ℕ → AskedMachine
  of_file : List ℕ → AskedMachine

-- what a command line asks for: a run on one thread with perhaps a file for its journal, the replay of a journal, or the
-- check of a machine file
pub data Asked : Type 0 where
  solo : AskedMachine → Option (List ℕ) → Asked
  replay : AskedMachine → List ℕ → Asked
  check : List ℕ → Asked

-- the machine that a command is given
abbrev pub machine_of : Asked → AskedMachine
machine_of (solo machine journal) = machine
machine_of (replay machine journal) = machine
machine_of (check name) = of_file name

-- its step limit is one that a machine may have
abbrev pub HasSteps : AskedMachine → Type 0
HasSteps (of_image name steps) = (1 ≤ steps) × (steps ≤ HART_EVENTS)
HasSteps (of_file name) = Unit {0}

-- what a command is, its names as lists of bytes
abbrev pub machine_by : Origin → AskedMachine
machine_by (origin.Flat image steps) = of_image image.now steps
machine_by (origin.File name) = of_file name.now

abbrev pub asked_by : Command → Asked
asked_by (command.Solo machine journal) = solo (machine_by machine) (option_map (λ file. file.now) journal)
asked_by (command.Replay machine journal) = replay (machine_by machine) journal.now
asked_by (command.Check name) = check name.now

-- a text writes a number with 1 to 20 decimal digits
pub record IsNumber (text : List ℕ) (n : ℕ) : Type 0 where
  pub some : 0 < length text
  pub few : length text ≤ 20
  pub digits : AllDigits 10 text
  pub value : digits_value 10 text ≡ n

-- the step limit by the value of `--steps`, if that is given
abbrev pub IsLimit : Option (List ℕ) → ℕ → Type 0
IsLimit None steps = steps ≡ HART_EVENTS_DEFAULT
IsLimit (Some text) steps = IsNumber text steps × (1 ≤ steps) × (steps ≤ HART_EVENTS)

-- the arguments `IMAGE [--steps N] [--journal FILE]`
pub record IsFlat (given : Given) (image : List ℕ) (steps : ℕ) (journal : Option (List ℕ)) : Type 0 where
  pub names_are : given.names ≡ image ∷ []
  pub limit_is : IsLimit given.steps steps
  pub journal_is : given.journal ≡ journal
  pub flat_is : given.flat ≡ false
  pub image_named : image ≢ []
  pub journal_named : IfSome journal (λ file. file ≢ [])

-- the one name is that of a machine file, and no option but `--journal` is given
pub record IsMachineAlone (given : Given) (machine : List ℕ) : Type 0 where
  pub names_are : given.names ≡ machine ∷ []
  pub steps_is : given.steps ≡ None
  pub flat_is : given.flat ≡ false
  pub named : machine ≢ []

-- the arguments `MACHINE [--journal FILE]`
pub record IsSolo (given : Given) (machine : List ℕ) (journal : Option (List ℕ)) : Type 0 where
  pub machine_is : IsMachineAlone given machine
  pub journal_is : given.journal ≡ journal
  pub journal_named : IfSome journal (λ file. file ≢ [])

-- the arguments `MACHINE JOURNAL`, with `--flat` or without it
pub record IsReplay (given : Given) (flat : Bool) (machine journal : List ℕ) : Type 0 where
  pub names_are : given.names ≡ machine ∷ journal ∷ []
  pub steps_is : given.steps ≡ None
  pub journal_is : given.journal ≡ None
  pub flat_is : given.flat ≡ flat
  pub machine_named : machine ≢ []
  pub journal_named : journal ≢ []

-- a command's name with what its arguments give asks for this
abbrev pub Asks : List ℕ → Given → Asked → Type 0
Asks name given (solo (of_image image steps) journal) = (name ≡ codes "flat") × IsFlat given image steps journal
Asks name given (solo (of_file file) journal) = (name ≡ codes "solo") × IsSolo given file journal
Asks name given (replay (of_image image steps) journal) = (name ≡ codes "replay") × IsReplay given true image journal × (steps ≡ HART_EVENTS_DEFAULT)
Asks name given (replay (of_file file) journal) = (name ≡ codes "replay") × IsReplay given false file journal
Asks name given (check file) = (name ≡ codes "check") × IsSolo given file None

-- the words are a command's name and arguments that ask for this
pub record IsCommandLine (words : List (List ℕ)) (asked : Asked) : Type 0 where
  pub name : List ℕ
  pub rest : List (List ℕ)
  pub written : words ≡ name ∷ rest
  pub given : Given
  pub gives : Gives rest given
  pub asks : Asks name given asked
