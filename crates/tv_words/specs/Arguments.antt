-- The arguments of a command: the words that write each of them, and what they give.
use Rattle.std.specs.Prelude.{◌≡◌, ℕ, ◌+◌, ◌++◌, Bool, if◌then◌else◌, List, [], ◌∷◌, codes, Option, Some, None, option_to_list, unwrap_or}
use Rattle.std.specs.List.{AllByRecursion, flat_map}
use Rattle.tv_words.specs.declared.word.Setting.{Setting}
use Rattle.tv_words.specs.declared.word.Setting.TheVariants.{Steps, Journal}

-- an argument: a name; an option and its value, as two words or as one; or the option `--flat`, which has no value
pub data Argument : Type 0 where
  plain : List ℕ → Argument
  apart : Setting → List ℕ → Argument
  joined : Setting → List ℕ → Argument
  bare : Argument

-- the word of an option that has a value
abbrev pub option_word : Setting → List ℕ
option_word Steps = codes "--steps"
option_word Journal = codes "--journal"

-- the words that write an argument
abbrev pub words_of : Argument → List (List ℕ)
words_of (plain name) = name ∷ []
words_of (apart setting value) = option_word setting ∷ value ∷ []
words_of (joined setting value) = (option_word setting ++ (codes "=" ++ value)) ∷ []
words_of bare = codes "--flat" ∷ []

-- `--` and the words after it, if it stands
abbrev pub ending : Option (List (List ℕ)) → List (List ℕ)
ending None = []
ending (Some names) = codes "--" ∷ names

-- a word that is no option: it begins with `-` only where it is `-` alone
abbrev pub IsPlain : List ℕ → Type 0
IsPlain [] = Unit {0}
IsPlain (first ∷ rest) = first ≡ 45 → rest ≡ []

-- a name is no option, and neither is a value that is a word of its own; after `=` a value is any text
abbrev pub IsArgument : Argument → Type 0
IsArgument (plain name) = IsPlain name
IsArgument (apart setting value) = IsPlain value
IsArgument (joined setting value) = Unit {0}
IsArgument bare = Unit {0}

-- the name that an argument gives, if it is one
abbrev pub name_in : Argument → List (List ℕ)
name_in (plain name) = name ∷ []
name_in _ = []

-- the value that an argument gives to an option, if it does
abbrev pub value_in : Setting → Argument → List (List ℕ)
value_in Steps (apart Steps value) = value ∷ []
value_in Steps (joined Steps value) = value ∷ []
value_in Journal (apart Journal value) = value ∷ []
value_in Journal (joined Journal value) = value ∷ []
value_in _ _ = []

-- how often `--flat` is given
abbrev pub flats_in : List Argument → ℕ
flats_in [] = 0
flats_in (bare ∷ arguments) = flats_in arguments + 1
flats_in (_ ∷ arguments) = flats_in arguments

-- what arguments give: the names in order, the values of options, and whether `--flat` is there
pub record Given : Type 0 where
  pub names : List (List ℕ)
  pub steps : Option (List ℕ)
  pub journal : Option (List ℕ)
  pub flat : Bool

-- the words write arguments that give this, each option at most once; each word after `--` is a name
pub record Gives (words : List (List ℕ)) (given : Given) : Type 0 where
  pub arguments : List Argument
  pub after : Option (List (List ℕ))
  pub written : words ≡ flat_map words_of arguments ++ ending after
  pub each : AllByRecursion IsArgument arguments
  pub names : flat_map name_in arguments ++ unwrap_or after [] ≡ given.names
  pub steps : flat_map (value_in Steps) arguments ≡ option_to_list given.steps
  pub journal : flat_map (value_in Journal) arguments ≡ option_to_list given.journal
  pub flat : flats_in arguments ≡ (if given.flat then 1 else 0)
