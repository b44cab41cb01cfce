-- The code's twin: words read one after the other. It is proved to find exactly what `Gives` says.
use Rattle.std.specs.Prelude.{ℕ, ◌==◌, Bool, true, false, not, if◌then◌else◌, List, [], ◌∷◌, codes, Option, Some, None, option_map, option_and_then}
use Rattle.std.specs.Str.{bytes_eq}
use Rattle.tv_words.specs.declared.word.Setting.{Setting}
use Rattle.tv_words.specs.declared.word.Setting.TheVariants.{Steps, Journal}
use Rattle.tv_words.specs.declared.word.Word.{Word}
use Rattle.tv_words.specs.declared.word.Word.TheVariants as word
use Rattle.tv_words.specs.declared.arguments.Names.{Names}
use Rattle.tv_words.specs.declared.arguments.Names.TheVariants as names
use Rattle.tv_words.specs.declared.arguments.Next.{Next}
use Rattle.tv_words.specs.declared.arguments.Next.TheVariants as next
use Rattle.tv_words.specs.declared.arguments.Arguments.{Arguments}
use Rattle.tv_words.specs.Arguments.{Given}

-- what a word before `--` is: a name, `--` itself, `--flat`, an option whose value is the next word, an option with its
-- value, or an option that isn't known
pub data Kind : Type 0 where
  name : Kind
  ends : Kind
  flat : Kind
  setting : Setting → Kind
  set : Setting → List ℕ → Kind
  unknown : Kind

-- what the code takes a word for
abbrev pub kind_seen : Option Word → Kind
kind_seen None = unknown
kind_seen (Some word.Name) = name
kind_seen (Some word.End) = ends
kind_seen (Some word.Flat) = flat
kind_seen (Some (word.Setting which)) = setting which
kind_seen (Some (word.Set which value)) = set which value.now

-- the word without a prefix, if it has it
abbrev pub stripped : List ℕ → List ℕ → Option (List ℕ)
stripped [] text = Some text
stripped (p ∷ prefix) [] = None
stripped (p ∷ prefix) (c ∷ text) = if c == p then stripped prefix text else None

-- whether a word is no option
abbrev pub is_plain : List ℕ → Bool
is_plain [] = true
is_plain (first ∷ []) = true
is_plain (first ∷ _ ∷ _) = not (first == 45)

-- a word that is no whole option, by what it has after `--steps=` or `--journal=`
abbrev pub kind_of_set : List ℕ → Option (List ℕ) → Option (List ℕ) → Kind
kind_of_set text (Some value) _ = set Steps value
kind_of_set text None (Some value) = set Journal value
kind_of_set text None None = if is_plain text then name else unknown

abbrev pub kind_of : List ℕ → Kind
kind_of text =
    if bytes_eq text (codes "--") then ends
    else if bytes_eq text (codes "--flat") then flat
    else if bytes_eq text (codes "--steps") then setting Steps
    else if bytes_eq text (codes "--journal") then setting Journal
    else kind_of_set text (stripped (codes "--steps=") text) (stripped (codes "--journal=") text)

-- what the code has, its names as lists of bytes
abbrev pub names_seen : Names → List (List ℕ)
names_seen names.Nothing = []
names_seen (names.One first) = first.now ∷ []
names_seen (names.Two first second) = first.now ∷ second.now ∷ []

abbrev pub given_seen : Arguments → Given
given_seen a = record {
  names = names_seen a.names;
  steps = option_map (λ text. text.now) a.steps;
  journal = option_map (λ text. text.now) a.journal;
  flat = a.flat;
}

-- one more name, of two at most
abbrev pub one_more : List (List ℕ) → List ℕ → Option (List (List ℕ))
one_more [] text = Some (text ∷ [])
one_more (first ∷ []) text = Some (first ∷ text ∷ [])
one_more (_ ∷ _ ∷ _) text = None

-- a value for an option that has none yet
abbrev pub once : Option (List ℕ) → List ℕ → Option (Option (List ℕ))
once None text = Some (Some text)
once (Some _) text = None

-- what is given with one word more, if there is room for it
abbrev pub with_name : Given → List ℕ → Option Given
with_name g text = option_map (λ all. record g { names = all }) (one_more g.names text)

abbrev pub with_value : Setting → Given → List ℕ → Option Given
with_value Steps g text = option_map (λ value. record g { steps = value }) (once g.steps text)
with_value Journal g text = option_map (λ value. record g { journal = value }) (once g.journal text)

abbrev pub with_flat : Given → Option Given
with_flat g = if g.flat then None else Some (record g { flat = true })

-- what comes next, and what is given by then
abbrev pub expecting : Next → Option Given → Option (Next × Given)
expecting following = option_map (λ g. (following, g))

-- one word read
abbrev pub read_kind : Kind → Given → List ℕ → Option (Next × Given)
read_kind name g text = expecting next.Argument (with_name g text)
read_kind ends g text = Some (next.Name, g)
read_kind flat g text = expecting next.Argument (with_flat g)
read_kind (setting which) g text = Some (next.Value which, g)
read_kind (set which value) g text = expecting next.Argument (with_value which g value)
read_kind unknown g text = None

abbrev pub read : Next → Given → List ℕ → Option (Next × Given)
read next.Argument g text = read_kind (kind_of text) g text
read (next.Value which) g text = if is_plain text then expecting next.Argument (with_value which g text) else None
read next.Name g text = expecting next.Name (with_name g text)

-- what is given once all words are read; an option must not lack its value
abbrev pub finished : Next → Given → Option Given
finished next.Argument g = Some g
finished (next.Value which) g = None
finished next.Name g = Some g

-- all words read
unfoldable pub reading : Next → Given → List (List ℕ) → Option Given
reading following g [] = finished following g
reading following g (text ∷ texts) = option_and_then (λ (p : Next × Given). reading p.0 p.1 texts) (read following g text)

abbrev pub nothing_given : Given
nothing_given = record { names = []; steps = None; journal = None; flat = false }
