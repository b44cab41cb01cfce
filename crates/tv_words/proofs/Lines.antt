-- What is read against what is a command line.
use Rattle.std.proofs.Common.{◌≡◌, ℕ, ◌≤◌, if◌then◌else◌, Bool, true, false, codes, List, [], ◌∷◌, length, get_or, drop, take, ◌-◌, String, string_bytes, refl, sym, ◌∙◌, ap, subst, arith, Option, Some, None, IfSome, IfNone, take_all}
use Rattle.std.specs.declared.alloc.Global.{Global}
use Rattle.std.specs.Str.{bytes_eq}
use Rattle.std.specs.Str.Parse.{digits_value}
use Rattle.tv_base.specs.declared.limits.TheConstants.{HART_EVENTS, HART_EVENTS_DEFAULT}
use Rattle.tv_words.specs.declared.arguments.Next.TheVariants as next
use Rattle.tv_words.specs.declared.command.Command.{Command}
use Rattle.tv_words.specs.Arguments.{Given}
use Rattle.tv_words.specs.CommandLine.{texts, Asked, asked_by, AskedMachine, solo, replay, check, of_image, of_file, Asks, HasSteps, machine_of, IsLimit, IsCommandLine}
use Rattle.tv_words.specs.Reading.{reading, nothing_given}
use Rattle.tv_words.proofs.Readings.{read_is_given, given_is_read}

-- the words that follow a command's name give at most two names
two_names : (name : List ℕ) (g : Given) (asked : Asked) → Asks name g asked → length g.names ≤ 2
two_names name g (solo (of_image image steps) journal) asks = omega (arith, ap length asks.1.names_are)
two_names name g (solo (of_file file) journal) asks = omega (arith, ap length asks.1.machine_is.names_are)
two_names name g (replay (of_image image steps) journal) asks = omega (arith, ap length asks.1.names_are)
two_names name g (replay (of_file file) journal) asks = omega (arith, ap length asks.1.names_are)
two_names name g (check file) asks = omega (arith, ap length asks.1.machine_is.names_are)

-- the arguments of a command line are what is read
pub line_read : (words : List (List ℕ)) (asked : Asked) (name : List ℕ) (rest : List (List ℕ)) → words ≡ name ∷ rest → (line : IsCommandLine words asked)
    → (name ≡ line.name) × (reading next.Argument nothing_given rest ≡ Some line.given)
line_read words asked name rest e line =
    let same : name ∷ rest ≡ line.name ∷ line.rest = sym e ∙ line.written in
    let named : name ≡ line.name = cc in
    let others : rest ≡ line.rest = cc in
    (named, rw others (given_is_read line.rest line.given line.gives (two_names line.name line.given asked line.asks)))

-- a name and what is read after it
pub read_line : (words : List (List ℕ)) (name : List ℕ) (rest : List (List ℕ)) (g : Given) (asked : Asked) → words ≡ name ∷ rest
    → reading next.Argument nothing_given rest ≡ Some g → Asks name g asked → IsCommandLine words asked
read_line words name rest g asked e is asks =
    record { name = name; rest = rest; written = e; given = g; gives = read_is_given rest g is; asks = asks }

pub no_line : (words : List (List ℕ)) (name : List ℕ) (rest : List (List ℕ)) (g : Given) → words ≡ name ∷ rest
    → reading next.Argument nothing_given rest ≡ Some g → ((asked : Asked) → ¬ Asks name g asked) → (asked : Asked) → ¬ IsCommandLine words asked
no_line words name rest g e is none asked line =
    let read : (name ≡ line.name) × (reading next.Argument nothing_given rest ≡ Some line.given) = line_read words asked name rest e line in
    let given : Some g ≡ Some line.given = sym is ∙ read.1 in
    let same : g ≡ line.given = cc in
    none asked (subst (λ (x : Given). Asks name x asked) (sym same) (subst (λ n. Asks n line.given asked) (sym read.0) line.asks))

pub no_arguments : (words : List (List ℕ)) (name : List ℕ) (rest : List (List ℕ)) → words ≡ name ∷ rest
    → None ≡ reading next.Argument nothing_given rest → (asked : Asked) → ¬ IsCommandLine words asked
no_arguments words name rest e is asked line =
    let read : (name ≡ line.name) × (reading next.Argument nothing_given rest ≡ Some line.given) = line_read words asked name rest e line in
    let no : None ≡ Some line.given = is ∙ read.1 in
    cc

-- the command that is found after them
pub finds : (words : List (List ℕ)) (name : List ℕ) (rest : List (List ℕ)) (g : Given) (r : Option Command) → words ≡ name ∷ rest
    → Some g ≡ reading next.Argument nothing_given rest → IfSome r (λ command. Asks name g (asked_by command))
    → IfSome r (λ command. IsCommandLine words (asked_by command))
finds words name rest g None e is found = tt
finds words name rest g (Some command) e is found = read_line words name rest g (asked_by command) e (sym is) found

pub finds_none : (words : List (List ℕ)) (name : List ℕ) (rest : List (List ℕ)) (g : Given) (r : Option Command) → words ≡ name ∷ rest
    → Some g ≡ reading next.Argument nothing_given rest → IfNone r ((asked : Asked) → ¬ Asks name g asked)
    → IfNone r ((asked : Asked) → ¬ IsCommandLine words asked)
finds_none words name rest g None e is none = no_line words name rest g e (sym is) none
finds_none words name rest g (Some command) e is none = tt

-- the step limit that is asked for
limit_bounded : (given : Option (List ℕ)) (steps : ℕ) → IsLimit given steps → (1 ≤ steps) × (steps ≤ HART_EVENTS)
limit_bounded None steps is = (omega arith, omega arith)
limit_bounded (Some text) steps is = (is.1, is.2)

asked_bounded : (name : List ℕ) (g : Given) (asked : Asked) → Asks name g asked → HasSteps (machine_of asked)
asked_bounded name g (solo (of_image image steps) journal) asks = limit_bounded g.steps steps asks.1.limit_is
asked_bounded name g (solo (of_file file) journal) asks = tt
asked_bounded name g (replay (of_image image steps) journal) asks = (omega arith, omega arith)
asked_bounded name g (replay (of_file file) journal) asks = tt
asked_bounded name g (check file) asks = tt

pub found_bounded : (name : List ℕ) (g : Given) (r : Option Command) → IfSome r (λ command. Asks name g (asked_by command))
    → IfSome r (λ command. HasSteps (machine_of (asked_by command)))
found_bounded name g None found = tt
found_bounded name g (Some command) found = asked_bounded name g (asked_by command) found

-- the first word of a slice and the others
pub first_word : (words : List (String Global)) (first : String Global) (text : List ℕ) → 1 ≤ length words → first ≡ get_or words 0 first
    → text ≡ string_bytes first → texts words ≡ text ∷ texts (take (length words - 1) (drop 1 words))
first_word [] first text low is is_text = absurd (omega arith)
first_word (word ∷ words) first text low is is_text =
    let all : take (length (word ∷ words) - 1) words ≡ words = take_all _ words (omega arith) in
    rw (is_text, is, all) refl

-- the step limit that is given, and the first and the second name
abbrev limit_of : Option (List ℕ) → ℕ
limit_of None = HART_EVENTS_DEFAULT
limit_of (Some text) = digits_value 10 text

abbrev first_of : List (List ℕ) → List ℕ
first_of [] = []
first_of (name ∷ names) = name

abbrev second_of : List (List ℕ) → List ℕ
second_of [] = []
second_of (name ∷ names) = first_of names

-- the command that a name and what follows it can ask for
abbrev flat_or_file : Given → Bool → AskedMachine
flat_or_file g true = of_image (first_of g.names) (limit_of g.steps)
flat_or_file g false = of_file (first_of g.names)

abbrev only_asked : List ℕ → Given → Asked
only_asked name g =
    if bytes_eq name (codes "flat") then solo (flat_or_file g true) g.journal
    else if bytes_eq name (codes "solo") then solo (flat_or_file g false) g.journal
    else if bytes_eq name (codes "replay") then replay (flat_or_file g g.flat) (second_of g.names)
    else check (first_of g.names)

only_limit : (given : Option (List ℕ)) (steps : ℕ) → IsLimit given steps → steps ≡ limit_of given
only_limit None steps is = is
only_limit (Some text) steps is = sym is.0.value

is_only : (name : List ℕ) (g : Given) (asked : Asked) → Asks name g asked → asked ≡ only_asked name g
is_only name g (solo (of_image image steps) journal) asks =
    rw (asks.0, asks.1.names_are, asks.1.journal_is, only_limit g.steps steps asks.1.limit_is) refl
is_only name g (solo (of_file file) journal) asks = rw (asks.0, asks.1.machine_is.names_are, asks.1.journal_is) refl
is_only name g (replay (of_image image steps) journal) asks =
    rw (asks.0, asks.1.names_are, asks.1.flat_is, asks.1.steps_is, asks.2) refl
is_only name g (replay (of_file file) journal) asks = rw (asks.0, asks.1.names_are, asks.1.flat_is) refl
is_only name g (check file) asks = rw (asks.0, asks.1.machine_is.names_are) refl

-- words ask for one command at most
pub one_asked : (words : List (List ℕ)) (one other : Asked) → IsCommandLine words one → IsCommandLine words other → one ≡ other
one_asked words one other line line' =
    let read : (line.name ≡ line'.name) × (reading next.Argument nothing_given line.rest ≡ Some line'.given) =
    line_read words other line.name line.rest line.written line' in
    let again : reading next.Argument nothing_given line.rest ≡ Some line.given = (line_read words one line.name line.rest line.written line).1 in
    let given : Some line.given ≡ Some line'.given = sym again ∙ read.1 in
    let same : line.given ≡ line'.given = cc in
    is_only line.name line.given one line.asks
    ∙ ap (λ (n : List ℕ). only_asked n line.given) read.0
    ∙ ap (λ (g : Given). only_asked line'.name g) same
    ∙ sym (is_only line'.name line'.given other line'.asks)
