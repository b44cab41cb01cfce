-- Words read one after the other give what the arguments that they write give.
use Rattle.std.proofs.Common.{◌≡◌, ℕ, ◌≤◌, ◌++◌, Bool, true, false, cond, List, [], ◌∷◌, length, refl, sym, ◌∙◌, ap, subst, arith, codes, Option, Some, None, option_and_then, unwrap_or, append_assoc, append-nil}
use Rattle.std.specs.List.{AllByRecursion, flat_map}
use Rattle.tv_words.specs.declared.word.Setting.{Setting}
use Rattle.tv_words.specs.declared.arguments.Next.{Next}
use Rattle.tv_words.specs.declared.arguments.Next.TheVariants as next
use Rattle.tv_words.specs.Arguments.{Argument, plain, apart, joined, bare, option_word, words_of, ending, IsPlain, IsArgument, Given, Gives}
use Rattle.tv_words.specs.Reading.{Kind, name, ends, flat, setting, set, unknown, is_plain, kind_of, with_name, with_value, with_flat, expecting, read_kind, read, reading, nothing_given}
use Rattle.tv_words.proofs.Adding.{Adds, added, added_adds, adds_both, adds_rest, same_given, has_room, HasRoom}
use Rattle.tv_words.proofs.Words.{IsKind, kind_is, kind_of_name, kind_of_setting, kind_of_setting_set, plain_true, true_plain}

-- the words write arguments that add this
pub record GivesMore (words : List (List ℕ)) (old new : Given) : Type 0 where
  pub arguments : List Argument
  pub after : Option (List (List ℕ))
  pub written : words ≡ flat_map words_of arguments ++ ending after
  pub each : AllByRecursion IsArgument arguments
  pub adds : Adds arguments (unwrap_or after []) old new

-- the words are the value of an option, and then such arguments
pub record GivesValue (which : Setting) (words : List (List ℕ)) (old new : Given) : Type 0 where
  pub value : List ℕ
  pub rest : List (List ℕ)
  pub is : words ≡ value ∷ rest
  pub is_plain : IsPlain value
  pub first : Given
  pub first_is : with_value which old value ≡ Some first
  pub more : GivesMore rest first new

-- what the words give, by what the first is read as
abbrev pub GivesFrom : Next → List (List ℕ) → Given → Given → Type 0
GivesFrom next.Argument words old new = GivesMore words old new
GivesFrom (next.Value which) words old new = GivesValue which words old new
GivesFrom next.Name words old new = Adds [] words old new

argument_before : (argument : Argument) (words : List (List ℕ)) (g h k : Given) → IsArgument argument → added argument g ≡ Some h
    → GivesMore words h k → GivesMore (words_of argument ++ words) g k
argument_before argument words g h k is e more = record {
  arguments = argument ∷ more.arguments;
  after = more.after;
  written = ap (λ l. words_of argument ++ l) more.written ∙ sym (append_assoc (words_of argument) (flat_map words_of more.arguments) (ending more.after));
  each = (is, more.each);
  adds = adds_both argument more.arguments _ g h k (added_adds argument g h e) more.adds;
}

-- what was read last, with what the words after it give
onto : (n m : Next) (words : List (List ℕ)) (g h k : Given) → expecting n (Some g) ≡ Some (m, h) → GivesFrom m words h k → GivesFrom n words g k
onto n m words g h k e more =
    let same : ◌≡◌ {A = Next × Given} (n, g) (m, h) = cc in
    subst (λ (p : Next × Given). GivesFrom p.0 words p.1 k) (sym same) more

record Follows (n : Next) (o : Option Given) (words : List (List ℕ)) (k : Given) : Type 0 where
  given : Given
  is : o ≡ Some given
  more : GivesFrom n words given k

follows : (n m : Next) (o : Option Given) (words : List (List ℕ)) (h k : Given) → expecting n o ≡ Some (m, h) → GivesFrom m words h k → Follows n o words k
follows n m None words h k e more = absurd (cc)
follows n m (Some g) words h k e more = record { given = g; is = refl; more = onto n m words g h k e more }

ends_reads : (words : List (List ℕ)) (g k : Given) → Adds [] words g k → GivesMore (codes "--" ∷ words) g k
ends_reads words g k adds = record { arguments = []; after = Some words; written = refl; each = tt; adds = adds }

setting_reads : (which : Setting) (words : List (List ℕ)) (g k : Given) → GivesValue which words g k → GivesMore (option_word which ∷ words) g k
setting_reads which words g k value =
    rw value.is (argument_before (apart which value.value) value.rest g value.first k value.is_plain value.first_is value.more)

-- an argument read is one that is written
kind_reads : (kind : Kind) (text : List ℕ) (words : List (List ℕ)) (m : Next) (g h k : Given) → IsKind text kind
    → read_kind kind g text ≡ Some (m, h) → GivesFrom m words h k → GivesMore (text ∷ words) g k
kind_reads name text words m g h k is e more =
    let f : Follows next.Argument (with_name g text) words k = follows next.Argument m _ words h k e more in
    argument_before (plain text) words g f.given k is f.is f.more
kind_reads ends text words m g h k is e more = rw is (ends_reads words g k (onto next.Name m words g h k e more))
kind_reads flat text words m g h k is e more =
    let f : Follows next.Argument (with_flat g) words k = follows next.Argument m _ words h k e more in
    rw is (argument_before bare words g f.given k tt f.is f.more)
kind_reads (setting which) text words m g h k is e more = rw is (setting_reads which words g k (onto (next.Value which) m words g h k e more))
kind_reads (set which value) text words m g h k is e more =
    let f : Follows next.Argument (with_value which g value) words k = follows next.Argument m _ words h k e more in
    rw is (argument_before (joined which value) words g f.given k tt f.is f.more)
kind_reads unknown text words m g h k is e more = absurd (cc)

value_reads : (which : Setting) (text : List ℕ) (words : List (List ℕ)) (m : Next) (g h k : Given) (b : Bool) → is_plain text ≡ b
    → cond b (expecting next.Argument (with_value which g text)) None ≡ Some (m, h) → GivesFrom m words h k → GivesValue which (text ∷ words) g k
value_reads which text words m g h k true is e more =
    let f : Follows next.Argument (with_value which g text) words k = follows next.Argument m _ words h k e more in
    record { value = text; rest = words; is = refl; is_plain = plain_true text is; first = f.given; first_is = f.is; more = f.more }
value_reads which text words m g h k false is e more = absurd (cc)

name_reads : (text : List ℕ) (words : List (List ℕ)) (m : Next) (g h k : Given) → expecting next.Name (with_name g text) ≡ Some (m, h)
    → GivesFrom m words h k → Adds [] (text ∷ words) g k
name_reads text words m g h k e more =
    let f : Follows next.Name (with_name g text) words k = follows next.Name m _ words h k e more in
    let both : Adds (plain text ∷ []) words g k = adds_both (plain text) [] words g f.given k (added_adds (plain text) g f.given f.is) f.more in
    record { names_are = both.names_are; steps_are = both.steps_are; journal_is = both.journal_is; flat_is = both.flat_is }

read_gives : (n m : Next) (text : List ℕ) (words : List (List ℕ)) (g h k : Given) → read n g text ≡ Some (m, h)
    → GivesFrom m words h k → GivesFrom n (text ∷ words) g k
read_gives next.Argument m text words g h k e more = kind_reads (kind_of text) text words m g h k (kind_is text) e more
read_gives (next.Value which) m text words g h k e more = value_reads which text words m g h k (is_plain text) refl e more
read_gives next.Name m text words g h k e more = name_reads text words m g h k e more

nothing_more : (g : Given) → Adds [] [] g g
nothing_more g = record { names_are = append-nil g.names; steps_are = append-nil _; journal_is = append-nil _; flat_is = omega arith }

finished_gives : (n : Next) (g k : Given) → reading n g [] ≡ Some k → GivesFrom n [] g k
unfolding reading
finished_gives next.Argument g k e =
    let here : g ≡ k = cc in
    subst (λ (x : Given). GivesMore [] g x) here (record { arguments = []; after = None; written = refl; each = tt; adds = nothing_more g })
finished_gives (next.Value which) g k e = absurd (cc)
finished_gives next.Name g k e =
    let here : g ≡ k = cc in
    subst (λ (x : Given). Adds [] [] g x) here (nothing_more g)

onward : (text : List ℕ) (words : List (List ℕ)) (n : Next) (g k : Given) (o : Option (Next × Given)) → read n g text ≡ o
    → option_and_then (λ (p : Next × Given). reading p.0 p.1 words) o ≡ Some k
    → ((m : Next) (h : Given) → reading m h words ≡ Some k → GivesFrom m words h k) → GivesFrom n (text ∷ words) g k
onward text words n g k None is e rest = absurd (cc)
onward text words n g k (Some p) is e rest = read_gives n p.0 text words g p.1 k is (rest p.0 p.1 e)

-- what is read is written
pub reading_gives : (words : List (List ℕ)) (n : Next) (g k : Given) → reading n g words ≡ Some k → GivesFrom n words g k
unfolding reading
reading_gives [] n g k e = finished_gives n g k e
reading_gives (text ∷ words) n g k e = onward text words n g k (read n g text) refl e (λ m h rest. reading_gives words m h k rest)

-- an argument that is written is read
argument_read : (argument : Argument) (words : List (List ℕ)) (g h : Given) → IsArgument argument → added argument g ≡ Some h
    → reading next.Argument g (words_of argument ++ words) ≡ reading next.Argument h words
unfolding reading
argument_read (plain text) words g h is e = rw (kind_of_name text is, e) refl
argument_read (apart which value) words g h is e = rw (kind_of_setting which, true_plain value is, e) refl
argument_read (joined which value) words g h is e = rw (kind_of_setting_set which value, e) refl
argument_read bare words g h is e = rw e refl

names_read : (words : List (List ℕ)) (g k : Given) → Adds [] words g k → length k.names ≤ 2 → reading next.Name g words ≡ Some k
unfolding reading
names_read [] g k adds few = ap (λ (x : Given). Some x) (same_given g k adds)
names_read (text ∷ words) g k adds few =
    let all : Adds (plain text ∷ []) words g k =
    record { names_are = adds.names_are; steps_are = adds.steps_are; journal_is = adds.journal_is; flat_is = adds.flat_is } in
    let room : HasRoom (plain text) g = has_room (plain text) [] words g k all few in
    let rest : Adds [] words room.given k = adds_rest (plain text) [] words g room.given k (added_adds (plain text) g room.given room.is) all in
    rw room.is (names_read words room.given k rest few)

pub written_read : (arguments : List Argument) (after : Option (List (List ℕ))) (g k : Given) → AllByRecursion IsArgument arguments
    → Adds arguments (unwrap_or after []) g k → length k.names ≤ 2 → reading next.Argument g (flat_map words_of arguments ++ ending after) ≡ Some k
unfolding reading
written_read [] None g k each adds few = ap (λ (x : Given). Some x) (same_given g k adds)
written_read [] (Some words) g k each adds few = names_read words g k adds few
written_read (argument ∷ arguments) after g k each adds few =
    let room : HasRoom argument g = has_room argument arguments _ g k adds few in
    let rest : Adds arguments (unwrap_or after []) room.given k = adds_rest argument arguments _ g room.given k (added_adds argument g room.given room.is) adds in
    rw append_assoc (argument_read argument _ g room.given each.0 room.is ∙ written_read arguments after room.given k each.1 rest few)

-- words are read as what they give
pub read_is_given : (words : List (List ℕ)) (g : Given) → reading next.Argument nothing_given words ≡ Some g → Gives words g
read_is_given words g e =
    let more : GivesMore words nothing_given g = reading_gives words next.Argument nothing_given g e in
    record {
      arguments = more.arguments;
      after = more.after;
      written = more.written;
      each = more.each;
      names = more.adds.names_are;
      steps = more.adds.steps_are;
      journal = more.adds.journal_is;
      flat = omega (arith, more.adds.flat_is);
    }

pub given_is_read : (words : List (List ℕ)) (g : Given) → Gives words g → length g.names ≤ 2 → reading next.Argument nothing_given words ≡ Some g
given_is_read words g gives few =
    let adds : Adds gives.arguments (unwrap_or gives.after []) nothing_given g =
    record { names_are = gives.names; steps_are = gives.steps; journal_is = gives.journal; flat_is = omega (arith, gives.flat) } in
    rw gives.written (written_read gives.arguments gives.after nothing_given g gives.each adds few)
