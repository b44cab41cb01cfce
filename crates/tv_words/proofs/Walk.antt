-- The loop over the words.
use Rattle.std.proofs.Common.{◌≡◌, ℕ, ◌+◌, ◌<◌, ◌≤◌, List, [], ◌∷◌, length, get_or, drop, map, String, string_bytes, refl, sym, ◌∙◌, ap, arith, add-one, drop-cons, Some, None}
use Rattle.std.proofs.lemmas.List.{drop-map}
use Rattle.std.proofs.lemmas.Grind.{common_steps}
use Rattle.std.specs.declared.alloc.Global.{Global}
use Rattle.tv_words.specs.declared.arguments.Next.{Next}
use Rattle.tv_words.specs.declared.arguments.Next.TheVariants as next
use Rattle.tv_words.specs.Arguments.{Given}
use Rattle.tv_words.specs.CommandLine.{texts}
use Rattle.tv_words.specs.Reading.{read, reading, finished, nothing_given}

-- the text of a word, and those after it
pub texts_at : (words : List (String Global)) (i : ℕ) (word : String Global) → i < length words → word ≡ get_or words i word
    → drop i (texts words) ≡ string_bytes word ∷ drop (i + 1) (texts words)
texts_at words i word low is =
    let here : drop i words ≡ word ∷ drop (i + 1) words = drop-cons words i word low ∙ rw (← is, add-one) refl in
    drop-map string_bytes i words ∙ ap (map string_bytes) here ∙ ap (λ rest. string_bytes word ∷ rest) (sym (drop-map string_bytes (i + 1) words))

pub texts_end : (words : List (String Global)) (i : ℕ) → length words ≤ i → drop i (texts words) ≡ []
texts_end words i high =
    let none : drop i words ≡ [] = grind (arith, common_steps) in
    drop-map string_bytes i words ∙ ap (map string_bytes) none

-- the words up to i are read
pub record IsRead (words : List (String Global)) (i : ℕ) (follows : Next) (g : Given) : Type 0 where
  pub same : reading next.Argument nothing_given (texts words) ≡ reading follows g (drop i (texts words))

pub goes_on : (words : List (String Global)) (i : ℕ) (word : String Global) (n m : Next) (g h : Given)
    → IsRead words i n g → i < length words → word ≡ get_or words i word → Some (m, h) ≡ read n g (string_bytes word)
    → IsRead words (i + 1) m h
unfolding reading
goes_on words i word n m g h before low is e = record { same = before.same ∙ rw (texts_at words i word low is, ← e) refl }

pub stops : (words : List (String Global)) (i : ℕ) (word : String Global) (n : Next) (g : Given)
    → IsRead words i n g → i < length words → word ≡ get_or words i word → None ≡ read n g (string_bytes word)
    → None ≡ reading next.Argument nothing_given (texts words)
unfolding reading
stops words i word n g before low is e = sym (before.same ∙ rw (texts_at words i word low is, ← e) refl)

pub ends_so : (words : List (String Global)) (i : ℕ) (n : Next) (g : Given)
    → IsRead words i n g → length words ≤ i → finished n g ≡ reading next.Argument nothing_given (texts words)
unfolding reading
ends_so words i n g before high = sym (before.same ∙ rw (texts_end words i high) refl)
