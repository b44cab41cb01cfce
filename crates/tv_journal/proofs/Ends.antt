-- How the reading of bytes ends: behind a file, at a byte that no file goes on with, or before the end of a file.
use Rattle.std.proofs.Common.{◌≡◌, ◌≢◌, ℕ, ◌+◌, ◌<◌, ◌≤◌, List, [], ◌∷◌, ◌++◌, Option, Some, None, length, get_or, take, drop, refl, ap, sym, ◌∙◌, subst, append-nil, arith, inl, inr}
use Rattle.std.proofs.lemmas.Bool.{cases_lt}
use Rattle.std.proofs.lemmas.Option.{none-some}
use Rattle.std.proofs.lemmas.List.{take_all, take_more, take-take, take-append-drop}
use Rattle.tv_base.specs.declared.Why.{Why}
use Rattle.tv_journal.specs.declared.Entry.{Entry}
use Rattle.tv_journal.specs.declared.reader.Spot.TheVariants as spot
use Rattle.tv_journal.specs.Entries.{entries_of}
use Rattle.tv_journal.specs.Grammar.{Lines, AreLines, BeginsJournal, IsLongestFront, SpellsJournal, file_bytes, outer_of}
use Rattle.tv_journal.specs.Reading.{Read, HasRead, first_read, read_byte, read_next, read_all}
use Rattle.tv_journal.proofs.Files.{read-file, read_all-append, behind}
use Rattle.tv_journal.proofs.Fronts.{follows-more, follows-first}
use Rattle.tv_journal.proofs.Goes.{begins, is-file}

-- a byte more
pub read-push : (r : Read) (bytes : List ℕ) (b : ℕ) → read_all (Some first_read) bytes ≡ Some r → read_all (Some first_read) (bytes ++ b ∷ []) ≡ read_byte r b
unfolding read_all
read-push r bytes b is = read_all-append (Some first_read) bytes (b ∷ []) ∙ ap (λ (o : Option Read). read_next o b) is

pub has-read-more : (r s : Read) (bytes : List ℕ) (b : ℕ) → HasRead r bytes → b < 256 → read_byte r b ≡ Some s → HasRead s (bytes ++ b ∷ [])
has-read-more r s bytes b has fits is = record { reads = read-push r bytes b has.reads ∙ is; follows = follows-more r s b bytes has.follows fits is }

pub has-read-first : HasRead first_read []
unfolding read_all
has-read-first = record { reads = refl; follows = follows-first }

pub read-none : (ys : List ℕ) → read_all None ys ≡ None
unfolding read_all
read-none [] = refl
read-none (y ∷ ys) = read-none ys

-- what begins a file is read
pub begun-is-read : (bytes : List ℕ) → BeginsJournal bytes → read_all (Some first_read) bytes ≡ None → ⊥
begun-is-read bytes begun none =
    none-some (behind begun.lines.records begun.lines.end)
    (sym (read-none begun.rest) ∙ ap (λ (o : Option Read). read_all o begun.rest) (sym none) ∙ sym (read_all-append (Some first_read) bytes begun.rest)
    ∙ ap (λ (xs : List ℕ). read_all (Some first_read) xs) begun.spelled ∙ read-file begun.lines begun.are)

pub file-begins : (bytes : List ℕ) (lines : Lines) → AreLines lines → bytes ≡ file_bytes lines → BeginsJournal bytes
file-begins bytes lines are spelled = record { rest = []; lines = lines; are = are; spelled = append-nil bytes ∙ spelled }

-- a front of a longer front
pub take-take-more : (i m : ℕ) (bytes : List ℕ) → i < m → i < length bytes → take (i + 1) (take m bytes) ≡ take i bytes ++ get_or bytes i 0 ∷ []
take-take-more i m bytes later within =
    take-take (i + 1) m bytes (omega arith) ∙ take_more bytes i 0 within

-- a byte that no file goes on with
pub refused : (r : Read) (bytes : List ℕ) (i : ℕ) → HasRead r (take i bytes) → i < length bytes → read_byte r (get_or bytes i 0) ≡ None → IsLongestFront bytes i
refused r bytes i has within none = record {
  within = omega arith;
  begins = begins r (take i bytes) has.follows;
  longest = λ (m : ℕ) (fits : m ≤ length bytes) (begun : BeginsJournal (take m bytes)). elim (cases_lt i m) [
    | inl later ↦ absurd (begun-is-read (take m bytes) begun
        (ap (λ (xs : List ℕ). read_all (Some first_read) xs) (sym (take-append-drop (i + 1) (take m bytes)) ∙ ap (λ (xs : List ℕ). xs ++ drop (i + 1) (take m bytes)) (take-take-more i m bytes later within))
        ∙ read_all-append (Some first_read) (take i bytes ++ get_or bytes i 0 ∷ []) (drop (i + 1) (take m bytes))
        ∙ ap (λ (o : Option Read). read_all o (drop (i + 1) (take m bytes))) (read-push r (take i bytes) (get_or bytes i 0) has.reads ∙ none)
        ∙ read-none (drop (i + 1) (take m bytes))))
    | inr not_later ↦ not_later
  ];
}

-- bytes of which a longer front begins no file are no file
pub no-file : (bytes : List ℕ) (n : ℕ) → IsLongestFront bytes n → n < length bytes → (entries : List Entry) (outer : Option (ℕ × Why)) → ¬ SpellsJournal bytes entries outer
no-file bytes n front short entries outer spells =
    let begun : BeginsJournal (take (length bytes) bytes) = subst BeginsJournal (sym (take_all (length bytes) bytes (omega arith))) (file-begins bytes spells.lines spells.are spells.spelled) in
    let most : length bytes ≤ n = front.longest (length bytes) (omega arith) begun in
    omega arith

-- the bytes end before the file does
pub cut-short : (r : Read) (bytes : List ℕ) → HasRead r bytes → IsLongestFront bytes (length bytes)
cut-short r bytes has = record {
  within = omega arith;
  begins = subst BeginsJournal (sym (take_all (length bytes) bytes (omega arith))) (begins r bytes has.follows);
  longest = λ (m : ℕ) (fits : m ≤ length bytes) (begun : BeginsJournal (take m bytes)). fits;
}

pub not-whole : (r : Read) (bytes : List ℕ) → HasRead r bytes → r.spot ≢ spot.Done → (entries : List Entry) (outer : Option (ℕ × Why)) → ¬ SpellsJournal bytes entries outer
not-whole r bytes has further entries outer spells =
    let same : Some r ≡ Some (behind spells.lines.records spells.lines.end) =
    sym has.reads ∙ ap (λ (xs : List ℕ). read_all (Some first_read) xs) spells.spelled ∙ read-file spells.lines spells.are in
    let is : r ≡ behind spells.lines.records spells.lines.end = cc in
    further (ap (λ (s : Read). s.spot) is)

-- the bytes are a file
pub whole : (r : Read) (bytes : List ℕ) → HasRead r bytes → r.spot ≡ spot.Done → SpellsJournal bytes (entries_of r.records) (outer_of r.end)
whole r bytes has done = record {
  lines = record { records = r.records; end = r.end };
  are = has.follows.lines;
  spelled = is-file r bytes has.follows done;
  entries_are = refl;
  outer_is = refl;
}
