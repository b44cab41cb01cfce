-- What a word is by itself.
use Rattle.std.proofs.Common.{◌≡◌, ◌≢◌, ℕ, ◌++◌, inl, inr, Bool, true, false, not, cond, List, [], ◌∷◌, refl, sym, ◌∙◌, ap, codes, Option, Some, None, option_map, IfSome, MatchOption, Bor}
use Rattle.std.proofs.lemmas.Bool.Decides.{eqb_tells}
use Rattle.std.proofs.lemmas.Slice.Eq.{bytes_eq-Decides}
use Rattle.std.specs.Str.{bytes_eq}
use Rattle.std.specs.Str.Pattern.{FindsTextPrefix, StripsPrefix}
use Rattle.tv_words.specs.declared.word.Setting.{Setting}
use Rattle.tv_words.specs.declared.word.Setting.TheVariants.{Steps, Journal}
use Rattle.tv_words.specs.Arguments.{option_word, IsPlain}
use Rattle.tv_words.specs.Reading.{Kind, name, ends, flat, setting, set, unknown, stripped, is_plain, kind_of_set, kind_of}

-- a word without a prefix
pub stripped_none : (prefix text : List ℕ) → ((rest : List ℕ) → text ≢ prefix ++ rest) → stripped prefix text ≡ None
stripped_none [] text lacks = absurd (lacks text refl)
stripped_none (p ∷ prefix) [] lacks = refl
stripped_none (p ∷ prefix) (c ∷ text) lacks =
    elim (eqb_tells c p) [
      | inl same ↦ rw same.0 (stripped_none prefix text (λ rest e. lacks rest (cc)))
      | inr other ↦ rw other.0 refl
    ]

pub stripped_some : (prefix rest : List ℕ) → stripped prefix (prefix ++ rest) ≡ Some rest
stripped_some [] rest = refl
stripped_some (p ∷ prefix) rest =
    elim (eqb_tells p p) [
      | inl same ↦ rw same.0 (stripped_some prefix rest)
      | inr other ↦ absurd (other.1 refl)
    ]

pub stripped_is : (prefix text : List ℕ) → IfSome (stripped prefix text) (λ rest. text ≡ prefix ++ rest)
stripped_is [] text = refl
stripped_is (p ∷ prefix) [] = tt
stripped_is (p ∷ prefix) (c ∷ text) =
    elim (eqb_tells c p) [
      | inl same ↦ rw same.0 (more_is p c prefix text same.1 (stripped prefix text) (stripped_is prefix text))
      | inr other ↦ rw other.0 tt
    ]
  where
    more_is : (p c : ℕ) (prefix text : List ℕ) → c ≡ p → (o : Option (List ℕ)) → IfSome o (λ rest. text ≡ prefix ++ rest)
        → IfSome o (λ rest. c ∷ text ≡ p ∷ (prefix ++ rest))
    more_is p c prefix text e None h = tt
    more_is p c prefix text e (Some rest) h = cc

-- what `strip_prefix` gives
pub strip_gives : (prefix text : List ℕ) (r : Option (Bor (List ℕ)))
    → MatchOption r (FindsTextPrefix prefix text None) (λ x. StripsPrefix (FindsTextPrefix prefix) text x.now)
    → option_map (λ x. x.now) r ≡ stripped prefix text
strip_gives prefix text None lacks = sym (stripped_none prefix text lacks)
strip_gives prefix text (Some x) found =
    let is : text ≡ prefix ++ x.now = found.1.1 ∙ ap (λ rest. prefix ++ rest) (sym found.2) in
    rw is (sym (stripped_some prefix x.now))

-- the test for a word that is no option
pub plain_true : (text : List ℕ) → is_plain text ≡ true → IsPlain text
plain_true [] h = tt
plain_true (first ∷ []) h = λ _. refl
plain_true (first ∷ second ∷ rest) h = λ e.
    elim (eqb_tells first 45) [ inl same ↦ let no : not true ≡ true = rw same.0 at h in cc | inr other ↦ absurd (other.1 e) ]

pub true_plain : (text : List ℕ) → IsPlain text → is_plain text ≡ true
true_plain [] h = refl
true_plain (first ∷ []) h = refl
true_plain (first ∷ second ∷ rest) h =
    elim (eqb_tells first 45) [ inl same ↦ let no : second ∷ rest ≡ [] = h same.1 in cc | inr other ↦ rw other.0 refl ]

-- what each kind says of a word
abbrev pub IsKind : List ℕ → Kind → Type 0
IsKind text name = IsPlain text
IsKind text ends = text ≡ codes "--"
IsKind text flat = text ≡ codes "--flat"
IsKind text (setting which) = text ≡ option_word which
IsKind text (set which value) = text ≡ option_word which ++ (codes "=" ++ value)
IsKind text unknown = Unit {0}

kind_if : (text word : List ℕ) (kind other : Kind) → (text ≡ word → IsKind text kind) → IsKind text other
    → IsKind text (cond (bytes_eq text word) kind other)
kind_if text word kind other is is_other =
    let P : Bool → Type 0 = λ b. bytes_eq text word ≡ b → IsKind text (cond b kind other) in
    let at : P (bytes_eq text word) =
    elim (bytes_eq text word) as P [ true ↦ λ e. is ((bytes_eq-Decides text word).0 e) | false ↦ λ _. is_other ] in
    at refl

plain_if : (text : List ℕ) → IsKind text (cond (is_plain text) name unknown)
plain_if text =
    let P : Bool → Type 0 = λ b. is_plain text ≡ b → IsKind text (cond b name unknown) in
    let at : P (is_plain text) = elim (is_plain text) as P [ true ↦ λ e. plain_true text e | false ↦ λ _. tt ] in
    at refl

set_is : (text : List ℕ) (steps journal : Option (List ℕ)) → IfSome steps (λ rest. text ≡ codes "--steps=" ++ rest)
    → IfSome journal (λ rest. text ≡ codes "--journal=" ++ rest) → IsKind text (kind_of_set text steps journal)
set_is text (Some value) journal is_steps is_journal = is_steps
set_is text None (Some value) is_steps is_journal = is_journal
set_is text None None is_steps is_journal = plain_if text

-- a word is of its kind
pub kind_is : (text : List ℕ) → IsKind text (kind_of text)
kind_is text =
    kind_if text (codes "--") ends _ (λ e. e)
    (kind_if text (codes "--flat") flat _ (λ e. e)
    (kind_if text (codes "--steps") (setting Steps) _ (λ e. e)
    (kind_if text (codes "--journal") (setting Journal) _ (λ e. e)
    (set_is text _ _ (stripped_is (codes "--steps=") text) (stripped_is (codes "--journal=") text)))))

-- and it has no other kind
pub kind_of_name : (text : List ℕ) → IsPlain text → kind_of text ≡ name
kind_of_name [] plain = refl
kind_of_name (first ∷ []) plain =
    elim (eqb_tells first 45) [ inl same ↦ rw same.0 refl | inr other ↦ rw other.0 refl ]
kind_of_name (first ∷ second ∷ rest) plain =
    elim (eqb_tells first 45) [ inl same ↦ let no : second ∷ rest ≡ [] = plain same.1 in cc | inr other ↦ simp other.0 ]

pub kind_of_setting : (which : Setting) → kind_of (option_word which) ≡ setting which
kind_of_setting Steps = refl
kind_of_setting Journal = refl

pub kind_of_setting_set : (which : Setting) (value : List ℕ) → kind_of (option_word which ++ (codes "=" ++ value)) ≡ set which value
kind_of_setting_set Steps value = refl
kind_of_setting_set Journal value = refl
