-- Where the first object of a name stands.
use Rattle.std.proofs.Common.{◌≡◌, ◌≢◌, ℕ, ◌+◌, zero, suc, Bool, true, false, cond, List, [], ◌∷◌, Option, Some, None, set, refl, ap, sym, ◌∙◌, subst, Contains, arith}
use Rattle.std.specs.Option.{MatchOption, unwrap_or}
use Rattle.std.specs.List.{position_from}
use Rattle.std.specs.String.{string_bytes}
use Rattle.std.specs.Str.{bytes_eq}
use Rattle.std.proofs.lemmas.Slice.Eq.{bytes_eq-Decides}
use Rattle.tv_out.specs.Shelf as told
use Rattle.tv_out.specs.Shelf.{first_named, without_first}
use Rattle.tv_fake.specs.declared.shelf.Named.{Named}
use Rattle.tv_fake.specs.Shelf.{objects, names_of, is_named, IsFirstAt, IsReplaced}

-- a place, counted from a number on
pub record IsFound {T : Type 0} (name : List ℕ) (entries : List (Named T)) (from at : ℕ) : Type 0 where
  pub steps : ℕ
  pub is : at ≡ from + steps
  pub first : IsFirstAt name entries steps

-- a test of names says whether they are the same
named-same : {T : Type 0} (name : List ℕ) (entry : Named T) → is_named name entry ≡ true → string_bytes entry.name ≡ name
named-same name entry named = (bytes_eq-Decides (string_bytes entry.name) name).0 named

-- an entry of one name has no other
named-other : {T : Type 0} (name other : List ℕ) (entry : Named T) → other ≢ name → is_named name entry ≡ true → is_named other entry ≡ false
named-other name other entry differ named =
    let split : (b : Bool) → is_named other entry ≡ b → b ≡ false =
    elim [
      | true ↦ λ same. absurd (differ (sym (named-same other entry same) ∙ named-same name entry named))
      | false ↦ λ _. refl
    ] in
    split (is_named other entry) refl

-- the front entry is replaced
replaced_front : {T : Type 0} (name : List ℕ) (entry : Named T) (rest : List (Named T)) (new : Named T) → is_named name entry ≡ true → is_named name new ≡ true →
    IsReplaced name (entry ∷ rest) (new ∷ rest) new.object
replaced_front name entry rest new named same = record {
  names = ap (λ bytes. bytes ∷ names_of rest) (named-same name new same ∙ sym (named-same name entry named));
  first = rw same refl;
  others = λ other differ. rw (named-other name other new differ same, named-other name other entry differ named) refl;
}

-- an entry behind one of another name is replaced
replaced_further : {T : Type 0} (name : List ℕ) (entry : Named T) (before now : List (Named T)) (object : T) → is_named name entry ≡ false →
    IsReplaced name before now object → IsReplaced name (entry ∷ before) (entry ∷ now) object
replaced_further name entry before now object other is = record {
  names = ap (λ names. string_bytes entry.name ∷ names) is.names;
  first = rw other is.first;
  others = λ name' differ. ap (λ answer. cond (bytes_eq (string_bytes entry.name) name') (Some entry.object) answer) (is.others name' differ);
}

-- the front entry has the name
at_front : {T : Type 0} (name : List ℕ) (entry : Named T) (rest : List (Named T)) → is_named name entry ≡ true → IsFirstAt name (entry ∷ rest) 0
at_front name entry rest named = record {
  within = omega arith;
  named = λ _. named;
  first = λ _. rw named refl;
  rest = rw named refl;
  listed = (0, omega arith, named-same name entry named);
  replaced = λ new same. replaced_front name entry rest new named same;
}

-- the front entry has another name
further : {T : Type 0} (name : List ℕ) (entry : Named T) (rest : List (Named T)) (at : ℕ) → is_named name entry ≡ false → IsFirstAt name rest at →
    IsFirstAt name (entry ∷ rest) (suc at)
further name entry rest at other found = record {
  within = let h = found.within in omega arith;
  named = λ d. found.named d;
  first = λ d. rw other (found.first d);
  rest = rw other (ap (λ more. record { name = string_bytes entry.name; object = entry.object } ∷ more) found.rest);
  listed = (suc found.listed.0, (let h = found.listed.1 in omega arith), found.listed.2);
  replaced = λ new same. replaced_further name entry rest (set rest at new) new.object other (found.replaced new same);
}

-- the answer of a search behind an entry of another name
passed : {T : Type 0} (name : List ℕ) (entry : Named T) (rest : List (Named T)) (from : ℕ) (answer : Option ℕ) → is_named name entry ≡ false →
    MatchOption answer (first_named name (objects rest) ≡ None) (λ at. IsFound name rest (from + 1) at) →
    MatchOption answer (first_named name (objects (entry ∷ rest)) ≡ None) (λ at. IsFound name (entry ∷ rest) from at)
passed name entry rest from None other none = rw other none
passed name entry rest from (Some at) other found = record {
  steps = suc found.steps;
  is = let h = found.is in omega arith;
  first = further name entry rest found.steps other found.first;
}

-- what a search finds
pub places : {T : Type 0} (name : List ℕ) (entries : List (Named T)) (from : ℕ) →
    MatchOption (position_from (is_named name) from entries) (first_named name (objects entries) ≡ None) (λ at. IsFound name entries from at)
places name [] from = refl
places {T} name (entry ∷ rest) from =
    let split : (b : Bool) → is_named name entry ≡ b →
    MatchOption (cond b (Some from) (position_from (is_named name) (from + 1) rest)) (first_named name (objects (entry ∷ rest)) ≡ None)
    (λ at. IsFound name (entry ∷ rest) from at) =
    elim [
      | true ↦ λ named. record { steps = 0; is = omega arith; first = at_front name entry rest named }
      | false ↦ λ other. passed name entry rest from (position_from (is_named name) (from + 1) rest) other (places name rest (from + 1))
    ] in
    split (is_named name entry) refl

-- a place counted from 0 on
pub found_at : {T : Type 0} (name : List ℕ) (entries : List (Named T)) (at : ℕ) → IsFound name entries 0 at → IsFirstAt name entries at
found_at name entries at found =
    let same : found.steps ≡ at = let h = found.is in omega arith in
    subst (λ n. IsFirstAt name entries n) same found.first

-- where no object has the name, the list without the first is the list
pub without_none : {A : Type 0} (name : List ℕ) (shelf : List (told.Named A)) → first_named name shelf ≡ None → shelf ≡ without_first name shelf
without_none name [] none = refl
without_none {A} name (entry ∷ rest) none =
    let split : (b : Bool) → cond b (Some entry.object) (first_named name rest) ≡ None → entry ∷ rest ≡ cond b rest (entry ∷ without_first name rest) =
    elim [ true ↦ λ h. cc | false ↦ λ h. ap (λ more. entry ∷ more) (without_none name rest h) ] in
    split (bytes_eq entry.name name) none

-- a name that is listed stands behind an entry of another name
found_behind : {T : Type 0} (name : List ℕ) (entry : Named T) (rest : List (Named T)) → is_named name entry ≡ false → Contains (names_of (entry ∷ rest)) name →
    Contains (names_of rest) name
found_behind name entry rest other (zero, within, same) =
    let eq : true ≡ false = sym ((bytes_eq-Decides (string_bytes entry.name) name).1 same) ∙ other in absurd (cc eq)
found_behind name entry rest other (suc at, within, same) = (at, omega arith, same)

-- where no object has the name, it isn't among the names
pub unlisted : {T : Type 0} (name : List ℕ) (entries : List (Named T)) → first_named name (objects entries) ≡ None → ¬ (Contains (names_of entries) name)
unlisted name [] none found = let h = found.1 in absurd (omega arith)
unlisted {T} name (entry ∷ rest) none found =
    let split : (b : Bool) → is_named name entry ≡ b → cond b (Some entry.object) (first_named name (objects rest)) ≡ None → ⊥ =
    elim [ true ↦ λ _ h. cc | false ↦ λ other h. unlisted name rest h (found_behind name entry rest other found) ] in
    split (is_named name entry) refl none

-- where a name isn't among the names, no object has it
pub unlisted-none : {T : Type 0} (name : List ℕ) (entries : List (Named T)) → ¬ (Contains (names_of entries) name) → first_named name (objects entries) ≡ None
unlisted-none {T} name entries absent =
    let split : (answer : Option ℕ) → MatchOption answer (first_named name (objects entries) ≡ None) (λ at. IsFound name entries 0 at) → first_named name (objects entries) ≡ None =
    elim [ None ↦ λ none. none | Some at ↦ λ found. absurd (absent found.first.listed) ] in
    split (position_from (is_named name) 0 entries) (places name entries 0)

-- two counts are the same where all other names share one, for a name that is listed
pub counted : {T : Type 0} (name : List ℕ) (entries : List (Named T)) (others others' : T) → Contains (names_of entries) name →
    unwrap_or (first_named name (objects entries)) others ≡ unwrap_or (first_named name (objects entries)) others'
counted {T} name entries others others' listed =
    let split : (answer : Option T) → first_named name (objects entries) ≡ answer → unwrap_or answer others ≡ unwrap_or answer others' =
    elim [ None ↦ λ none. absurd (unlisted name entries none listed) | Some object ↦ λ _. refl ] in
    split (first_named name (objects entries)) refl
