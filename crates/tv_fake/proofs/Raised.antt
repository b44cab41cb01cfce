-- A fault that is counted at a name.
use Rattle.std.proofs.Common.{◌≡◌, ◌≢◌, ℕ, ◌≤◌, Bool, true, false, List, Option, Some, None, refl, ap, sym, ◌∙◌, subst, Contains, arith}
use Rattle.std.specs.Option.{unwrap_or}
use Rattle.std.specs.Str.{bytes_eq}
use Rattle.std.proofs.lemmas.Slice.Eq.{bytes_eq-Decides}
use Rattle.tv_out.specs.Faults.{IsElsewhereSame}
use Rattle.tv_out.specs.Shelf.{first_named}
use Rattle.tv_fake.specs.declared.shelf.Named.{Named}
use Rattle.tv_fake.specs.Shelf.{objects, names_of, IsReplaced}
use Rattle.tv_fake.specs.Tally.{faults_in}
use Rattle.tv_fake.proofs.Places.{counted, unlisted-none}

-- names outside the list have the shared count
shared-count : (counts : List (Named ℕ)) (others : ℕ) (name : List ℕ) → ¬ (Contains (names_of counts) name) → (faults_in counts others).count_of name ≡ others
shared-count counts others name absent = ap (λ (count : Option ℕ). unwrap_or count others) (unlisted-none name counts absent)

-- nothing is counted
pub raised-none : (counts : List (Named ℕ)) (others : ℕ) (name : List ℕ) → IsElsewhereSame (faults_in counts others) (faults_in counts others) name
raised-none counts others name = record {
  names = refl;
  others = λ other listed differ. refl;
  later = λ any. omega arith;
  shared = λ one other absent missing. shared-count counts others one absent ∙ sym (shared-count counts others other missing);
}

-- the count of a listed name is another one, no smaller
pub raised-listed : (name : List ℕ) (counts now : List (Named ℕ)) (others count : ℕ) → IsReplaced name counts now count → (faults_in counts others).count_of name ≤ count
    → IsElsewhereSame (faults_in counts others) (faults_in now others) name
raised-listed name counts now others count replaced more = record {
  names = replaced.names;
  others = λ other listed differ. ap (λ (count : Option ℕ). unwrap_or count others) (replaced.others other differ);
  later = λ any.
      let split : (same : Bool) → bytes_eq any name ≡ same → (faults_in counts others).count_of any ≤ (faults_in now others).count_of any =
      elim [
        | true ↦ λ same.
            subst (λ (n : List ℕ). (faults_in counts others).count_of n ≤ (faults_in now others).count_of n) (sym ((bytes_eq-Decides any name).0 same))
            (subst (λ (found : Option ℕ). (faults_in counts others).count_of name ≤ unwrap_or found others) (sym replaced.first) more)
        | false ↦ λ differ.
            let apart : any ≢ name = λ same. let eq : true ≡ false = sym ((bytes_eq-Decides any name).1 same) ∙ differ in absurd (cc eq) in
            subst (λ (found : Option ℕ). (faults_in counts others).count_of any ≤ unwrap_or found others) (sym (replaced.others any apart)) (omega arith)
      ] in
      split (bytes_eq any name) refl;
  shared = λ one other absent missing.
      shared-count now others one (subst (λ (names : List (List ℕ)). ¬ (Contains names one)) (sym replaced.names) absent)
      ∙ sym (shared-count now others other (subst (λ (names : List (List ℕ)). ¬ (Contains names other)) (sym replaced.names) missing));
}

-- the shared count is another one, no smaller
pub raised-unlisted : (name : List ℕ) (counts : List (Named ℕ)) (others more : ℕ) → others ≤ more → IsElsewhereSame (faults_in counts others) (faults_in counts more) name
raised-unlisted name counts others more fewer = record {
  names = refl;
  others = λ other listed differ. counted other counts more others listed;
  later = λ any.
      let split : (found : Option ℕ) → unwrap_or found others ≤ unwrap_or found more = elim [ None ↦ fewer | Some count ↦ omega arith ] in
      split (first_named any (objects counts));
  shared = λ one other absent missing. shared-count counts more one absent ∙ sym (shared-count counts more other missing);
}
