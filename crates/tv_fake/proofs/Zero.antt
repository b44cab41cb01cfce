-- Counts that all stand at 0.
use Rattle.std.proofs.Common.{◌≡◌, ℕ, Bool, true, false, cond, List, [], ◌∷◌, ◌++◌, Some, None, map, refl, ap, sym, ◌∙◌}
use Rattle.std.specs.Prelude.{String}
use Rattle.std.specs.Option.{unwrap_or}
use Rattle.std.specs.String.{string_bytes}
use Rattle.std.specs.Str.{bytes_eq}
use Rattle.tv_out.specs.Shelf.{first_named}
use Rattle.tv_fake.specs.declared.shelf.Named.{Named}
use Rattle.tv_fake.specs.Shelf.{objects, names_of}

-- the counts of these names stand at 0
pub record AreZero {A : Type 0} (counts : List (Named ℕ)) (names : List (String A)) : Type 0 where
  pub names_are : names_of counts ≡ map string_bytes names
  pub none : (name : List ℕ) → unwrap_or (first_named name (objects counts)) 0 ≡ 0

-- one more that stands at 0
none_more : (counts : List (Named ℕ)) (count : Named ℕ) (name : List ℕ) → count.object ≡ 0 → unwrap_or (first_named name (objects counts)) 0 ≡ 0 →
    unwrap_or (first_named name (objects (counts ++ count ∷ []))) 0 ≡ 0
none_more [] count name zero before =
    let split : (b : Bool) → unwrap_or (cond b (Some count.object) None) 0 ≡ 0 = elim [ true ↦ zero | false ↦ refl ] in
    split (bytes_eq (string_bytes count.name) name)
none_more (first ∷ rest) count name zero before =
    let split : (b : Bool) → unwrap_or (cond b (Some first.object) (first_named name (objects rest))) 0 ≡ 0 →
    unwrap_or (cond b (Some first.object) (first_named name (objects (rest ++ count ∷ [])))) 0 ≡ 0 =
    elim [ true ↦ λ h. h | false ↦ λ h. none_more rest count name zero h ] in
    split (bytes_eq (string_bytes first.name) name) before

-- the same of the names
names_more : (counts : List (Named ℕ)) (count : Named ℕ) → names_of (counts ++ count ∷ []) ≡ names_of counts ++ string_bytes count.name ∷ []
names_more [] count = refl
names_more (first ∷ rest) count = ap (λ names. string_bytes first.name ∷ names) (names_more rest count)

texts_more : {A : Type 0} (names : List (String A)) (name : String A) → map string_bytes (names ++ name ∷ []) ≡ map string_bytes names ++ string_bytes name ∷ []
texts_more [] name = refl
texts_more (first ∷ rest) name = ap (λ texts. string_bytes first ∷ texts) (texts_more rest name)

-- the counts with one more at 0
pub zero_more : {A : Type 0} (counts : List (Named ℕ)) (names : List (String A)) (count : Named ℕ) (name : String A) → string_bytes count.name ≡ string_bytes name → count.object ≡ 0 →
    AreZero counts names → AreZero (counts ++ count ∷ []) (names ++ name ∷ [])
zero_more counts names count name same zero before = record {
  names_are = names_more counts count ∙ (ap (λ texts. texts ++ string_bytes count.name ∷ []) before.names_are
      ∙ (ap (λ text. map string_bytes names ++ text ∷ []) same ∙ sym (texts_more names name)));
  none = λ wanted. none_more counts count wanted zero (before.none wanted);
}
