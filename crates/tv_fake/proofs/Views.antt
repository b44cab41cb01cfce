-- Objects by name, each as a view shows it.
use Rattle.std.proofs.Common.{◌≡◌, ℕ, Bool, true, false, cond, List, [], ◌∷◌, Some, None, Result, Ok, Err, ◌⊎◌, inl, inr, Contains, map, refl, ap, sym, ◌∙◌}
use Rattle.std.specs.Option.{option_map}
use Rattle.std.specs.String.{string_bytes}
use Rattle.std.specs.Str.{bytes_eq}
use Rattle.tv_out.specs.Shelf as told
use Rattle.tv_out.specs.Shelf.{first_named, without_first, after_giving}
use Rattle.tv_fake.specs.declared.shelf.Named.{Named}
use Rattle.tv_out.specs.Calls.{Calls, IsFailing}
use Rattle.tv_fake.specs.declared.tally.Tally.{Tally}
use Rattle.tv_fake.specs.Shelf.{shelf_of, objects}
use Rattle.tv_fake.specs.Tally.{faults_by_name}
use Rattle.tv_fake.specs.Giving.{IsRefused}

-- a shelf with each object as this view shows it
abbrev pub viewed : {A B : Type 0} → (A → B) → List (told.Named A) → List (told.Named B)
viewed view shelf = map (λ entry. record { name = entry.name; object = view entry.object }) shelf

viewed-objects : {T A : Type 0} (view : T → A) (entries : List (Named T)) → viewed view (objects entries) ≡ shelf_of view entries
viewed-objects view [] = refl
viewed-objects view (entry ∷ rest) = ap (λ more. record { name = string_bytes entry.name; object = view entry.object } ∷ more) (viewed-objects view rest)

first-viewed : {A B : Type 0} (view : A → B) (name : List ℕ) (shelf : List (told.Named A)) → first_named name (viewed view shelf) ≡ option_map view (first_named name shelf)
first-viewed view name [] = refl
first-viewed {A} {B} view name (entry ∷ rest) =
    let split : (b : Bool) → cond b (Some (view entry.object)) (first_named name (viewed view rest)) ≡ option_map view (cond b (Some entry.object) (first_named name rest)) =
    elim [ true ↦ refl | false ↦ first-viewed view name rest ] in
    split (bytes_eq entry.name name)

without-viewed : {A B : Type 0} (view : A → B) (name : List ℕ) (shelf : List (told.Named A)) → without_first name (viewed view shelf) ≡ viewed view (without_first name shelf)
without-viewed view name [] = refl
without-viewed {A} {B} view name (entry ∷ rest) =
    let front : told.Named B = record { name = entry.name; object = view entry.object } in
    let split : (b : Bool) → cond b (viewed view rest) (front ∷ without_first name (viewed view rest)) ≡ viewed view (cond b rest (entry ∷ without_first name rest)) =
    elim [ true ↦ refl | false ↦ ap (λ more. front ∷ more) (without-viewed view name rest) ] in
    split (bytes_eq entry.name name)

-- the first object of a name, as the view shows it
pub first-shelf : {T A : Type 0} (view : T → A) (name : List ℕ) (entries : List (Named T)) → first_named name (shelf_of view entries) ≡ option_map view (first_named name (objects entries))
first-shelf view name entries = ap (λ shelf. first_named name shelf) (sym (viewed-objects view entries)) ∙ first-viewed view name (objects entries)

-- what is left after a gift, as the view shows it
pub shelf-given : {T A X E : Type 0} (view : T → A) (name : List ℕ) (before now : List (Named T)) (result : Result X E) →
    objects now ≡ after_giving result name (objects before) →
    (shelf_of view now ≡ after_giving result name (shelf_of view before))
shelf-given view name before now (Ok _) left =
    sym (viewed-objects view now) ∙ (ap (viewed view) left ∙ (sym (without-viewed view name (objects before)) ∙ ap (λ shelf. without_first name shelf) (viewed-objects view before)))
shelf-given view name before now (Err _) left =
    sym (viewed-objects view now) ∙ (ap (viewed view) left ∙ viewed-objects view before)

-- the object that was given is the shelf's first, as the view shows it
pub given : {T A : Type 0} (view : T → A) (name : List ℕ) (entries : List (Named T)) (object : T) → first_named name (objects entries) ≡ Some object →
    first_named name (shelf_of view entries) ≡ Some (view object)
given view name entries object first = first-shelf view name entries ∙ ap (option_map view) first

-- nothing of the name is left on the shelf, whatever the view
none-shelf : {T A : Type 0} (view : T → A) (name : List ℕ) (entries : List (Named T)) → first_named name (objects entries) ≡ None →
    first_named name (shelf_of view entries) ≡ None
none-shelf view name entries none = first-shelf view name entries ∙ ap (option_map view) none

-- a gift was not due to be refused
pub not_due : {T A : Type 0} (view : T → A) (calls : Calls) (name : List ℕ) (tally : Tally) (entries : List (Named T)) (object : T) → ¬ (IsRefused calls tally name) →
    first_named name (objects entries) ≡ Some object →
    ¬ (IsFailing calls ⊎ ((¬ (Contains (faults_by_name tally).names name)) ⊎ (first_named name (shelf_of view entries) ≡ None)))
not_due view calls name tally entries object admitted first (inl failing) = admitted (inl failing)
not_due view calls name tally entries object admitted first (inr (inl unlisted)) = admitted (inr unlisted)
not_due view calls name tally entries object admitted first (inr (inr none)) =
    let some = given view name entries object first in cc (some, none)

-- a refusal was due
pub due : {T A : Type 0} (view : T → A) (calls : Calls) (name : List ℕ) (tally : Tally) (entries : List (Named T)) →
    IsRefused calls tally name ⊎ (first_named name (objects entries) ≡ None) →
    IsFailing calls ⊎ ((¬ (Contains (faults_by_name tally).names name)) ⊎ (first_named name (shelf_of view entries) ≡ None))
due view calls name tally entries (inl (inl failing)) = inl failing
due view calls name tally entries (inl (inr unlisted)) = inr (inl unlisted)
due view calls name tally entries (inr none) = inr (inr (none-shelf view name entries none))
