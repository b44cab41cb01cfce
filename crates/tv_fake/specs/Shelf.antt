-- Objects by name, as a store tells them.
use Rattle.std.specs.Prelude.{◌≡◌, ◌≢◌, ℕ, ◌<◌, Bool, true, List, Some, length, map, remove, slice_index_or, slice_set, Contains}
use Rattle.std.specs.String.{string_bytes}
use Rattle.std.specs.Str.{bytes_eq}
use Rattle.tv_out.specs.Shelf as told
use Rattle.tv_out.specs.Shelf.{first_named, without_first}
use Rattle.tv_fake.specs.declared.shelf.Named.{Named}

-- each object as this view shows it, with the bytes of its name
abbrev pub shelf_of : {T A : Type 0} → (T → A) → List (Named T) → List (told.Named A)
shelf_of view entries = map (λ entry. record { name = string_bytes entry.name; object = view entry.object }) entries

-- the objects themselves
abbrev pub objects : {T : Type 0} → List (Named T) → List (told.Named T)
objects entries = shelf_of (λ object. object) entries

-- an object has this name
abbrev pub is_named : {T : Type 0} → List ℕ → Named T → Bool
is_named name entry = bytes_eq (string_bytes entry.name) name

-- the names of the entries
abbrev pub names_of : {T : Type 0} → List (Named T) → List (List ℕ)
names_of entries = map (λ entry. string_bytes entry.name) entries

-- the first object of this name is another one now, and nothing else changed
pub record IsReplaced {T : Type 0} (name : List ℕ) (before now : List (Named T)) (object : T) : Type 0 where
  pub names : names_of now ≡ names_of before
  pub first : first_named name (objects now) ≡ Some object
  pub others : (other : List ℕ) → other ≢ name → first_named other (objects now) ≡ first_named other (objects before)

-- the entry at this place is the first of this name: what can be read, taken out and replaced there
pub record IsFirstAt {T : Type 0} (name : List ℕ) (entries : List (Named T)) (at : ℕ) : Type 0 where
  pub within : at < length entries
  pub named : (d : Named T) → is_named name (slice_index_or entries at d) ≡ true
  pub first : (d : Named T) → first_named name (objects entries) ≡ Some (slice_index_or entries at d).object
  pub rest : without_first name (objects entries) ≡ objects (remove entries at)
  pub listed : Contains (names_of entries) name
  pub replaced : (new : Named T) → is_named name new ≡ true → IsReplaced name entries (slice_set entries at new) new.object
