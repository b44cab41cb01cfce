-- The objects that a store is still to give, where it tells them.
use Rattle.std.specs.Prelude.{ℕ, if◌then◌else◌, List, [], ◌∷◌, Option, Some, None, Result, Ok, Err}
use Rattle.std.specs.Str.{bytes_eq}

-- an object with its name
pub record Named (A : Type 0) : Type 0 where
  pub name : List ℕ
  pub object : A

-- the first object of this name
abbrev pub first_named : {A : Type 0} → List ℕ → List (Named A) → Option A
first_named name [] = None
first_named name (entry ∷ rest) = if bytes_eq entry.name name then Some entry.object else first_named name rest

-- the list without the first object of this name
abbrev pub without_first : {A : Type 0} → List ℕ → List (Named A) → List (Named A)
without_first name [] = []
without_first name (entry ∷ rest) = if bytes_eq entry.name name then rest else entry ∷ without_first name rest

-- the list after an object of this name was asked for, by the answer
abbrev pub after_giving : {A T E : Type 0} → Result T E → List ℕ → List (Named A) → List (Named A)
after_giving (Ok _) name shelf = without_first name shelf
after_giving (Err _) name shelf = shelf
