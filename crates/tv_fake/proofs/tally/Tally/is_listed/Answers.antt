use Rattle.std.proofs.Common.{◌≡◌, ℕ, List, Option, Some, None, Contains}
use Rattle.std.specs.Bool.{OnTrue, OnFalse}
use Rattle.std.specs.Option.{IfSome, IfNone, is_some}
use Rattle.tv_out.specs.Shelf.{first_named}
use Rattle.tv_fake.specs.declared.shelf.Named.{Named}
use Rattle.tv_fake.specs.Shelf.{objects, names_of, IsFirstAt}
use Rattle.tv_fake.proofs.Places.{unlisted}
use Rattle.tv_fake.proofs.tally.Tally.is_listed.Goals as goal

listed : {T : Type 0} (name : List ℕ) (entries : List (Named T)) (answer : Option ℕ) → IfSome answer (λ at. IsFirstAt name entries at) →
    OnTrue (is_some answer) (Contains (names_of entries) name)
listed name entries None _ = tt
listed name entries (Some at) first = first.listed

other : {T : Type 0} (name : List ℕ) (entries : List (Named T)) (answer : Option ℕ) → IfNone answer (first_named name (objects entries) ≡ None) →
    OnFalse (is_some answer) (¬ (Contains (names_of entries) name))
other name entries None none = unlisted name entries none
other name entries (Some _) _ = tt

pub returns-clause-listed : goal.returns-clause-listed
returns-clause-listed c =
    rw c.is_some.ensures (listed c.args.name.now c.args.self.now.counts.items c.position_of.result c.position_of.ensures.found)

pub returns-clause-unlisted : goal.returns-clause-unlisted
returns-clause-unlisted c =
    rw c.is_some.ensures (other c.args.name.now c.args.self.now.counts.items c.position_of.result c.position_of.ensures.none)
