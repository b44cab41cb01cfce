use Rattle.std.proofs.Common.{◌≡◌, ℕ, List, Option, Some, None}
use Rattle.std.specs.Option.{MatchOption, IfSome, IfNone}
use Rattle.tv_out.specs.Shelf.{first_named}
use Rattle.tv_fake.specs.declared.shelf.Named.{Named}
use Rattle.tv_fake.specs.Shelf.{objects, IsFirstAt}
use Rattle.tv_fake.proofs.Places.{IsFound, places, found_at}
use Rattle.tv_fake.proofs.shelf.position_of.Goals as goal

found : {T : Type 0} (name : List ℕ) (entries : List (Named T)) (answer : Option ℕ) →
    MatchOption answer (first_named name (objects entries) ≡ None) (λ at. IsFound name entries 0 at) →
    IfSome answer (λ at. IsFirstAt name entries at)
found name entries None _ = tt
found name entries (Some at) is = found_at name entries at is

none : {T : Type 0} (name : List ℕ) (entries : List (Named T)) (answer : Option ℕ) →
    MatchOption answer (first_named name (objects entries) ≡ None) (λ at. IsFound name entries 0 at) →
    IfNone answer (first_named name (objects entries) ≡ None)
none name entries None is = is
none name entries (Some at) _ = tt

pub returns-clause-found : goal.returns-clause-found
returns-clause-found g c =
    rw c.place_of.ensures (found c.args.name.now c.args.shelf.now.items _ (places c.args.name.now c.args.shelf.now.items 0))

pub returns-clause-none : goal.returns-clause-none
returns-clause-none g c =
    rw c.place_of.ensures (none c.args.name.now c.args.shelf.now.items _ (places c.args.name.now c.args.shelf.now.items 0))
