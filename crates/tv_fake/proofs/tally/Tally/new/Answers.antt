use Rattle.std.proofs.Common.{◌≡◌, Result, Ok, Err, true, refl}
use Rattle.std.specs.Result.{MatchResult, is_ok}
use Rattle.tv_fake.proofs.Zero.{zero_more}
use Rattle.tv_fake.proofs.tally.Tally.new.Goals as goal

is-ok : {T E : Type 0} (Q : T → Type 0) (answer : Result T E) → MatchResult answer Q (λ _. ⊥) → is_ok answer ≡ true
is-ok Q (Ok _) went = refl
is-ok Q (Err _) went = absurd went

pub loop-name-preserved : goal.loop-name-preserved
loop-name-preserved c =
    rw (c.push.ensures.items, is-ok _ c.push.result c.in_ok-map_err.ensures.cases)
    (zero_more c.loop-name.counts.items c.loop-name.yielded c.new.result c.in-Some.name (rw c.new.ensures refl) (rw c.new.ensures refl) c.loop-name.invariant)
