-- Bytes put after one another.
use Rattle.std.proofs.Common.{◌≡◌, ℕ, List, [], ◌++◌, Option, Some, None, refl, ap, append_assoc, append-nil}
use Rattle.tv_out.specs.Told.{appended}

-- no byte changes nothing
pub appended-nil : (told : Option (List ℕ)) → appended told [] ≡ told
appended-nil None = refl
appended-nil (Some held) = ap Some (append-nil held)

-- two pieces are one
pub appended-twice : (told : Option (List ℕ)) (first second : List ℕ) → appended (appended told first) second ≡ appended told (first ++ second)
appended-twice None first second = refl
appended-twice (Some held) first second = ap Some (append_assoc held first second)
