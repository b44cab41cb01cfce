-- The first unknown key of a table whose keys ascend is the least.
use Rattle.std.proofs.Common.{◌≡◌, ℕ, Bool, true, false, if◌then◌else◌, List, [], ◌∷◌, map, Option, Some, None, Ordering, Less, Equal, Greater, String, Global, string_bytes, nat_cmp, refl, ap}
use Rattle.std.specs.Cmp.Lexicographic.{slice_cmp}
use Rattle.std.specs.List.{AllByRecursion}
use Rattle.std.specs.List.Sorted.{IsStrictlySortedBy}
use Rattle.std.specs.Ordering.{match_ordering}
use Rattle.std.specs.String.{string_cmp}
use Rattle.tv_machine_file.specs.declared.fault.FileFault.TheVariants.{Unknown}
use Rattle.tv_machine_file.specs.declared.keys.TableKind.{TableKind}
use Rattle.tv_machine_file.specs.Keys.{is_among, known_keys, key_path, least, lesser, unknown_keys, unknown_fault}

-- a text before some others
abbrev pub IsBefore : List ℕ → List (List ℕ) → Type 0
IsBefore text = AllByRecursion (λ other. slice_cmp nat_cmp text other ≡ Less)

-- a text before another, if there is one
abbrev pub IsBeforeIt : List ℕ → Option (List ℕ) → Type 0
IsBeforeIt text None = Unit {0}
IsBeforeIt text (Some other) = slice_cmp nat_cmp text other ≡ Less

either : (o : Ordering) (text a b : List ℕ) → slice_cmp nat_cmp text a ≡ Less → slice_cmp nat_cmp text b ≡ Less
    → slice_cmp nat_cmp text (match_ordering o a a b) ≡ Less
either Less text a b before_a before_b = before_a
either Equal text a b before_a before_b = before_a
either Greater text a b before_a before_b = before_b

before_lesser : (text a : List ℕ) (o : Option (List ℕ)) → slice_cmp nat_cmp text a ≡ Less → IsBeforeIt text o → slice_cmp nat_cmp text (lesser a o) ≡ Less
before_lesser text a None before more = before
before_lesser text a (Some b) before more = either (slice_cmp nat_cmp a b) text a b before more

before_least : (text : List ℕ) (others : List (List ℕ)) → IsBefore text others → IsBeforeIt text (least others)
before_least text [] before = tt
before_least text (x ∷ xs) before = before_lesser text x (least xs) before.0 (before_least text xs before.1)

lesser_is : (text : List ℕ) (o : Option (List ℕ)) → IsBeforeIt text o → lesser text o ≡ text
lesser_is text None before = refl
lesser_is text (Some other) before = rw before refl

-- a text before all others is the least
least_is : (text : List ℕ) (others : List (List ℕ)) → IsBefore text others → least (text ∷ others) ≡ Some text
least_is text others before = ap Some (lesser_is text (least others) (before_least text others before))

kept : (known : Bool) (text key : List ℕ) (keys : List (List ℕ)) → slice_cmp nat_cmp text key ≡ Less → IsBefore text keys
    → IsBefore text (if known then keys else key ∷ keys)
kept true text key keys before more = more
kept false text key keys before more = (before, more)

before_unknown : (kind : TableKind) (text : List ℕ) (keys : List (String Global)) → AllByRecursion (λ key. slice_cmp nat_cmp text (string_bytes key) ≡ Less) keys
    → IsBefore text (unknown_keys kind (map string_bytes keys))
before_unknown kind text [] before = tt
before_unknown kind text (key ∷ keys) before =
    kept (is_among (string_bytes key) (known_keys kind)) text (string_bytes key) (unknown_keys kind (map string_bytes keys)) before.0 (before_unknown kind text keys before.1)

-- an unknown key before all others of its table is the fault
pub first_unknown : (kind : TableKind) (path : List ℕ) (key : String Global) (keys : List (String Global)) → IsStrictlySortedBy string_cmp (key ∷ keys)
    → is_among (string_bytes key) (known_keys kind) ≡ false
    → unknown_fault path (least (unknown_keys kind (map string_bytes (key ∷ keys)))) ≡ Unknown (key_path path (string_bytes key)) ∷ []
unfolding IsStrictlySortedBy
first_unknown kind path key keys sorted unknown =
    rw unknown (ap (unknown_fault path) (least_is (string_bytes key) (unknown_keys kind (map string_bytes keys)) (before_unknown kind (string_bytes key) keys sorted.0)))
