-- The keys of a table.
use Rattle.std.proofs.Common.{◌≡◌, Some, List, [], ◌∷◌, ◌++◌, map, String, Global, string_bytes, refl, ap, length, arith}
use Rattle.std.specs.Map.{keys_of}
use Rattle.toml.specs.declared.value.Value.{Value}
use Rattle.toml.specs.View.{items_view, members_view}
use Rattle.tv_machine_file.specs.declared.fault.FileFault.{FileFault}
use Rattle.tv_machine_file.specs.Keys.{first, item_count, keys_in}

pub keys_in_view : (es : List (String Global × Value)) → keys_in (members_view es) ≡ map string_bytes (keys_of es)
keys_in_view [] = refl
keys_in_view (e ∷ es) = ap (λ ks. string_bytes e.0 ∷ ks) (keys_in_view es)

pub item_count_view : (vs : List Value) → item_count (items_view vs) ≡ length vs
item_count_view [] = refl
item_count_view (v ∷ vs) = omega (arith, item_count_view vs)

-- the first fault of two lists is that of the first one, if it has one
pub first_append : (a b : List FileFault) (f : FileFault) → first a ≡ Some f → first (a ++ b) ≡ Some f
first_append [] b f is = absurd (cc)
first_append (x ∷ a) b f is = is
