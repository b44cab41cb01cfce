use Rattle.std.proofs.Common.{◌≡◌, map, string_bytes}
use Rattle.std.specs.List.Sorted.{IsStrictlySortedBy}
use Rattle.std.specs.String.{string_cmp}
use Rattle.toml.specs.View.{table_view}
use Rattle.tv_machine_file.specs.Keys.{keys_in, unknown_keys}
use Rattle.tv_machine_file.proofs.keys.check_known.Given as goal

abbrev pub invariant-loop-key : goal.invariant-loop-key
invariant-loop-key l =
    record {
      unknown : unknown_keys l.kind (keys_in (table_view l.table)) ≡ unknown_keys l.kind (map string_bytes l.key-iterator);
      sorted : IsStrictlySortedBy string_cmp l.key-iterator;
    }
