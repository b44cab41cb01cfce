-- Bytes of which a part is taken.
use Rattle.std.proofs.Common.{◌≡◌, ℕ, ◌+◌, List, ◌++◌, take, drop, sym, ap, ◌∙◌}
use Rattle.std.proofs.lemmas.List.{take-append-drop, drop-drop}

-- what is left is a part of it, and what is left after that
pub part_end : (bytes : List ℕ) (at count : ℕ) → drop at bytes ≡ take count (drop at bytes) ++ drop (at + count) bytes
part_end bytes at count =
    sym (take-append-drop count (drop at bytes))
    ∙ ap (λ rest. take count (drop at bytes) ++ rest) (drop-drop count at bytes)
