-- Lists in fixed buffers.
use Rattle.std.specs.Prelude.{ℕ, List, [], ◌∷◌, ◌++◌, length, Bool, true, false, nat_lt, if◌then◌else◌}

-- one member more where there are fewer than `most`, and whether it was added
abbrev pub pushed_below : {A : Type 0} → ℕ → List A → A → Bool × List A
pushed_below most xs x = if nat_lt (length xs) most then (true, xs ++ x ∷ []) else (false, xs)
