-- Numbers of statistics, one at a time.
use Rattle.std.proofs.Common.{◌≡◌, ◌∙◌, ℕ, Bool, true, false, cond, ◌+◌, ◌*◌, ◌<◌, List, [], ◌∷◌, ◌++◌, length, drop, map, arith, ap, sym, refl}
use Rattle.std.proofs.lemmas.Bool.{lt-ltb}
use Rattle.std.specs.List.{range_with_len}
use Rattle.std.proofs.lemmas.List.FromFn.{length-map-range_with_len, map-range_with_len_more}
use Rattle.byteorder.specs.Endian.{little_number}
use Rattle.tv_items.specs.Buffers.{pushed_below}
use Rattle.tv_plan.specs.Balloon.{stat_at}

pub next_stat : (bytes : List ℕ) (stats now : List (ℕ × ℕ)) (n tag number : ℕ) (added : Bool) → n < 32 → stats ≡ map (stat_at bytes) (range_with_len 0 n)
    → tag ≡ little_number 2 (drop (10 * n) bytes) → number ≡ little_number 8 (drop (10 * n + 2) bytes)
    → ◌≡◌ {A = Bool × List (ℕ × ℕ)} (added, now) (pushed_below 32 stats (tag, number)) → now ≡ map (stat_at bytes) (range_with_len 0 (n + 1))
next_stat bytes stats now n tag number added few read tag_is number_is added_is =
    let pair : ℕ × ℕ = (tag, number) in
    let long : length stats ≡ n = ap length read ∙ length-map-range_with_len (stat_at bytes) 0 n in
    let test = lt-ltb (length stats) 32 (omega (arith, few, long)) in
    let now_is : now ≡ stats ++ pair ∷ [] =
    ap (λ (p : Bool × List (ℕ × ℕ)). p.1) added_is
    ∙ ap (λ (t : Bool). (cond {A = Bool × List (ℕ × ℕ)} t (true, stats ++ pair ∷ []) (false, stats)).1) test in
    let pair_is : pair ≡ stat_at bytes n = rw (tag_is, number_is) refl in
    now_is ∙ ap (λ (p : ℕ × ℕ). stats ++ p ∷ []) pair_is ∙ ap (λ (ps : List (ℕ × ℕ)). ps ++ stat_at bytes n ∷ []) read
    ∙ sym (map-range_with_len_more (stat_at bytes) 0 n n (omega arith))
