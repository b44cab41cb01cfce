-- Pages of a request, one at a time.
use Rattle.std.proofs.Common.{◌≡◌, ◌<◌, ◌≤◌, ◌+◌, ◌-◌, ◌/◌, ℕ, suc, List, ◌∷◌, take, drop, map, length, refl, arith}
use Rattle.std.proofs.Math.Seq.{drop-cons}
use Rattle.std.proofs.lemmas.List.{drop_all, take_all, length-drop}
use Rattle.std.specs.List.{range_with_len}
use Rattle.std.proofs.lemmas.List.FromFn.{get_or-map-range_with_len, length-map-range_with_len}
use Rattle.tv_items.specs.declared.action.Action.{Action}
use Rattle.tv_script.specs.Scripts.{Over, Ask, ◌>>=◌}
use Rattle.tv_virtio.specs.Queue.{heard_done}
use Rattle.tv_plan.specs.Balloon.{page_at, page_numbers, each_page}

-- what is left of a list
pub rest_of : (bytes : List ℕ) (n : ℕ) → take (length bytes - n) (drop n bytes) ≡ drop n bytes
rest_of bytes n = take_all (length bytes - n) (drop n bytes) (rw length-drop (omega arith))

next_page : (bytes : List ℕ) (n : ℕ) → n < length bytes / 4 → drop n (page_numbers bytes) ≡ page_at bytes n ∷ drop (n + 1) (page_numbers bytes)
next_page bytes n h =
    let k : n < length (map (page_at bytes) (range_with_len 0 (length bytes / 4))) = rw length-map-range_with_len h in
    let e = drop-cons (page_numbers bytes) n 0 k in
    let f = get_or-map-range_with_len (page_at bytes) 0 (length bytes / 4) n n 0 h (omega arith) in
    let k : suc n ≡ n + 1 = omega arith in
    rw (e, f, k) refl

-- the next page moves
pub each_page_next : (ask : ℕ → Action) (bytes : List ℕ) (n page : ℕ) → n < length bytes / 4 → page ≡ page_at bytes n
    → each_page ask (drop n (page_numbers bytes)) ≡ Ask (ask page) heard_done >>= λ _. each_page ask (drop (n + 1) (page_numbers bytes))
unfolding each_page
each_page_next ask bytes n page h e = rw (next_page bytes n h, ← e) refl

-- no page is left
pub each_page_end : (ask : ℕ → Action) (bytes : List ℕ) (n : ℕ) → length bytes / 4 ≤ n → each_page ask (drop n (page_numbers bytes)) ≡ Over tt
unfolding each_page
each_page_end ask bytes n h = let k : length (page_numbers bytes) ≤ n = rw length-map-range_with_len h in rw (drop_all n (page_numbers bytes) k) refl
