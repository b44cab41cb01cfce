-- Tags with their numbers, one after the other.
use Rattle.std.proofs.Common.{◌≡◌, ◌∙◌, ℕ, Bool, true, false, cond, suc, ◌+◌, ◌-◌, ◌*◌, ◌<◌, ◌≤◌, List, [], ◌∷◌, ◌++◌, length, drop, arith, ap, sym, length-append}
use Rattle.std.proofs.lemmas.Bool.{lt-ltb}
use Rattle.tv_items.specs.Buffers.{pushed_below}
use Rattle.std.proofs.lemmas.List.{append_assoc, drop-drop}
use Rattle.byteorder.specs.Endian.{little_number}
use Rattle.tv_wire.specs.Reading.{pairs_read}

-- so many were read, and the others are still there
pub record AreRead (body : List ℕ) (count i at : ℕ) (pairs : List (ℕ × ℕ)) : Type 0 where
  pub at_is : at ≡ 10 * i
  pub within : i ≤ count
  pub length_is : length pairs ≡ i
  pub rest : pairs ++ pairs_read (count - i) (drop at body) ≡ pairs_read count body

-- one more is read
pub one_more : (body : List ℕ) (count i at : ℕ) (pairs : List (ℕ × ℕ)) → i < count
    → pairs ++ pairs_read (count - i) (drop at body)
    ≡ (pairs ++ (little_number 2 (drop at body), little_number 8 (drop 2 (drop at body))) ∷ []) ++ pairs_read (count - (i + 1)) (drop (at + 10) body)
one_more body count i at pairs more =
    let left : count - i ≡ suc (count - (i + 1)) = omega (arith, more) in
    let pair : ℕ × ℕ = (little_number 2 (drop at body), little_number 8 (drop 2 (drop at body))) in
    let later : drop 10 (drop at body) ≡ drop (at + 10) body = drop-drop 10 at body in
    ap (λ (n : ℕ). pairs ++ pairs_read n (drop at body)) left
    ∙ ap (λ (bs : List ℕ). pairs ++ pair ∷ pairs_read (count - (i + 1)) bs) later
    ∙ sym (append_assoc pairs (pair ∷ []) (pairs_read (count - (i + 1)) (drop (at + 10) body)))

pub next_read : (body : List ℕ) (pairs now : List (ℕ × ℕ)) (count i at tag value : ℕ) (added : Bool) → count ≤ 32 → i < count
    → AreRead body count i at pairs → tag ≡ little_number 2 (drop at body) → value ≡ little_number 8 (drop (at + 2) body)
    → ◌≡◌ {A = Bool × List (ℕ × ℕ)} (added, now) (pushed_below 32 pairs (tag, value)) → AreRead body count (i + 1) (at + 10) now
next_read body pairs now count i at tag value added few more read tag_is value_is added_is =
    let pair : ℕ × ℕ = (tag, value) in
    let test = lt-ltb (length pairs) 32 (omega (arith, few, more, read.length_is)) in
    let now_is : now ≡ pairs ++ pair ∷ [] =
    ap (λ (p : Bool × List (ℕ × ℕ)). p.1) added_is
    ∙ ap (λ (t : Bool). (cond {A = Bool × List (ℕ × ℕ)} t (true, pairs ++ pair ∷ []) (false, pairs)).1) test in
    rw (now_is, tag_is, value_is ∙ ap (λ (bs : List ℕ). little_number 8 bs) (sym (drop-drop 2 at body))) record {
      at_is = omega (arith, read.at_is);
      within = omega (arith, more);
      length_is = rw (length-append pairs ((little_number 2 (drop at body), little_number 8 (drop 2 (drop at body))) ∷ [])) (omega (arith, read.length_is));
      rest = sym (one_more body count i at pairs more) ∙ read.rest;
    }
