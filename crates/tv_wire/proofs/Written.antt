-- Tags with their numbers, written one after the other.
use Rattle.std.proofs.Common.{◌≡◌, ◌∙◌, ℕ, ◌+◌, ◌-◌, ◌*◌, ◌^◌, ◌<◌, ◌≤◌, List, [], ◌∷◌, ◌++◌, length, flat_map, drop, take, get_or, refl, ap, sym, arith, append-nil}
use Rattle.std.proofs.lemmas.List.{take_more, take_at, drop_at, drop_all, drop-drop, length-take, length-drop, append_assoc}
use Rattle.std.proofs.lemmas.List.Concat.{flat_map-append}
use Rattle.std.proofs.Math.Nat.{min-eq_left}
use borrow.Rule.Slice.PartMut.{put_mid, post_of}
use Rattle.tv_wire.specs.Spelling.{pair_bytes, FitPairs}

-- so many are written, and behind them the bytes are as they were
pub record AreWritten (old : List ℕ) (pairs : List (ℕ × ℕ)) (i at : ℕ) (out : List ℕ) : Type 0 where
  pub at_is : at ≡ 10 * i
  pub within : i ≤ length pairs
  pub fits : FitPairs (take i pairs)
  pub out_is : out ≡ flat_map pair_bytes (take i pairs) ++ drop at old

pub size_is : (pairs : List (ℕ × ℕ)) → length (flat_map pair_bytes pairs) ≡ 10 * length pairs
size_is [] = refl
size_is (p ∷ pairs) = let rest = size_is pairs in omega (arith, rest)

fit_more : (pairs : List (ℕ × ℕ)) (p : ℕ × ℕ) → FitPairs pairs → p.0 < 2 ^ 16 → p.1 < 2 ^ 64 → FitPairs (pairs ++ p ∷ [])
fit_more [] p fit tag value = (tag, value, tt)
fit_more (q ∷ pairs) p fit tag value = (fit.0, fit.1, fit_more pairs p fit.2 tag value)

-- the bytes with one more
bytes_more : (pairs : List (ℕ × ℕ)) (i : ℕ) → i < length pairs
    → flat_map pair_bytes (take (i + 1) pairs) ≡ flat_map pair_bytes (take i pairs) ++ pair_bytes (get_or pairs i (0, 0))
bytes_more pairs i more =
    let pair : ℕ × ℕ = get_or pairs i (0, 0) in
    ap (flat_map pair_bytes) (take_more pairs i (0, 0) more) ∙ flat_map-append pair_bytes (take i pairs) (pair ∷ [])

-- what was written behind the front of so many bytes
put_rest : (front rest old : List ℕ) (at : ℕ) → length front ≡ at → put_mid at (length (front ++ old) - at) (front ++ old) rest ≡ front ++ rest
put_rest front rest old at same =
    let none : post_of at (length (front ++ old) - at) (front ++ old) ≡ [] =
    drop_all (length (front ++ old) - at) (drop at (front ++ old)) (rw (length-drop at (front ++ old)) (omega arith)) in
    rw (none, append-nil rest, take_at front old at same) refl

pub next_written : (old out new : List ℕ) (pairs : List (ℕ × ℕ)) (i at : ℕ) → AreWritten old pairs i at out → i < length pairs
    → (get_or pairs i (0, 0)).0 < 2 ^ 16 → (get_or pairs i (0, 0)).1 < 2 ^ 64
    → new ≡ pair_bytes (get_or pairs i (0, 0)) ++ drop 10 (drop at out)
    → AreWritten old pairs (i + 1) (at + 10) (put_mid at (length out - at) out new)
next_written old out new pairs i at written more tag value new_is =
    let pair : ℕ × ℕ = get_or pairs i (0, 0) in
    let front : List ℕ = flat_map pair_bytes (take i pairs) in
    let count : length (take i pairs) ≡ i = length-take i pairs ∙ min-eq_left (omega (arith, more)) in
    let same : length front ≡ at = rw (size_is (take i pairs), count) (sym written.at_is) in
    let behind : drop 10 (drop at out) ≡ drop (at + 10) old =
    ap (λ (bs : List ℕ). drop 10 (drop at bs)) written.out_is ∙ ap (drop 10) (drop_at front (drop at old) at same) ∙ drop-drop 10 at old in
    let new_now : new ≡ pair_bytes pair ++ drop (at + 10) old = new_is ∙ ap (λ (bs : List ℕ). pair_bytes pair ++ bs) behind in
    let all : put_mid at (length out - at) out new ≡ front ++ (pair_bytes pair ++ drop (at + 10) old) =
    ap (λ (bs : List ℕ). put_mid at (length bs - at) bs new) written.out_is ∙ put_rest front new (drop at old) at same
    ∙ ap (λ (bs : List ℕ). front ++ bs) new_now in
    record {
      at_is = omega (arith, written.at_is);
      within = omega (arith, more);
      fits = rw (take_more pairs i (0, 0) more) (fit_more (take i pairs) pair written.fits tag value);
      out_is = all ∙ sym (append_assoc front (pair_bytes pair) (drop (at + 10) old))
          ∙ ap (λ (bs : List ℕ). bs ++ drop (at + 10) old) (sym (bytes_more pairs i more));
    }
