-- The bytes of a chain, one piece and one buffer at a time.
use Rattle.std.proofs.Common.{◌≡◌, ◌<◌, ◌≤◌, ◌+◌, ◌*◌, ◌%◌, ◌^◌, ◌-◌, ℕ, suc, List, ◌∷◌, ◌++◌, drop, take, map, length, get_or, refl, ap, sym, ◌∙◌, arith, min, ◌⊎◌, inl, inr}
use Rattle.std.proofs.Math.Seq.{drop-cons, drop-drop}
use Rattle.std.proofs.lemmas.List.{drop_all, length-drop}
use Rattle.std.specs.List.{range_with_len}
use Rattle.std.proofs.lemmas.List.FromFn.{get_or-map-range_with_len, length-map-range_with_len}
use Rattle.std.proofs.lemmas.Bool.{cases_lt}
use Rattle.tv_base.specs.declared.limits.TheConstants.{PIECE_BYTES}
use Rattle.tv_script.specs.Scripts.{Over, ◌>>=◌}
use Rattle.tv_virtio.specs.declared.queue.Span.{Span}
use Rattle.tv_virtio.specs.Spans.{piece, pieces, piece_count}
use Rattle.tv_virtio.specs.Queue.{read, write, read_pieces, read_spans, write_pieces, write_spans}

pub length_pieces : (s : Span) → length (pieces s) ≡ piece_count s
unfolding pieces
length_pieces s = length-map-range_with_len (piece s) 0 (piece_count s)

pub next_piece : (s : Span) (n : ℕ) → n < piece_count s → drop n (pieces s) ≡ piece s n ∷ drop (n + 1) (pieces s)
unfolding pieces
next_piece s n h =
    let k : n < length (map (piece s) (range_with_len 0 (piece_count s))) = rw length-map-range_with_len h in
    let e = drop-cons (pieces s) n (piece s n) k in
    let f = get_or-map-range_with_len (piece s) 0 (piece_count s) n n (piece s n) h (omega arith) in
    let k : suc n ≡ n + 1 = omega arith in
    rw (e, f, k) refl

-- the next piece is read
pub read_pieces_next : (s : Span) (n addr len : ℕ) (got : List ℕ) → n < piece_count s → addr ≡ (s.addr + n * PIECE_BYTES) % 2 ^ 64 → len ≡ min (s.len - n * PIECE_BYTES) PIECE_BYTES
    → read_pieces (drop n (pieces s)) got ≡ read addr len >>= λ bytes. read_pieces (drop (n + 1) (pieces s)) (got ++ bytes)
unfolding read_pieces
read_pieces_next s n addr len got h e f = rw (next_piece s n h, ← e, ← f) refl

-- no piece is left
pub read_pieces_end : (s : Span) (n : ℕ) (got : List ℕ) → piece_count s ≤ n → read_pieces (drop n (pieces s)) got ≡ Over got
unfolding read_pieces
read_pieces_end s n got h = let k : length (pieces s) ≤ n = rw length_pieces h in rw (drop_all n (pieces s) k) refl

pub read_spans_next : (ss : List Span) (n : ℕ) (none : Span) (got : List ℕ) → n < length ss → read_spans (drop n ss) got ≡ read_pieces (pieces (get_or ss n none)) got >>= read_spans (drop (n + 1) ss)
unfolding read_spans
read_spans_next ss n none got h = let k : n + 1 ≡ suc n = omega arith in rw (drop-cons ss n none, k) refl

pub read_spans_end : (ss : List Span) (n : ℕ) (got : List ℕ) → length ss ≤ n → read_spans (drop n ss) got ≡ Over got
unfolding read_spans
read_spans_end ss n got h = rw (drop_all n ss h) refl

-- two places past which nothing differs
at_or_past : (bytes : List ℕ) (a b len : ℕ) → length bytes ≡ len → (a ≡ b) ⊎ ((len ≤ a) × (len ≤ b)) → drop a bytes ≡ drop b bytes
at_or_past bytes a b len l (inl e) = ap (λ (n : ℕ). drop n bytes) e
at_or_past bytes a b len l (inr h) = drop_all a bytes (rw l h.0) ∙ sym (drop_all b bytes (rw l h.1))

piece_ends : (n len : ℕ) → (n * PIECE_BYTES + min (len - n * PIECE_BYTES) PIECE_BYTES ≡ (n + 1) * PIECE_BYTES) ⊎ ((len ≤ n * PIECE_BYTES + min (len - n * PIECE_BYTES) PIECE_BYTES) × (len ≤ (n + 1) * PIECE_BYTES))
piece_ends n len =
    elim (cases_lt (len - n * PIECE_BYTES) PIECE_BYTES) [ inl h ↦ inr (omega arith, omega arith) | inr h ↦ inl (omega arith) ]

drop_piece : (n : ℕ) (bytes : List ℕ) (len : ℕ) → length bytes ≡ len → drop (min (len - n * PIECE_BYTES) PIECE_BYTES) (drop (n * PIECE_BYTES) bytes) ≡ drop ((n + 1) * PIECE_BYTES) bytes
drop_piece n bytes len l =
    drop-drop (min (len - n * PIECE_BYTES) PIECE_BYTES) (n * PIECE_BYTES) bytes ∙ at_or_past bytes (n * PIECE_BYTES + min (len - n * PIECE_BYTES) PIECE_BYTES) ((n + 1) * PIECE_BYTES) len l (piece_ends n len)

-- the next piece is written
pub write_pieces_next : (s : Span) (n addr : ℕ) (bytes part : List ℕ) → n < piece_count s → addr ≡ (s.addr + n * PIECE_BYTES) % 2 ^ 64 → length bytes ≡ s.len
    → part ≡ take (min (s.len - n * PIECE_BYTES) PIECE_BYTES) (drop (n * PIECE_BYTES) bytes)
    → write_pieces (drop n (pieces s)) (drop (n * PIECE_BYTES) bytes) ≡ write addr part >>= λ _. write_pieces (drop (n + 1) (pieces s)) (drop ((n + 1) * PIECE_BYTES) bytes)
unfolding write_pieces
write_pieces_next s n addr bytes part h e l p =
    let d : drop (min (s.len - n * PIECE_BYTES) PIECE_BYTES) (drop (n * PIECE_BYTES) bytes) ≡ drop ((n + 1) * PIECE_BYTES) bytes = drop_piece n bytes s.len l in
    rw (next_piece s n h, ← e, ← p, d) refl

pub write_pieces_end : (s : Span) (n : ℕ) (bytes : List ℕ) → piece_count s ≤ n → write_pieces (drop n (pieces s)) bytes ≡ Over tt
unfolding write_pieces
write_pieces_end s n bytes h = let k : length (pieces s) ≤ n = rw length_pieces h in rw (drop_all n (pieces s) k) refl

pub write_spans_next : (ss : List Span) (n at len : ℕ) (none : Span) (bytes part : List ℕ) → n < length ss → len ≡ min (get_or ss n none).len (length bytes - at) → part ≡ take len (drop at bytes)
    → write_spans (drop n ss) (drop at bytes) ≡ write_pieces (pieces (record { addr = (get_or ss n none).addr; len = len })) part >>= λ _. write_spans (drop (n + 1) ss) (drop (at + len) bytes)
unfolding write_spans
write_spans_next ss n at len none bytes part h e p =
    let k : n + 1 ≡ suc n = omega arith in
    rw (drop-cons ss n none, k, length-drop, ← e, drop-drop, ← p) refl

pub write_spans_end : (ss : List Span) (n : ℕ) (bytes : List ℕ) → length ss ≤ n → write_spans (drop n ss) bytes ≡ Over tt
unfolding write_spans
write_spans_end ss n bytes h = rw (drop_all n ss h) refl
