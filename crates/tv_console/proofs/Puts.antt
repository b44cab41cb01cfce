-- Bytes that are put, one piece at a time.
use Rattle.std.proofs.Common.{◌≡◌, ◌<◌, ◌≤◌, ◌+◌, ◌*◌, ◌-◌, ℕ, List, drop, take, length, min, true, refl, ap, sym, ◌∙◌, arith, ◌⊎◌, inl, inr}
use Rattle.std.proofs.Math.Seq.{drop-drop}
use Rattle.std.proofs.lemmas.List.{drop_all}
use Rattle.std.proofs.lemmas.Bool.{cases_lt}
use Rattle.tv_base.specs.declared.limits.TheConstants.{PIECE_BYTES}
use Rattle.tv_script.specs.Scripts.{Over, ◌>>=◌}
use Rattle.tv_virtio.specs.declared.queue.Span.{Span}
use Rattle.tv_virtio.specs.Spans.{pieces, piece_count}
use Rattle.tv_vring.proofs.Pieces.{next_piece, length_pieces}
use Rattle.tv_plan.specs.Console.{put, put_on, put_pieces}

-- two places past which nothing differs
at_or_past : (bytes : List ℕ) (a b len : ℕ) → length bytes ≡ len → (a ≡ b) ⊎ ((len ≤ a) × (len ≤ b)) → drop a bytes ≡ drop b bytes
at_or_past bytes a b len l (inl e) = ap (λ (n : ℕ). drop n bytes) e
at_or_past bytes a b len l (inr h) = drop_all a bytes (rw l h.0) ∙ sym (drop_all b bytes (rw l h.1))

piece_ends : (n len : ℕ) → (n * PIECE_BYTES + min (len - n * PIECE_BYTES) PIECE_BYTES ≡ (n + 1) * PIECE_BYTES) ⊎ ((len ≤ n * PIECE_BYTES + min (len - n * PIECE_BYTES) PIECE_BYTES) × (len ≤ (n + 1) * PIECE_BYTES))
piece_ends n len =
    elim (cases_lt (len - n * PIECE_BYTES) PIECE_BYTES) [ inl h ↦ inr (omega arith, omega arith) | inr h ↦ inl (omega arith) ]

-- past a piece
drop_piece : (n : ℕ) (bytes : List ℕ) (len : ℕ) → length bytes ≡ len → drop (min (len - n * PIECE_BYTES) PIECE_BYTES) (drop (n * PIECE_BYTES) bytes) ≡ drop ((n + 1) * PIECE_BYTES) bytes
drop_piece n bytes len l =
    drop-drop (min (len - n * PIECE_BYTES) PIECE_BYTES) (n * PIECE_BYTES) bytes ∙ at_or_past bytes (n * PIECE_BYTES + min (len - n * PIECE_BYTES) PIECE_BYTES) ((n + 1) * PIECE_BYTES) len l (piece_ends n len)

-- the next piece is put
pub put_pieces_next : (s : Span) (n : ℕ) (bytes part : List ℕ) → n < piece_count s → length bytes ≡ s.len
    → part ≡ take (min (s.len - n * PIECE_BYTES) PIECE_BYTES) (drop (n * PIECE_BYTES) bytes)
    → put_pieces (drop n (pieces s)) (drop (n * PIECE_BYTES) bytes) ≡ put part >>= put_on (put_pieces (drop (n + 1) (pieces s)) (drop ((n + 1) * PIECE_BYTES) bytes))
unfolding put_pieces
put_pieces_next s n bytes part h l p =
    let d : drop (min (s.len - n * PIECE_BYTES) PIECE_BYTES) (drop (n * PIECE_BYTES) bytes) ≡ drop ((n + 1) * PIECE_BYTES) bytes = drop_piece n bytes s.len l in
    rw (next_piece s n h, ← p, d) refl

-- no piece is left
pub put_pieces_end : (s : Span) (n : ℕ) (bytes : List ℕ) → piece_count s ≤ n → put_pieces (drop n (pieces s)) bytes ≡ Over true
unfolding put_pieces
put_pieces_end s n bytes h = let k : length (pieces s) ≤ n = rw length_pieces h in rw (drop_all n (pieces s) k) refl
