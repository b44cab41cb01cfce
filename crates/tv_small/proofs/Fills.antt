-- Random bytes, one piece at a time.
use Rattle.std.proofs.Common.{◌≡◌, ◌<◌, ◌≤◌, ◌+◌, ◌*◌, ◌-◌, ℕ, List, ◌++◌, drop, length, min, refl}
use Rattle.std.proofs.lemmas.List.{drop_all}
use Rattle.tv_base.specs.declared.limits.TheConstants.{PIECE_BYTES}
use Rattle.tv_script.specs.Scripts.{Over, ◌>>=◌}
use Rattle.tv_virtio.specs.declared.queue.Span.{Span}
use Rattle.tv_virtio.specs.Spans.{pieces, piece_count}
use Rattle.tv_vring.proofs.Pieces.{next_piece, length_pieces}
use Rattle.tv_plan.specs.Entropy.{random, fill_pieces}

pub fill_next : (s : Span) (n len : ℕ) (got : List ℕ) → n < piece_count s → len ≡ min (s.len - n * PIECE_BYTES) PIECE_BYTES
    → fill_pieces (drop n (pieces s)) got ≡ random len >>= λ bytes. fill_pieces (drop (n + 1) (pieces s)) (got ++ bytes)
unfolding fill_pieces
fill_next s n len got h e = rw (next_piece s n h, ← e) refl

pub fill_end : (s : Span) (n : ℕ) (got : List ℕ) → piece_count s ≤ n → fill_pieces (drop n (pieces s)) got ≡ Over got
unfolding fill_pieces
fill_end s n got h = let k : length (pieces s) ≤ n = rw length_pieces h in rw (drop_all n (pieces s) k) refl
