-- What a give writes.
use Rattle.std.proofs.Common.{◌≡◌, ◌≤◌, ◌<◌, ◌+◌, ◌-◌, ◌*◌, ◌^◌, ◌∙◌, ℕ, zero, suc, min, List, [], ◌∷◌, ◌++◌, length, take, drop, map, refl, ap, sym, subst, arith, inl, inr}
use Rattle.std.proofs.Math.Nat.{mod-eq_of_lt}
use Rattle.std.proofs.lemmas.List.{length-take-le, length-drop, take-append-drop}
use Rattle.std.proofs.lemmas.List.Sums.{sum_by-append}
use Rattle.std.specs.List.{range_with_len}
use Rattle.tv_base.specs.declared.limits.TheConstants.{PIECE_BYTES}
use Rattle.tv_script.specs.Scripts.{Script, Over, ◌>>=◌}
use Rattle.tv_virtio.specs.declared.queue.QueueStop.{QueueStop}
use Rattle.tv_virtio.specs.declared.queue.Span.{Span}
use Rattle.tv_virtio.specs.Spans.{total, piece, piece_count, pieces}
use Rattle.tv_virtio.specs.Queue.{write_pieces, write_spans}
use Rattle.tv_quiet.specs.World.{World, bytes_at, written, perform}
use Rattle.tv_quiet.specs.Meaning.{Apart, AllApart, IsSpread, spans_bytes}
use Rattle.tv_quiet.proofs.Memory.{written_same, written_append, written_none, written_outside, bytes_at_same, bytes_at_written}
use Rattle.tv_quiet.proofs.Leaving.{perform_value}

-- 1. Pieces

pub total_first : (s : Span) (ss : List Span) → total (s ∷ ss) ≡ s.len + total ss
total_first s ss = sum_by-append (λ (s : Span). s.len) (s ∷ []) ss ∙ ap (λ (n : ℕ). n + total ss) (omega arith)

-- pieces that lie one after the other from a place on
unfoldable pub Consecutive : ℕ → List Span → Type 0
Consecutive at [] = Unit {0}
Consecutive at (p ∷ ps) = (p.addr ≡ at) × Consecutive (at + p.len) ps

abbrev pub pieces_from : Span → ℕ → ℕ → List Span
pieces_from s n k = map (piece s) (range_with_len n k)

consecutive_from : (s : Span) (n k : ℕ) → n + k ≡ piece_count s → s.addr + s.len ≤ 2 ^ 64 → Consecutive (s.addr + n * PIECE_BYTES) (pieces_from s n k)
unfolding Consecutive
consecutive_from s n zero e h = tt
consecutive_from s n (suc zero) e h = (mod-eq_of_lt (omega arith), tt)
consecutive_from s n (suc (suc k)) e h =
    let next : s.addr + (n + 1) * PIECE_BYTES ≡ s.addr + n * PIECE_BYTES + min (s.len - n * PIECE_BYTES) PIECE_BYTES = omega arith in
    (mod-eq_of_lt (omega arith), subst (λ (a : ℕ). Consecutive a (pieces_from s (n + 1) (suc k))) next (consecutive_from s (n + 1) (suc k) (omega arith) h))

total_from : (s : Span) (n k : ℕ) → n + k ≡ piece_count s → total (pieces_from s n k) ≡ s.len - n * PIECE_BYTES
total_from s n zero e = omega arith
total_from s n (suc k) e =
    let r : total (pieces_from s (n + 1) k) ≡ s.len - (n + 1) * PIECE_BYTES = total_from s (n + 1) k (omega arith) in
    total_first (piece s n) (pieces_from s (n + 1) k) ∙ ap (λ (m : ℕ). min (s.len - n * PIECE_BYTES) PIECE_BYTES + m) r ∙ omega arith

pub consecutive_pieces : (s : Span) → s.addr + s.len ≤ 2 ^ 64 → Consecutive s.addr (pieces s)
unfolding pieces
consecutive_pieces s h = subst (λ (a : ℕ). Consecutive a (pieces_from s 0 (piece_count s))) (omega arith) (consecutive_from s 0 (piece_count s) (omega arith) h)

pub total_pieces : (s : Span) → total (pieces s) ≡ s.len
unfolding pieces
total_pieces s = total_from s 0 (piece_count s) (omega arith) ∙ omega arith

-- a script that only writes: what memory is then, address by address
pub record Wrote (w : World) (s : Script QueueStop (Unit {0})) (after : ℕ → ℕ) : Type 0 where
  pub memory : ℕ → ℕ
  pub is : perform w s ≡ record { world = record w { memory = memory }; end = Over tt }
  pub to : (x : ℕ) → memory x ≡ after x

wrote_pieces : (w : World) (ps : List Span) (at : ℕ) (bytes : List ℕ) → Consecutive at ps → length bytes ≡ total ps → Wrote w (write_pieces ps bytes) (written w.memory at bytes)
unfolding perform write_pieces ◌>>=◌ Consecutive
wrote_pieces w [] at bytes c e = record { memory = w.memory; is = refl; to = λ x. sym (written_none w.memory at bytes x e) }
wrote_pieces w (p ∷ ps) at bytes c e =
    let t : total (p ∷ ps) ≡ p.len + total ps = total_first p ps in
    let k : p.len ≤ length bytes = omega arith in
    let rest = wrote_pieces (record w { memory = written w.memory p.addr (take p.len bytes) }) ps (at + p.len) (drop p.len bytes) c.1 (length-drop p.len bytes ∙ omega arith) in
    record {
      memory = rest.memory;
      is = rest.is;
      to = λ x.
          rest.to x
          ∙ ap (λ (a : ℕ). written (written w.memory a (take p.len bytes)) (at + p.len) (drop p.len bytes) x) c.0
          ∙ ap (λ (n : ℕ). written (written w.memory at (take p.len bytes)) (at + n) (drop p.len bytes) x) (sym (length-take-le p.len bytes k))
          ∙ written_append w.memory at (take p.len bytes) (drop p.len bytes) x
          ∙ ap (λ (bs : List ℕ). written w.memory at bs x) (take-append-drop p.len bytes);
    }

-- 2. Buffers

-- memory with these bytes in buffers, one after the other
pub filled : (ℕ → ℕ) → List Span → List ℕ → ℕ → ℕ
filled m [] bytes = m
filled m (s ∷ ss) bytes = filled (written m s.addr (take s.len bytes)) ss (drop s.len bytes)

filled_same : (f g : ℕ → ℕ) (ss : List Span) (bytes : List ℕ) → ((x : ℕ) → f x ≡ g x) → (x : ℕ) → filled f ss bytes x ≡ filled g ss bytes x
unfolding filled
filled_same f g [] bytes h x = h x
filled_same f g (s ∷ ss) bytes h x =
    filled_same (written f s.addr (take s.len bytes)) (written g s.addr (take s.len bytes)) ss (drop s.len bytes) (λ y. written_same f g s.addr (take s.len bytes) y (h y)) x

spans_next : (s : Span) (ss : List Span) (bytes : List ℕ) → s.len ≤ length bytes
    → write_spans (s ∷ ss) bytes ≡ write_pieces (pieces (record { addr = s.addr; len = s.len })) (take s.len bytes) >>= λ _. write_spans ss (drop s.len bytes)
unfolding write_spans
spans_next s ss bytes h = let same : min s.len (length bytes) ≡ s.len = omega arith in rw same refl

pub wrote_spans : (w : World) (ss : List Span) (bytes : List ℕ) → IsSpread ss → length bytes ≡ total ss → Wrote w (write_spans ss bytes) (filled w.memory ss bytes)
unfolding perform write_spans filled
wrote_spans w [] bytes c e = record { memory = w.memory; is = refl; to = λ x. refl }
wrote_spans w (s ∷ ss) bytes c e =
    let t : total (s ∷ ss) ≡ s.len + total ss = total_first s ss in
    let k : s.len ≤ length bytes = omega arith in
    let whole : length (take s.len bytes) ≡ s.len = length-take-le s.len bytes k in
    let part : Span = record { addr = s.addr; len = s.len } in
    let one = wrote_pieces w (pieces part) s.addr (take s.len bytes) (consecutive_pieces part c.0) (whole ∙ sym (total_pieces part)) in
    let rest = wrote_spans (record w { memory = one.memory }) ss (drop s.len bytes) c.2 (length-drop s.len bytes ∙ omega arith) in
    record {
      memory = rest.memory;
      is =
          ap (λ (u : Script QueueStop (Unit {0})). perform w u) (spans_next s ss bytes k)
          ∙ perform_value w (record w { memory = one.memory }) (write_pieces (pieces part) (take s.len bytes)) tt (λ _. write_spans ss (drop s.len bytes)) one.is
          ∙ rest.is;
      to = λ x. rest.to x ∙ filled_same one.memory (written w.memory s.addr (take s.len bytes)) ss (drop s.len bytes) one.to x;
    }

-- what lies outside stays
pub filled_outside : (m : ℕ → ℕ) (ss : List Span) (bytes : List ℕ) (x : ℕ) → AllApart ss x 1 → length bytes ≡ total ss → filled m ss bytes x ≡ m x
unfolding filled
filled_outside m [] bytes x a e = refl
filled_outside m (s ∷ ss) bytes x a e =
    let t : total (s ∷ ss) ≡ s.len + total ss = total_first s ss in
    let k : s.len ≤ length bytes = omega arith in
    let whole : length (take s.len bytes) ≡ s.len = length-take-le s.len bytes k in
    filled_outside (written m s.addr (take s.len bytes)) ss (drop s.len bytes) x a.1 (length-drop s.len bytes ∙ omega arith)
    ∙ written_outside m s.addr (take s.len bytes) x (subst (λ (n : ℕ). Apart s.addr n x 1) (sym whole) a.0)

-- a byte of a place from which buffers are apart
apart_byte : (a n b k x : ℕ) → Apart a n b k → b ≤ x → x < b + k → Apart a n x 1
apart_byte a n b k x (inl h) l r = inl (omega arith)
apart_byte a n b k x (inr h) l r = inr (omega arith)

pub all_apart_byte : (ss : List Span) (b k x : ℕ) → AllApart ss b k → b ≤ x → x < b + k → AllApart ss x 1
all_apart_byte [] b k x a l r = tt
all_apart_byte (s ∷ ss) b k x a l r = (apart_byte s.addr s.len b k x a.0 l r, all_apart_byte ss b k x a.1 l r)

-- the buffers hold the bytes
pub filled_bytes : (m : ℕ → ℕ) (ss : List Span) (bytes : List ℕ) → IsSpread ss → length bytes ≡ total ss → spans_bytes (filled m ss bytes) ss ≡ bytes
unfolding filled
filled_bytes m [] [] c e = refl
filled_bytes m [] (b ∷ bytes) c e = absurd (omega arith)
filled_bytes m (s ∷ ss) bytes c e =
    let t : total (s ∷ ss) ≡ s.len + total ss = total_first s ss in
    let k : s.len ≤ length bytes = omega arith in
    let whole : length (take s.len bytes) ≡ s.len = length-take-le s.len bytes k in
    let left : length (drop s.len bytes) ≡ total ss = length-drop s.len bytes ∙ omega arith in
    let m2 : ℕ → ℕ = written m s.addr (take s.len bytes) in
    let one : bytes_at (filled m2 ss (drop s.len bytes)) s.addr s.len ≡ take s.len bytes =
    bytes_at_same (filled m2 ss (drop s.len bytes)) m2 s.addr s.len (λ x l r. filled_outside m2 ss (drop s.len bytes) x (all_apart_byte ss s.addr s.len x c.1 l r) left)
    ∙ ap (λ (n : ℕ). bytes_at m2 s.addr n) (sym whole) ∙ bytes_at_written m s.addr (take s.len bytes) in
    ap (λ (bs : List ℕ). bs ++ spans_bytes (filled m2 ss (drop s.len bytes)) ss) one
    ∙ ap (λ (bs : List ℕ). take s.len bytes ++ bs) (filled_bytes m2 ss (drop s.len bytes) c.2 left)
    ∙ take-append-drop s.len bytes
