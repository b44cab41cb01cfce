-- A give of fewer bytes than the chain has room for.
use Rattle.std.proofs.Common.{◌≡◌, ◌≤◌, ◌+◌, ◌-◌, ◌^◌, ◌∙◌, ℕ, min, List, [], ◌∷◌, length, take, drop, refl, ap, arith, inl, inr}
use Rattle.std.proofs.lemmas.List.{length-drop}
use Rattle.tv_script.specs.Scripts.{Script, Over, ◌>>=◌}
use Rattle.tv_virtio.specs.declared.queue.QueueRegs.{QueueRegs}
use Rattle.tv_virtio.specs.declared.queue.QueueStop.{QueueStop}
use Rattle.tv_virtio.specs.declared.queue.Span.{Span}
use Rattle.tv_virtio.specs.Spans.{first, pieces, total}
use Rattle.tv_virtio.specs.Queue.{give_chain, hand_back, write_pieces, write_spans}
use Rattle.tv_quiet.specs.World.{World, perform}
use Rattle.tv_quiet.specs.Meaning.{Apart, AllApart, GivenSo, IsQuiet, IsSpread, cut, is_wanted}
use Rattle.tv_quiet.proofs.Filled.{total_first}
use Rattle.tv_quiet.proofs.Rounds.{gave}

-- writing them touches the first bytes of the buffers alone
write_cut : (ss : List Span) (bytes : List ℕ) → write_spans ss bytes ≡ write_spans (cut (length bytes) ss) bytes
unfolding write_spans
write_cut [] bytes = refl
write_cut (s ∷ ss) bytes =
    let n : ℕ = length bytes in
    let part : Span = first n s in
    let rest : List ℕ = drop part.len bytes in
    let same : min s.len n ≡ min (min s.len n) n = omega arith in
    let left : length rest ≡ n - s.len = length-drop part.len bytes ∙ omega arith in
    ap (λ (u : Script QueueStop (Unit {0})). write_pieces (pieces part) (take part.len bytes) >>= λ _. u)
    (write_cut ss rest ∙ ap (λ (k : ℕ). write_spans (cut k ss) rest) left)
    ∙ ap (λ (len : ℕ). write_pieces (pieces (record { addr = s.addr; len = len })) (take len bytes) >>= λ _. write_spans (cut (n - s.len) ss) (drop len bytes)) same

total_cut : (ss : List Span) (n : ℕ) → n ≤ total ss → n ≡ total (cut n ss)
total_cut [] n h = omega (arith, h)
total_cut (s ∷ ss) n h =
    let t : total (s ∷ ss) ≡ s.len + total ss = total_first s ss in
    let u : total (cut n (s ∷ ss)) ≡ min s.len n + total (cut (n - s.len) ss) = total_first (first n s) (cut (n - s.len) ss) in
    let rest : n - s.len ≡ total (cut (n - s.len) ss) = total_cut ss (n - s.len) (omega (arith, t, h)) in
    omega (arith, t, u, rest, h)

-- they are apart from what the buffers are apart from
apart_less : (a n b k m j : ℕ) → m ≤ n → j ≤ k → Apart a n b k → Apart a m b j
apart_less a n b k m j near far (inl h) = inl (omega (arith, near, h))
apart_less a n b k m j near far (inr h) = inr (omega (arith, far, h))

apart_cut : (ss : List Span) (n at k j : ℕ) → j ≤ k → AllApart ss at k → AllApart (cut n ss) at j
apart_cut [] n at k j less h = tt
apart_cut (s ∷ ss) n at k j less h =
    (apart_less s.addr s.len at k (min s.len n) j (omega arith) less h.0, apart_cut ss (n - s.len) at k j less h.1)

spread_cut : (ss : List Span) (n : ℕ) → IsSpread ss → IsSpread (cut n ss)
spread_cut [] n h = tt
spread_cut (s ∷ ss) n h =
    let whole : s.addr + s.len ≤ 2 ^ 64 = h.0 in
    let within : s.addr + min s.len n ≤ 2 ^ 64 = omega (arith, whole) in
    (within, apart_cut ss (n - s.len) s.addr s.len (min s.len n) (omega arith) h.1, spread_cut ss (n - s.len) h.2)

quiet_cut : (q : QueueRegs) (used : ℕ) (ss : List Span) (n : ℕ) → IsQuiet q used ss → IsQuiet q used (cut n ss)
quiet_cut q used ss n h = record {
  spread = spread_cut ss n h.spread;
  buffers_element = apart_cut ss n _ 8 8 (omega arith) h.buffers_element;
  buffers_index = apart_cut ss n _ 2 2 (omega arith) h.buffers_index;
  buffers_flags = apart_cut ss n _ 2 2 (omega arith) h.buffers_flags;
  element_index = h.element_index;
  element_flags = h.element_flags;
  index_flags = h.index_flags;
}

pub record GaveFirst (w : World) (q : QueueRegs) (used head : ℕ) (spans : List Span) (bytes : List ℕ) : Type 0 where
  pub memory : ℕ → ℕ
  pub is : perform w (give_chain q used head spans bytes) ≡ record { world = record w { memory = memory }; end = Over (is_wanted w.memory q) }
  pub given : GivenSo w.memory memory q used head (cut (length bytes) spans) bytes

pub gave_first : (w : World) (q : QueueRegs) (used head : ℕ) (spans : List Span) (bytes : List ℕ) → IsQuiet q used spans → length bytes ≤ total spans → GaveFirst w q used head spans bytes
gave_first w q used head spans bytes h few =
    let g = gave w q used head (cut (length bytes) spans) bytes (quiet_cut q used spans (length bytes) h) (total_cut spans (length bytes) few) in
    record {
      memory = g.memory;
      is = ap (λ (u : Script QueueStop (Unit {0})). perform w (u >>= λ _. hand_back q used head (length bytes))) (write_cut spans bytes) ∙ g.is;
      given = g.given;
    }
