-- What a give and a round come to.
use Rattle.std.proofs.Common.{◌≡◌, ◌+◌, ◌%◌, ◌∙◌, ◌==◌, ℕ, Bool, true, false, if◌then◌else◌, List, [], ◌∷◌, ◌++◌, length, slice_index, Some, refl, ap, sym, subst, arith, inl, inr, append_assoc, append-nil}
use Rattle.byteorder.specs.Endian.{little_number, little_bytes}
use Rattle.tv_script.specs.Scripts.{Over, ◌>>=◌}
use Rattle.tv_virtio.specs.declared.queue.QueueRegs.{QueueRegs}
use Rattle.tv_virtio.specs.declared.queue.QueueStop.{QueueStop}
use Rattle.tv_virtio.specs.declared.queue.Span.{Span}
use Rattle.tv_virtio.specs.Spans.{total, pieces}
use Rattle.tv_virtio.specs.Queue.{Took, take_chain, write_spans, hand_back, give_chain}
use Rattle.tv_plan.specs.Serving.{index_raised}
use Rattle.tv_plan.specs.Entropy.{EntropyState, fill_pieces, fill, entropy_stopped, with_used_buffer, finish, hand, answer, entropy_round}
use Rattle.tv_quiet.specs.World.{World, Performed, bytes_at, written, perform}
use Rattle.tv_quiet.specs.Meaning.{Apart, AllApart, IsQuiet, GivenSo, EntropyMeans, element_place, index_place, spans_bytes, is_wanted, entropy_after}
use Rattle.tv_quiet.proofs.Memory.{length_bytes_at, bytes_at-append, bytes_at_same, bytes_at_written, bytes_at_apart, written_outside}
use Rattle.tv_quiet.proofs.Leaving.{perform_value, perform_caught_value, takes}
use Rattle.tv_quiet.proofs.Filled.{total_first, total_pieces, filled, filled_outside, filled_bytes, all_apart_byte, wrote_spans}

swap : (a n b k : ℕ) → Apart a n b k → Apart b k a n
swap a n b k (inl h) = inr h
swap a n b k (inr h) = inl h

spans_same : (f g : ℕ → ℕ) (ss : List Span) → ((x : ℕ) → f x ≡ g x) → spans_bytes f ss ≡ spans_bytes g ss
spans_same f g [] h = refl
spans_same f g (s ∷ ss) h =
    ap (λ (bs : List ℕ). bs ++ spans_bytes f ss) (bytes_at_same f g s.addr s.len (λ x l r. h x)) ∙ ap (λ (bs : List ℕ). bytes_at g s.addr s.len ++ bs) (spans_same f g ss h)

spans_apart : (m : ℕ → ℕ) (at : ℕ) (bytes : List ℕ) (ss : List Span) → AllApart ss at (length bytes) → spans_bytes (written m at bytes) ss ≡ spans_bytes m ss
spans_apart m at bytes [] a = refl
spans_apart m at bytes (s ∷ ss) a =
    ap (λ (bs : List ℕ). bs ++ spans_bytes (written m at bytes) ss) (bytes_at_apart m at bytes s.addr s.len (swap s.addr s.len at (length bytes) a.0))
    ∙ ap (λ (bs : List ℕ). bytes_at m s.addr s.len ++ bs) (spans_apart m at bytes ss a.1)

-- 1. A chain goes back

abbrev element_bytes : ℕ → ℕ → List ℕ
element_bytes head len = little_bytes 4 head ++ little_bytes 4 len

abbrev index_bytes : ℕ → List ℕ
index_bytes used = little_bytes 2 ((used + 1) % 65536)

length_element : (head len : ℕ) → length (element_bytes head len) ≡ 8
length_element head len = refl

length_index : (used : ℕ) → length (index_bytes used) ≡ 2
length_index used = refl

-- memory with one more used element
abbrev published : (ℕ → ℕ) → QueueRegs → ℕ → ℕ → ℕ → ℕ → ℕ
published m q used head len = written (written m (element_place q used) (element_bytes head len)) (index_place q) (index_bytes used)

handed_back : (w : World) (q : QueueRegs) (used head len : ℕ)
    → perform w (hand_back q used head len) ≡ record { world = record w { memory = published w.memory q used head len }; end = Over (is_wanted (published w.memory q used head len) q) }
unfolding perform ◌>>=◌
handed_back w q used head len = refl

pub record Gave (w : World) (q : QueueRegs) (used head : ℕ) (spans : List Span) (bytes : List ℕ) : Type 0 where
  pub memory : ℕ → ℕ
  pub is : perform w (give_chain q used head spans bytes) ≡ record { world = record w { memory = memory }; end = Over (is_wanted w.memory q) }
  pub given : GivenSo w.memory memory q used head spans bytes

pub gave : (w : World) (q : QueueRegs) (used head : ℕ) (spans : List Span) (bytes : List ℕ) → IsQuiet q used spans → length bytes ≡ total spans → Gave w q used head spans bytes
gave w q used head spans bytes h e =
    let one = wrote_spans w spans bytes h.spread e in
    let len : ℕ = length bytes in
    let m1 : ℕ → ℕ = written one.memory (element_place q used) (element_bytes head len) in
    let m2 : ℕ → ℕ = published one.memory q used head len in
    let outside : (x : ℕ) → AllApart spans x 1 → one.memory x ≡ w.memory x = λ x a. one.to x ∙ filled_outside w.memory spans bytes x a e in
    let flags : bytes_at m2 q.driver 2 ≡ bytes_at w.memory q.driver 2 =
    bytes_at_apart m1 (index_place q) (index_bytes used) q.driver 2 (subst (λ (n : ℕ). Apart (index_place q) n q.driver 2) (sym (length_index used)) h.index_flags)
    ∙ bytes_at_apart one.memory (element_place q used) (element_bytes head len) q.driver 2 (subst (λ (n : ℕ). Apart (element_place q used) n q.driver 2) (sym (length_element head len)) h.element_flags)
    ∙ bytes_at_same one.memory w.memory q.driver 2 (λ x l r. outside x (all_apart_byte spans q.driver 2 x h.buffers_flags l r)) in
    record {
      memory = m2;
      is =
          perform_value w (record w { memory = one.memory }) (write_spans spans bytes) tt (λ _. hand_back q used head len) one.is
          ∙ handed_back (record w { memory = one.memory }) q used head len
          ∙ ap (λ (bs : List ℕ). let r : Performed QueueStop Bool = record { world = record w { memory = m2 }; end = Over (little_number 2 bs % 2 == 0) } in r) flags;
      given = record {
        content =
            spans_apart m1 (index_place q) (index_bytes used) spans (subst (λ (n : ℕ). AllApart spans (index_place q) n) (sym (length_index used)) h.buffers_index)
            ∙ spans_apart one.memory (element_place q used) (element_bytes head len) spans (subst (λ (n : ℕ). AllApart spans (element_place q used) n) (sym (length_element head len)) h.buffers_element)
            ∙ spans_same one.memory (filled w.memory spans bytes) spans one.to ∙ filled_bytes w.memory spans bytes h.spread e;
        element =
            bytes_at_apart m1 (index_place q) (index_bytes used) (element_place q used) 8
            (subst (λ (n : ℕ). Apart (index_place q) n (element_place q used) 8) (sym (length_index used)) (swap (element_place q used) 8 (index_place q) 2 h.element_index))
            ∙ ap (λ (n : ℕ). bytes_at m1 (element_place q used) n) (sym (length_element head len)) ∙ bytes_at_written one.memory (element_place q used) (element_bytes head len);
        index = ap (λ (n : ℕ). bytes_at m2 (index_place q) n) (sym (length_index used)) ∙ bytes_at_written m1 (index_place q) (index_bytes used);
        elsewhere = λ x a b c.
            written_outside m1 (index_place q) (index_bytes used) x (subst (λ (n : ℕ). Apart (index_place q) n x 1) (sym (length_index used)) c)
            ∙ written_outside one.memory (element_place q used) (element_bytes head len) x (subst (λ (n : ℕ). Apart (element_place q used) n x 1) (sym (length_element head len)) b)
            ∙ outside x a;
      };
    }

-- 2. A round of the entropy device

drew : (w : World) (d1 d2 : ℕ) (b1 b2 : List ℕ) → d1 ≡ d2 → b1 ≡ b2
    → (let r : Performed QueueStop (List ℕ) = record { world = record w { drawn = d1 }; end = Over b1 } in r) ≡ record { world = record w { drawn = d2 }; end = Over b2 }
drew w d1 d2 b1 b2 e f = rw (e, f) refl

drawn : (w : World) (ps : List Span) (got : List ℕ) → perform w (fill_pieces ps got) ≡ record { world = record w { drawn = w.drawn + total ps }; end = Over (got ++ bytes_at w.random w.drawn (total ps)) }
unfolding perform fill_pieces ◌>>=◌ bytes_at
drawn w [] got = drew w w.drawn (w.drawn + 0) got (got ++ []) (omega arith) (sym (append-nil got))
drawn w (p ∷ ps) got =
    let t : total (p ∷ ps) ≡ p.len + total ps = total_first p ps in
    let bytes : List ℕ = bytes_at w.random w.drawn p.len in
    let more : List ℕ = bytes_at w.random (w.drawn + p.len) (total ps) in
    drawn (record w { drawn = w.drawn + p.len }) ps (got ++ bytes)
    ∙ drew w (w.drawn + p.len + total ps) (w.drawn + total (p ∷ ps)) (got ++ bytes ++ more) (got ++ bytes_at w.random w.drawn (total (p ∷ ps))) (omega arith)
    (append_assoc got bytes more ∙ ap (λ (bs : List ℕ). got ++ bs) (sym (bytes_at-append w.random w.drawn p.len (total ps)) ∙ ap (λ (n : ℕ). bytes_at w.random w.drawn n) (sym t)))

filled_up : (w : World) (len : ℕ) → perform w (fill len) ≡ record { world = record w { drawn = w.drawn + len }; end = Over (bytes_at w.random w.drawn len) }
filled_up w len =
    let s : Span = record { addr = 0; len = len } in
    drawn w (pieces s) [] ∙ drew w (w.drawn + total (pieces s)) (w.drawn + len) (bytes_at w.random w.drawn (total (pieces s))) (bytes_at w.random w.drawn len)
    (ap (λ (n : ℕ). w.drawn + n) (total_pieces s)) (ap (λ (n : ℕ). bytes_at w.random w.drawn n) (total_pieces s))

finished : (w : World) (e : EntropyState) (wanted : Bool)
    → perform w (finish e wanted) ≡ record { world = record w { raised = if wanted then w.raised + 1 else w.raised }; end = Over (with_used_buffer e) }
unfolding perform
finished w e true = refl
finished w e false = refl

-- a round that finds a chain, on quiet memory
pub entropy_quiet : (w : World) (e : EntropyState) (q : QueueRegs) (took : Took) → (perform w (take_chain q (slice_index e.last q.number))).end ≡ Over took → IsQuiet q (slice_index e.used q.number) took.chain.writable
    → EntropyMeans w e q took (perform w (entropy_round e (Some q)))
entropy_quiet w e q took t h =
    let len : ℕ = total took.chain.writable in
    let bytes : List ℕ = bytes_at w.random w.drawn len in
    let e1 : EntropyState = record e { last = index_raised e.last q.number } in
    let e2 : EntropyState = record e1 { used = index_raised e.used q.number } in
    let w2 : World = record w { drawn = w.drawn + len } in
    let g = gave w2 q (slice_index e.used q.number) took.head took.chain.writable bytes h (length_bytes_at w.random w.drawn len) in
    let w3 : World = record w2 { memory = g.memory } in
    let is : perform w (entropy_round e (Some q)) ≡ record { world = record w3 { raised = if is_wanted w.memory q then w.raised + 1 else w.raised }; end = Over (entropy_after e q) } =
    perform_caught_value w w (take_chain q (slice_index e.last q.number)) took (entropy_stopped e) (λ found. answer e1 q found (total found.chain.writable)) (takes w q (slice_index e.last q.number) took t)
    ∙ perform_caught_value w w2 (fill len) bytes (entropy_stopped e1) (hand e1 q took) (filled_up w len)
    ∙ perform_caught_value w2 w3 (give_chain q (slice_index e.used q.number) took.head took.chain.writable bytes) (is_wanted w.memory q) (entropy_stopped e1) (finish e2) g.is
    ∙ finished w3 e2 (is_wanted w.memory q) in
    rw is (record { given = g.given; drawn = refl; raised = refl; end = refl })
