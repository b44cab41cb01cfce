-- What a take finds.
use Rattle.std.proofs.Common.{◌≡◌, ◌+◌, ◌-◌, ◌∙◌, ℕ, List, [], ◌∷◌, ◌++◌, refl, ap, sym, subst, append_assoc, append-nil}
use Rattle.tv_script.specs.Scripts.{Script, Over, Stop, Ask, Tell, ◌>>=◌}
use Rattle.tv_virtio.specs.declared.queue.QueueRegs.{QueueRegs}
use Rattle.tv_virtio.specs.declared.queue.QueueStop.{QueueStop}
use Rattle.tv_virtio.specs.declared.queue.Span.{Span}
use Rattle.tv_virtio.specs.Spans.{Spans, total, pieces}
use Rattle.tv_virtio.specs.Queue.{read_pieces, read_spans, Took, next_head, walk, no_chain, readable_of, chain_at, take_chain}
use Rattle.tv_quiet.specs.World.{World, Performed, bytes_at, perform}
use Rattle.tv_quiet.specs.Meaning.{NoneWraps, spans_bytes}
use Rattle.tv_quiet.proofs.Memory.{bytes_at-append}
use Rattle.tv_quiet.proofs.Leaving.{carried, perform-bind, perform_value, Leaves, leaves_head, leaves_walk, leaves_spans}
use Rattle.tv_quiet.proofs.Filled.{Consecutive, total_first, total_pieces, consecutive_pieces}

-- 1. The bytes of buffers

got_same : (w : World) (b1 b2 : List ℕ) → b1 ≡ b2 → (let r : Performed QueueStop (List ℕ) = record { world = w; end = Over b1 } in r) ≡ record { world = w; end = Over b2 }
got_same w b1 b2 e = rw e refl

pieces_read : (w : World) (ps : List Span) (at : ℕ) (got : List ℕ) → Consecutive at ps → perform w (read_pieces ps got) ≡ record { world = w; end = Over (got ++ bytes_at w.memory at (total ps)) }
unfolding perform read_pieces ◌>>=◌ Consecutive bytes_at
pieces_read w [] at got c = got_same w got (got ++ []) (sym (append-nil got))
pieces_read w (p ∷ ps) at got c =
    let m : ℕ → ℕ = w.memory in
    let more : List ℕ = bytes_at m (at + p.len) (total ps) in
    pieces_read w ps (at + p.len) (got ++ bytes_at m p.addr p.len) c.1
    ∙ got_same w (got ++ bytes_at m p.addr p.len ++ more) (got ++ bytes_at m at (total (p ∷ ps)))
    (ap (λ (a : ℕ). got ++ bytes_at m a p.len ++ more) c.0 ∙ append_assoc got (bytes_at m at p.len) more
    ∙ ap (λ (bs : List ℕ). got ++ bs) (sym (bytes_at-append m at p.len (total ps)) ∙ ap (λ (n : ℕ). bytes_at m at n) (sym (total_first p ps))))

spans_read : (w : World) (ss : List Span) (got : List ℕ) → NoneWraps ss → perform w (read_spans ss got) ≡ record { world = w; end = Over (got ++ spans_bytes w.memory ss) }
unfolding perform read_spans
spans_read w [] got c = got_same w got (got ++ []) (sym (append-nil got))
spans_read w (s ∷ ss) got c =
    let m : ℕ → ℕ = w.memory in
    let here : List ℕ = bytes_at m s.addr (total (pieces s)) in
    perform_value w w (read_pieces (pieces s) got) (got ++ here) (read_spans ss) (pieces_read w (pieces s) s.addr got (consecutive_pieces s c.0))
    ∙ spans_read w ss (got ++ here) c.1
    ∙ got_same w (got ++ here ++ spans_bytes m ss) (got ++ spans_bytes m (s ∷ ss))
    (append_assoc got here (spans_bytes m ss) ∙ ap (λ (n : ℕ). got ++ (bytes_at m s.addr n ++ spans_bytes m ss)) (total_pieces s))

-- 2. The parts of a script that went to its value

IsOver : {E A : Type 0} → Script E A → Type 0
IsOver (Over value) = Unit {0}
IsOver (Stop why) = ⊥
IsOver (Ask action go) = ⊥
IsOver (Tell verdict rest) = ⊥

value_or : {E A : Type 0} → Script E A → A → A
value_or (Over value) other = value
value_or (Stop why) other = other
value_or (Ask action go) other = other
value_or (Tell verdict rest) other = other

same_over : {E A : Type 0} (a b : A) → (let s : Script E A = Over a in s) ≡ Over b → a ≡ b
unfolding value_or
same_over {E = E} {A = A} a b e = ap (λ (s : Script E A). value_or s a) e

record Values {E A B : Type 0} (w : World) (s : Script E A) (f : A → Script E B) (b : B) : Type 0 where
  value : A
  first : (perform w s).end ≡ Over value
  rest : (perform w (f value)).end ≡ Over b

values_by : {E A B : Type 0} (w : World) (s : Script E A) (f : A → Script E B) (b : B) (end : Script E A) → (perform w s).end ≡ end → (carried w end f).end ≡ Over b → Values w s f b
unfolding carried IsOver
values_by w s f b (Over a) is e = record { value = a; first = is; rest = e }
values_by {E = E} {B = B} w s f b (Stop why) is e = absurd (subst (λ (t : Script E B). IsOver t) (sym e) tt)
values_by {E = E} {B = B} w s f b (Ask action go) is e = absurd (subst (λ (t : Script E B). IsOver t) (sym e) tt)
values_by {E = E} {B = B} w s f b (Tell verdict rest) is e = absurd (subst (λ (t : Script E B). IsOver t) (sym e) tt)

values : {E A B : Type 0} (w : World) (s : Script E A) (f : A → Script E B) (b : B) → Leaves s → (perform w (s >>= f)).end ≡ Over b → Values w s f b
values {E = E} {A = A} {B = B} w s f b leaves e =
    values_by w s f b (perform w s).end refl
    (ap (λ (v : World). (carried v (perform w s).end f).end) (sym (leaves.is w)) ∙ ap (λ (r : Performed E B). r.end) (sym (perform-bind w s f)) ∙ e)

-- 3. A take

readable_bytes : (w : World) (head : ℕ) (chain : Spans) (took : Took) → (perform w (readable_of head chain)).end ≡ Over took → NoneWraps took.chain.readable → took.readable ≡ spans_bytes w.memory took.chain.readable
unfolding perform
readable_bytes w head chain took e n =
    let v = values w (read_spans chain.readable []) (λ bytes. (let s : Script QueueStop Took = Over (record { head = head; chain = chain; readable = bytes }) in s)) took (leaves_spans chain.readable []) e in
    let is : (let t : Took = record { head = head; chain = chain; readable = v.value } in t) ≡ took = same_over {E = QueueStop} _ took v.rest in
    let c : chain ≡ took.chain = ap (λ (t : Took). t.chain) is in
    let r : v.value ≡ took.readable = ap (λ (t : Took). t.readable) is in
    let m : NoneWraps chain.readable = subst (λ (d : Spans). NoneWraps d.readable) (sym c) n in
    sym r ∙ same_over {E = QueueStop} v.value (spans_bytes w.memory chain.readable) (sym v.first ∙ ap (λ (p : Performed QueueStop (List ℕ)). p.end) (spans_read w chain.readable [] m))
    ∙ ap (λ (d : Spans). spans_bytes w.memory d.readable) c

-- the readable bytes of a chain are those that lie in its readable buffers
pub took_readable : (w : World) (q : QueueRegs) (last : ℕ) (took : Took) → (perform w (take_chain q last)).end ≡ Over took → NoneWraps took.chain.readable → took.readable ≡ spans_bytes w.memory took.chain.readable
took_readable w q last took e n =
    let one = values w (next_head q last) (chain_at q) took (leaves_head q last) e in
    let two = values w (walk q no_chain one.value (q.size - 1)) (readable_of one.value) took (leaves_walk q no_chain one.value (q.size - 1)) one.rest in
    readable_bytes w one.value two.value took two.rest n
