-- A take leaves the world as it is; and one script after another.
use Rattle.std.proofs.Common.{◌≡◌, ◌∙◌, ◌+◌, ◌-◌, ◌*◌, ◌%◌, ◌==◌, nat_lt, ℕ, zero, suc, Bool, true, false, if◌then◌else◌, List, [], ◌∷◌, ◌++◌, Option, Some, None, refl, ap}
use Rattle.tv_script.specs.Scripts.{Script, Over, Stop, Ask, Tell, ◌>>=◌, caught}
use Rattle.tv_virtio.specs.declared.queue.QueueRegs.{QueueRegs}
use Rattle.tv_virtio.specs.declared.queue.QueueStop.{QueueStop}
use Rattle.tv_virtio.specs.declared.queue.QueueStop.TheVariants as stop
use Rattle.tv_virtio.specs.declared.queue.QueueFault.{QueueFault}
use Rattle.tv_virtio.specs.declared.queue.QueueFault.TheVariants as fault
use Rattle.tv_virtio.specs.declared.queue.Descriptor.{Descriptor}
use Rattle.tv_virtio.specs.declared.queue.Span.{Span}
use Rattle.tv_virtio.specs.Spans.{Spans, pieces}
use Rattle.tv_virtio.specs.Queue.{from, read, number, descriptor, fault_at, next_head, visit, visited, onward, walk, read_pieces, read_spans, take_chain, Took}
use Rattle.tv_quiet.specs.World.{World, Performed, hears, makes, perform}

-- a second script, from where the first one ended
unfoldable pub carried : {E A B : Type 0} → World → Script E A → (A → Script E B) → Performed E B
carried w (Over value) f = perform w (f value)
carried w (Stop why) f = record { world = w; end = Stop why }
carried w (Ask action go) f = record { world = w; end = Ask action (λ h. go h >>= f) }
carried w (Tell verdict rest) f = record { world = w; end = Tell verdict (rest >>= f) }

pub perform-bind : {E A B : Type 0} (w : World) (s : Script E A) (f : A → Script E B) → perform w (s >>= f) ≡ carried (perform w s).world (perform w s).end f
unfolding perform ◌>>=◌ carried
perform-bind w (Over value) f = refl
perform-bind w (Stop why) f = refl
perform-bind w (Ask action go) f = perform-bind (makes w action) (go (hears w action)) f
perform-bind w (Tell verdict rest) f = perform-bind w rest f

-- what follows a value or a stop, from where the script ended
pub cared : {E F A B : Type 0} → World → Script E A → (E → Script F B) → (A → Script F B) → Performed F B
cared w (Over value) g f = perform w (f value)
cared w (Stop why) g f = perform w (g why)
cared w (Ask action go) g f = record { world = w; end = Ask action (λ h. caught (go h) g f) }
cared w (Tell verdict rest) g f = record { world = w; end = Tell verdict (caught rest g f) }

pub perform-caught : {E F A B : Type 0} (w : World) (s : Script E A) (g : E → Script F B) (f : A → Script F B) → perform w (caught s g f) ≡ cared (perform w s).world (perform w s).end g f
unfolding perform caught cared
perform-caught w (Over value) g f = refl
perform-caught w (Stop why) g f = refl
perform-caught w (Ask action go) g f = perform-caught (makes w action) (go (hears w action)) g f
perform-caught w (Tell verdict rest) g f = perform-caught w rest g f

-- the value of a first script, where it is known
pub perform_value : {E A B : Type 0} (w v : World) (s : Script E A) (value : A) (f : A → Script E B) → perform w s ≡ record { world = v; end = Over value } → perform w (s >>= f) ≡ perform v (f value)
unfolding carried
perform_value {E = E} {A = A} w v s value f e = perform-bind w s f ∙ ap (λ (r : Performed E A). carried r.world r.end f) e

pub perform_caught_value : {E F A B : Type 0} (w v : World) (s : Script E A) (value : A) (g : E → Script F B) (f : A → Script F B) → perform w s ≡ record { world = v; end = Over value }
    → perform w (caught s g f) ≡ perform v (f value)
unfolding cared
perform_caught_value {E = E} {A = A} w v s value g f e = perform-caught w s g f ∙ ap (λ (r : Performed E A). cared r.world r.end g f) e

-- a script that leaves every world as it is
pub record Leaves {E A : Type 0} (s : Script E A) : Type 0 where
  pub is : (w : World) → (perform w s).world ≡ w

leaves_over : {E A : Type 0} (value : A) → Leaves {E = E} (Over value)
unfolding perform
leaves_over value = record { is = λ w. refl }

leaves_stop : {E A : Type 0} (why : E) → Leaves {A = A} (Stop why)
unfolding perform
leaves_stop why = record { is = λ w. refl }

leaves_read : (addr len : ℕ) → Leaves (read addr len)
unfolding perform
leaves_read addr len = record { is = λ w. refl }

carried_world : {E A B : Type 0} (w : World) (end : Script E A) (f : A → Script E B) → ((a : A) → Leaves (f a)) → (carried w end f).world ≡ w
unfolding carried
carried_world w (Over value) f h = (h value).is w
carried_world w (Stop why) f h = refl
carried_world w (Ask action go) f h = refl
carried_world w (Tell verdict rest) f h = refl

leaves_bind : {E A B : Type 0} (s : Script E A) (f : A → Script E B) → Leaves s → ((a : A) → Leaves (f a)) → Leaves (s >>= f)
leaves_bind {E = E} {B = B} s f d h =
    record { is = λ w. ap (λ (r : Performed E B). r.world) (perform-bind w s f) ∙ carried_world (perform w s).world (perform w s).end f h ∙ d.is w }

leaves_if : {E A : Type 0} (b : Bool) (s t : Script E A) → Leaves s → Leaves t → Leaves (if b then s else t)
leaves_if true s t d e = d
leaves_if false s t d e = e

leaves_number : (n addr : ℕ) → Leaves (number n addr)
leaves_number n addr = leaves_bind _ _ (leaves_read addr n) (λ bytes. leaves_over _)

pub leaves_head : (q : QueueRegs) (last : ℕ) → Leaves (next_head q last)
leaves_head q last =
    leaves_bind _ _
    (leaves_bind _ _ (leaves_number 2 (from q.driver 2)) (λ index.
    leaves_if (index == last) (Stop stop.Empty) _ (leaves_stop stop.Empty)
    (leaves_if (nat_lt q.size ((index + (65536 - last)) % 65536)) (Stop (stop.Malformed fault.Ahead index)) (Over index) (leaves_stop _) (leaves_over _))))
    (λ index.
    leaves_bind _ _ (leaves_number 2 (from q.driver (4 + 2 * (last % q.size)))) (λ head.
    leaves_if (nat_lt head q.size) (Over head) (Stop (stop.Malformed fault.Head head)) (leaves_over _) (leaves_stop _)))

leaves_visited : (at : ℕ) (c : Spans) (d : Descriptor) (fault : Option QueueFault) → Leaves (visited at c d fault)
leaves_visited at c d (Some f) = leaves_stop _
leaves_visited at c d None = leaves_over _

leaves_visit : (q : QueueRegs) (c : Spans) (at left : ℕ) → Leaves (visit q c at left)
leaves_visit q c at left = leaves_bind _ _ (leaves_read _ 16) (λ bytes. leaves_visited at c (descriptor bytes) (fault_at q left c (descriptor bytes)))

leaves_onward : (go : ℕ → Spans → Script QueueStop Spans) (chain : Spans) (next : Option ℕ) → ((n : ℕ) (c : Spans) → Leaves (go n c)) → Leaves (onward go (record { chain = chain; next = next }))
leaves_onward go chain None h = leaves_over _
leaves_onward go chain (Some n) h = h n chain

pub leaves_walk : (q : QueueRegs) (c : Spans) (at left : ℕ) → Leaves (walk q c at left)
unfolding walk
leaves_walk q c at zero = leaves_bind _ _ (leaves_visit q c at 0) (λ v. leaves_onward _ v.chain v.next (λ n d. leaves_stop (stop.Malformed fault.Loop at)))
leaves_walk q c at (suc left) = leaves_bind _ _ (leaves_visit q c at (suc left)) (λ v. leaves_onward _ v.chain v.next (λ n d. leaves_walk q d n left))

leaves_pieces : (ps : List Span) (got : List ℕ) → Leaves (read_pieces ps got)
unfolding read_pieces
leaves_pieces [] got = leaves_over _
leaves_pieces (p ∷ ps) got = leaves_bind _ _ (leaves_read p.addr p.len) (λ bytes. leaves_pieces ps (got ++ bytes))

pub leaves_spans : (ss : List Span) (got : List ℕ) → Leaves (read_spans ss got)
unfolding read_spans
leaves_spans [] got = leaves_over _
leaves_spans (s ∷ ss) got = leaves_bind _ _ (leaves_pieces (pieces s) got) (λ more. leaves_spans ss more)

leaves_take : (q : QueueRegs) (last : ℕ) → Leaves (take_chain q last)
leaves_take q last =
    leaves_bind _ _ (leaves_head q last)
    (λ head. leaves_bind _ _ (leaves_walk q _ head _) (λ chain. leaves_bind _ _ (leaves_spans chain.readable []) (λ bytes. leaves_over _)))

performed : {E A : Type 0} (r : Performed E A) (w : World) (end : Script E A) → r.world ≡ w → r.end ≡ end → r ≡ record { world = w; end = end }
performed r w end d e = rw (← d, ← e) refl

-- a take that finds a chain
pub takes : (w : World) (q : QueueRegs) (last : ℕ) (took : Took) → (perform w (take_chain q last)).end ≡ Over took → perform w (take_chain q last) ≡ record { world = w; end = Over took }
takes w q last took e = performed (perform w (take_chain q last)) w (Over took) ((leaves_take q last).is w) e
