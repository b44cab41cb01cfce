-- The entropy device (VIRTIO 1.2, section 5.4): each chain of its one queue is filled with random bytes.
use Rattle.std.specs.Prelude.{◌≡◌, ℕ, ◌++◌, ◌+◌, Bool, if◌then◌else◌, List, [], ◌∷◌, replicate, slice_index, slice_set, Option, Some, None}
use Rattle.std.proofs.Common.{refl}
use Rattle.tv_items.specs.declared.item.Item.{Item}
use Rattle.tv_items.specs.declared.item.Item.TheVariants as item
use Rattle.tv_items.specs.declared.action.Action.TheVariants as action
use Rattle.tv_script.specs.Scripts.{Script, Over, Stop, Ask, ◌>>=◌, caught}
use Rattle.tv_script.specs.Services.{End, Idle, Plan, opened}
use Rattle.tv_transport.specs.declared.registers.Effect.{Effect}
use Rattle.tv_transport.specs.declared.registers.Effect.TheVariants as effect
use Rattle.tv_transport.specs.declared.registers.TheConstants.{VERSION_1}
use Rattle.tv_transport.specs.Registers.{Registers, first_registers, transport_load, transport_store, queue_regs, broken, buffer_used}
use Rattle.tv_plan.specs.Serving.{is_served, index_raised, interrupt_if, broken_off, stopped_as}
use Rattle.tv_virtio.specs.declared.queue.QueueRegs.{QueueRegs}
use Rattle.tv_virtio.specs.declared.queue.QueueStop.{QueueStop}
use Rattle.tv_virtio.specs.declared.queue.Span.{Span}
use Rattle.tv_virtio.specs.Spans.{pieces, total}
use Rattle.tv_virtio.specs.Queue.{heard_bytes, take_chain, give_chain, Took}

-- its registers, how far its queue is, and the queue whose service is due or under way
pub record EntropyState : Type 0 where
  pub registers : Registers
  pub last : List ℕ
  pub used : List ℕ
  pub serving : Option QueueRegs

abbrev pub new_entropy : EntropyState
new_entropy = record { registers = first_registers 4 VERSION_1 1; last = replicate 3 0; used = replicate 3 0; serving = None }

-- 1. Items

-- an item comes only where no service is under way
abbrev pub entropy_rested : EntropyState → EntropyState
entropy_rested e = record e { serving = None }

abbrev pub entropy_effect : EntropyState → Effect → EntropyState
entropy_effect e (effect.Ready n) = record e { last = slice_set e.last n 0; used = slice_set e.used n 0 }
entropy_effect e (effect.Notify n) = record e { serving = if is_served e.registers then queue_regs e.registers n else None }
entropy_effect e _ = e

abbrev pub entropy_acted : EntropyState → Item → EntropyState
entropy_acted e (item.Store width off value) =
    let s = transport_store e.registers width off value in
    let rested : EntropyState = entropy_rested e in
    entropy_effect (record rested { registers = s.registers }) s.effect
entropy_acted e i = entropy_rested e

-- it has no configuration
abbrev pub entropy_loaded : EntropyState → Item → ℕ
entropy_loaded e (item.Load width off) = transport_load e.registers [] width off
entropy_loaded e i = 0

-- 2. Services

-- so many random bytes, in pieces, after those that were got
abbrev pub random : ℕ → Script QueueStop (List ℕ)
random len = Ask (action.Random len) heard_bytes

unfoldable pub fill_pieces : List Span → List ℕ → Script QueueStop (List ℕ)
fill_pieces [] got = Over got
fill_pieces (p ∷ ps) got = random p.len >>= λ bytes. fill_pieces ps (got ++ bytes)

abbrev pub fill : ℕ → Script QueueStop (List ℕ)
fill len = fill_pieces (pieces (record { addr = 0; len = len })) []

-- a broken service: the device needs a reset
abbrev pub entropy_broke : EntropyState → EntropyState
entropy_broke e = record e { registers = broken e.registers; serving = None }

abbrev pub entropy_broken : EntropyState → Script (End EntropyState) EntropyState
entropy_broken e = broken_off e.registers (entropy_broke e)

abbrev pub entropy_stopped : EntropyState → QueueStop → Script (End EntropyState) EntropyState
entropy_stopped e = stopped_as (entropy_rested e) (entropy_broken e)

-- a buffer was used; a refused interrupt is not followed by another
abbrev pub with_used_buffer : EntropyState → EntropyState
with_used_buffer e = record e { registers = buffer_used e.registers }

abbrev pub finish : EntropyState → Bool → Script (End EntropyState) EntropyState
finish e wanted = let told : EntropyState = with_used_buffer e in interrupt_if wanted (Over told) (Stop (Idle (entropy_broke told)))

-- the bytes go to the chain, and the chain to the used ring
abbrev pub hand : EntropyState → QueueRegs → Took → List ℕ → Script (End EntropyState) EntropyState
hand e q took bytes =
    caught (give_chain q (slice_index e.used q.number) took.head took.chain.writable bytes) (entropy_stopped e)
    (finish (record e { used = index_raised e.used q.number }))

-- so many random bytes are got, and then given to a chain
abbrev pub answer : EntropyState → QueueRegs → Took → ℕ → Script (End EntropyState) EntropyState
answer e q took len = caught (fill len) (entropy_stopped e) (hand e q took)

-- a round: all writable bytes of the next chain are random ones
abbrev pub entropy_round : EntropyState → Option QueueRegs → Script (End EntropyState) EntropyState
entropy_round e None = Stop (Idle e)
entropy_round e (Some q) =
    caught (take_chain q (slice_index e.last q.number)) (entropy_stopped e)
    (λ took. answer (record e { last = index_raised e.last q.number }) q took (total took.chain.writable))

abbrev pub entropy_begins : EntropyState → Option QueueRegs → Script (End EntropyState) EntropyState
entropy_begins e None = Stop (Idle e)
entropy_begins e (Some q) = Over e

abbrev pub entropy_plan : Plan EntropyState
entropy_plan = record { begins = λ e. entropy_begins e e.serving; round = λ e. entropy_round e e.serving }

-- a round begins with an action, or ends the service
round_opens : (e : EntropyState) (q : Option QueueRegs) → opened entropy_plan.round (entropy_round e q) ≡ entropy_round e q
unfolding opened caught ◌>>=◌
round_opens e None = refl
round_opens e (Some q) = refl

pub entropy_opens : (e : EntropyState) → opened entropy_plan.round (entropy_plan.round e) ≡ entropy_plan.round e
entropy_opens e = round_opens e e.serving
