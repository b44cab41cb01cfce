-- How a device's state changes as a queue of it is served.
use Rattle.std.specs.Prelude.{ℕ, Bool, List, slice_index}
use Rattle.tv_script.specs.Scripts.{Script, Over, caught}
use Rattle.tv_script.specs.Services.{End}
use Rattle.tv_transport.specs.Registers.{Registers}
use Rattle.tv_virtio.specs.declared.queue.QueueRegs.{QueueRegs}
use Rattle.tv_virtio.specs.declared.queue.QueueStop.{QueueStop}
use Rattle.tv_virtio.specs.Queue.{Took, take_chain, give_chain}
use Rattle.tv_virtio.specs.Spans.{total}
use Rattle.tv_vring.specs.Rings.{Ring}
use Rattle.tv_plan.specs.Serving.{index_raised, interrupt_if, broken_off, stopped_as}

-- what a device's state shows, the states that follow it, and the scripts in which the devices differ
pub record Steps (S : Type 0) : Type 0 where
  pub registers : S → Registers
  -- how far its queues are
  pub last : S → List ℕ
  pub used : S → List ℕ
  -- after a take, after a give, and after it said that a buffer was used
  pub took : S → List ℕ → S
  pub gave : S → List ℕ → S
  pub told : S → S
  -- nothing is due; and the device needs a reset
  pub rested : S → S
  pub broke : S → S
  -- a broken service, and a refused interrupt
  pub broken : S → Script (End S) S
  pub refused : S → Script (End S) S
  -- what a chain that was taken comes to, which has so many writable bytes, from the states before and after the take
  pub part : S → S → QueueRegs → Took → ℕ → Script (End S) S

-- the chain that was taken last, with its head
abbrev pub took_of : Ring → ℕ → Took
took_of r head = record { head = head; chain = r.chain; readable = r.readable }

-- a service breaks, and nothing is told but the interrupt
abbrev pub break_off : {S : Type 0} → Steps S → S → Script (End S) S
break_off d s = broken_off (d.registers s) (d.broke s)

abbrev pub stopped : {S : Type 0} → Steps S → S → QueueStop → Script (End S) S
stopped d s = stopped_as (d.rested s) (d.broken s)

-- the end of a round whose chain was given back
abbrev pub finish : {S : Type 0} → Steps S → S → Bool → Script (End S) S
finish d s wanted = interrupt_if wanted (Over (d.told s)) (d.refused (d.told s))

-- the bytes go to the chain, and the chain to the used ring
abbrev pub hand : {S : Type 0} → Steps S → S → QueueRegs → Took → List ℕ → Script (End S) S
hand d s q took bytes =
    caught (give_chain q (slice_index (d.used s) q.number) took.head took.chain.writable bytes) (stopped d s)
    (finish d (d.gave s (index_raised (d.used s) q.number)))

-- a round: the next chain
abbrev pub round : {S : Type 0} → Steps S → S → QueueRegs → Script (End S) S
round d s q =
    caught (take_chain q (slice_index (d.last s) q.number)) (stopped d s)
    (λ took. d.part s (d.took s (index_raised (d.last s) q.number)) q took (total took.chain.writable))
