-- The console (VIRTIO 1.2, section 5.3), with one port and no feature of its own: queue 0 gives the driver what comes in, queue
-- 1 takes what goes out.
-- What the standard leaves to the device is settled so: a chain of queue 0 takes up to 4096 bytes of what comes in, and one
-- without a writable byte goes back as it is; where the input is at its end the chain stays with the driver, and queue 0 is
-- served no more, also after a reset; bytes that are lost on the way out end the run.
use Rattle.std.specs.Prelude.{◌≡◌, ℕ, ◌==◌, ◌&&◌, not, min, Bool, true, false, if◌then◌else◌, List, [], ◌∷◌, length, take, drop, replicate, slice_index, slice_set, Option, Some, None}
use Rattle.std.proofs.Common.{refl}
use Rattle.tv_base.specs.declared.limits.TheConstants.{PIECE_BYTES}
use Rattle.tv_items.specs.declared.item.Item.{Item}
use Rattle.tv_items.specs.declared.item.Item.TheVariants as item
use Rattle.tv_items.specs.declared.action.Heard.{Heard}
use Rattle.tv_items.specs.declared.action.Heard.TheVariants as heard
use Rattle.tv_items.specs.declared.action.Action.TheVariants as action
use Rattle.tv_script.specs.Scripts.{Script, Over, Stop, Ask, ◌>>=◌, caught}
use Rattle.tv_script.specs.Services.{End, Idle, Lost, Plan, opened}
use Rattle.tv_transport.specs.declared.registers.Effect.{Effect}
use Rattle.tv_transport.specs.declared.registers.Effect.TheVariants as effect
use Rattle.tv_transport.specs.declared.registers.TheConstants.{VERSION_1}
use Rattle.tv_transport.specs.Registers.{Registers, first_registers, transport_load, transport_store, queue_regs, broken, buffer_used}
use Rattle.tv_plan.specs.Serving.{is_served, index_raised, interrupt_if, broken_off, stopped_as}
use Rattle.tv_virtio.specs.declared.queue.QueueRegs.{QueueRegs}
use Rattle.tv_virtio.specs.declared.queue.QueueStop.{QueueStop}
use Rattle.tv_virtio.specs.declared.queue.Span.{Span}
use Rattle.tv_virtio.specs.Spans.{pieces, total}
use Rattle.tv_virtio.specs.Queue.{heard_bytes, take_chain, give_chain, Took}

-- its registers, how far its queues are, whether the input is at its end, and the queue whose service is due or under way
pub record ConsoleState : Type 0 where
  pub registers : Registers
  pub last : List ℕ
  pub used : List ℕ
  pub ended : Bool
  pub serving : Option QueueRegs

abbrev pub new_console : ConsoleState
new_console = record { registers = first_registers 3 VERSION_1 2; last = replicate 3 0; used = replicate 3 0; ended = false; serving = None }

-- 1. Items

-- an item comes only where no service is under way
abbrev pub console_rested : ConsoleState → ConsoleState
console_rested c = record c { serving = None }

-- the queue that a notification of its number has served
abbrev pub console_serves : ConsoleState → ℕ → Option QueueRegs
console_serves c n = if is_served c.registers && not (c.ended && n == 0) then queue_regs c.registers n else None

abbrev pub console_effect : ConsoleState → Effect → ConsoleState
console_effect c (effect.Ready n) = record c { last = slice_set c.last n 0; used = slice_set c.used n 0 }
console_effect c (effect.Notify n) = record c { serving = console_serves c n }
console_effect c _ = c

abbrev pub console_acted : ConsoleState → Item → ConsoleState
console_acted c (item.Store width off value) =
    let s = transport_store c.registers width off value in
    let rested : ConsoleState = console_rested c in
    console_effect (record rested { registers = s.registers }) s.effect
console_acted c i = console_rested c

-- its configuration is empty
abbrev pub console_loaded : ConsoleState → Item → ℕ
console_loaded c (item.Load width off) = transport_load c.registers [] width off
console_loaded c i = 0

-- 2. How a chain goes back, and a service ends

-- a broken service: the device needs a reset
abbrev pub console_broke : ConsoleState → ConsoleState
console_broke c = record c { registers = broken c.registers; serving = None }

abbrev pub console_broken : ConsoleState → Script (End ConsoleState) ConsoleState
console_broken c = broken_off c.registers (console_broke c)

abbrev pub console_stopped : ConsoleState → QueueStop → Script (End ConsoleState) ConsoleState
console_stopped c = stopped_as (console_rested c) (console_broken c)

-- a buffer was used; a refused interrupt is not followed by another
abbrev pub console_finish : ConsoleState → Bool → Script (End ConsoleState) ConsoleState
console_finish c wanted =
    let told : ConsoleState = record c { registers = buffer_used c.registers } in
    interrupt_if wanted (Over told) (Stop (Idle (console_broke told)))

-- the bytes go to the chain, and the chain to the used ring
abbrev pub console_hand : ConsoleState → QueueRegs → Took → List ℕ → Script (End ConsoleState) ConsoleState
console_hand c q took bytes =
    caught (give_chain q (slice_index c.used q.number) took.head took.chain.writable bytes) (console_stopped c)
    (console_finish (record c { used = index_raised c.used q.number }))

-- 3. Queue 0: what comes in

-- at most so many bytes of the input
abbrev pub input : ℕ → Script QueueStop (List ℕ)
input most = Ask (action.Input most) heard_bytes

-- where nothing came, the chain is kept: it was never taken
abbrev pub received : ConsoleState → ConsoleState → QueueRegs → Took → List ℕ → Script (End ConsoleState) ConsoleState
received kept c q took [] = Stop (Idle (record (console_rested kept) { ended = true }))
received kept c q took (b ∷ bs) = console_hand c q took (b ∷ bs)

abbrev pub receive : ConsoleState → ConsoleState → QueueRegs → Took → ℕ → Script (End ConsoleState) ConsoleState
receive kept c q took most =
    if most == 0 then console_hand c q took [] else caught (input most) (console_stopped c) (received kept c q took)

-- 4. Queue 1: what goes out

-- whether a put was done, and then the rest
abbrev pub heard_put : Heard → Script QueueStop Bool
heard_put heard.Done = Over true
heard_put h = Over false

abbrev pub put : List ℕ → Script QueueStop Bool
put bytes = Ask (action.Put bytes) heard_put

abbrev pub put_on : Script QueueStop Bool → Bool → Script QueueStop Bool
put_on rest true = rest
put_on rest false = Over false

-- these bytes by these pieces; the first put that isn't done is the last
unfoldable pub put_pieces : List Span → List ℕ → Script QueueStop Bool
put_pieces [] bytes = Over true
put_pieces (p ∷ ps) bytes = put (take p.len bytes) >>= put_on (put_pieces ps (drop p.len bytes))

abbrev pub put_all : List ℕ → Script QueueStop Bool
put_all bytes = put_pieces (pieces (record { addr = 0; len = length bytes })) bytes

-- a chain goes back with nothing written, or bytes are lost
abbrev pub sent : ConsoleState → QueueRegs → Took → Bool → Script (End ConsoleState) ConsoleState
sent c q took true = console_hand c q took []
sent c q took false = Stop (Lost (console_rested c))

abbrev pub transmit : ConsoleState → QueueRegs → Took → Script (End ConsoleState) ConsoleState
transmit c q took = caught (put_all took.readable) (console_stopped c) (sent c q took)

-- 5. Services

-- what a chain that was taken comes to, and the state with the chain untaken
abbrev pub console_part : ConsoleState → ConsoleState → QueueRegs → Took → Script (End ConsoleState) ConsoleState
console_part kept c q took =
    if q.number == 0 then receive kept c q took (min (total took.chain.writable) PIECE_BYTES) else transmit c q took

-- a round: the next chain
abbrev pub console_round : ConsoleState → Option QueueRegs → Script (End ConsoleState) ConsoleState
console_round c None = Stop (Idle c)
console_round c (Some q) =
    caught (take_chain q (slice_index c.last q.number)) (console_stopped c)
    (console_part c (record c { last = index_raised c.last q.number }) q)

abbrev pub console_begins : ConsoleState → Option QueueRegs → Script (End ConsoleState) ConsoleState
console_begins c None = Stop (Idle c)
console_begins c (Some q) = Over c

abbrev pub console_plan : Plan ConsoleState
console_plan = record { begins = λ c. console_begins c c.serving; round = λ c. console_round c c.serving }

-- a round begins with an action, or ends the service
round_opens : (c : ConsoleState) (q : Option QueueRegs) → opened console_plan.round (console_round c q) ≡ console_round c q
unfolding opened caught ◌>>=◌
round_opens c None = refl
round_opens c (Some q) = refl

pub console_opens : (c : ConsoleState) → opened console_plan.round (console_plan.round c) ≡ console_plan.round c
console_opens c = round_opens c c.serving
