-- The balloon (VIRTIO 1.2, section 5.5): the driver inflates it by queue 0 with pages that it no longer uses, deflates it by queue 1,
-- and tells statistics by queue 2.
--     its configuration (5.5.4)   num_pages, how many pages it is to hold, and actual, how many the driver says it holds: 4 bytes each
--     a request (5.5.6)           readable: page numbers of 4 bytes
--     statistics (5.5.6.3)        readable: numbers of 8 bytes, each after its tag of 2
-- What the standard leaves to the device is settled so: an inflated page is filled with zeros, and no device may touch it where
-- the driver tells before it uses one again (MUST_TELL_HOST); what is left behind the last whole number is left out; a reset
-- gives no page back; of statistics the first 32 numbers count, and one request for them waits at a time.
use Rattle.std.specs.Prelude.{◌≡◌, ℕ, ◌+◌, ◌*◌, ◌/◌, ◌%◌, ◌^◌, ◌==◌, ◌&&◌, ◌||◌, not, min, map, Bool, true, false, if◌then◌else◌, List, [], ◌∷◌, ◌++◌, length, drop, replicate, slice_index, slice_set, Option, Some, None}
use Rattle.std.specs.List.{range_with_len}
use Rattle.std.proofs.Common.{refl}
use Rattle.byteorder.specs.Endian.{little_number, little_bytes}
use Rattle.tv_base.specs.declared.Width.{Width}
use Rattle.tv_base.specs.declared.Width.TheVariants.{B4}
use Rattle.tv_items.specs.declared.stats.TheConstants.{STATS}
use Rattle.tv_items.specs.declared.item.Item.{Item}
use Rattle.tv_items.specs.declared.item.Item.TheVariants as item
use Rattle.tv_items.specs.declared.item.Verdict.{Verdict}
use Rattle.tv_items.specs.declared.action.Action.{Action}
use Rattle.tv_items.specs.declared.action.Action.TheVariants as action
use Rattle.tv_script.specs.Scripts.{Script, Over, Stop, Ask, Tell, ◌>>=◌, caught}
use Rattle.tv_script.specs.Services.{End, Idle, Plan, opened}
use Rattle.tv_transport.specs.declared.registers.Effect.{Effect}
use Rattle.tv_transport.specs.declared.registers.Effect.TheVariants as effect
use Rattle.tv_transport.specs.declared.registers.TheConstants.{VERSION_1}
use Rattle.tv_transport.specs.Registers.{Registers, first_registers, transport_load, transport_store, has, DRIVER_OK, queue_regs, broken, buffer_used, config_changed}
use Rattle.tv_plan.specs.Serving.{is_served, index_raised, interrupt_if, broken_off, stopped_as}
use Rattle.tv_virtio.specs.declared.queue.QueueRegs.{QueueRegs}
use Rattle.tv_virtio.specs.declared.queue.QueueStop.{QueueStop}
use Rattle.tv_virtio.specs.Queue.{heard_done, take_chain, give_chain, hand_back, Took}

-- its registers and its configuration, how far its queues are, the statistics request that waits, by its tag, and the chain of
-- queue 2 that is held, by its head; and what is due or under way: the service of a queue, before that the return of a chain
-- that was held, or an interrupt for a new number of pages
pub record BalloonState : Type 0 where
  pub registers : Registers
  pub pages : ℕ
  pub actual : ℕ
  pub last : List ℕ
  pub used : List ℕ
  pub waiting : Option ℕ
  pub held : Option ℕ
  pub serving : Option QueueRegs
  pub returning : Option ℕ
  pub interrupting : Bool

-- features (5.5.3): the driver tells before it uses a page again; there is a queue for statistics
abbrev pub MUST_TELL_HOST : ℕ
MUST_TELL_HOST = 1

abbrev pub STATS_VQ : ℕ
STATS_VQ = 2

abbrev pub new_balloon : BalloonState
new_balloon = record {
  registers = first_registers 5 (VERSION_1 + (STATS_VQ + MUST_TELL_HOST)) 3;
  pages = 0;
  actual = 0;
  last = replicate 3 0;
  used = replicate 3 0;
  waiting = None;
  held = None;
  serving = None;
  returning = None;
  interrupting = false;
}

-- 1. Items

-- an item comes only where nothing is under way
abbrev pub balloon_rested : BalloonState → BalloonState
balloon_rested b = record b { serving = None; returning = None; interrupting = false }

-- a verdict without statistics
abbrev pub verdict : ℕ → ℕ → ℕ → Verdict
verdict tag status other = record { tag = tag; status = status; other = other; stats = [] }

abbrev pub is_some : Option ℕ → Bool
is_some None = false
is_some (Some n) = true

-- the queue that a notification of its number has served; that of statistics, where it was accepted and no chain of it is held
abbrev pub balloon_serves : BalloonState → ℕ → Option QueueRegs
balloon_serves b n =
    if is_served b.registers && not (n == 2 && (is_some b.held || not (has b.registers.accepted STATS_VQ))) then queue_regs b.registers n
    else None

abbrev pub balloon_effect : BalloonState → Effect → BalloonState
balloon_effect b effect.Reset = record b { actual = 0; waiting = None; held = None }
balloon_effect b (effect.Ready n) = record b { last = slice_set b.last n 0; used = slice_set b.used n 0 }
balloon_effect b (effect.Notify n) = record b { serving = balloon_serves b n }
balloon_effect b _ = b

-- a store to the configuration: the driver says how many pages the balloon holds
abbrev pub balloon_configured : BalloonState → Width → ℕ → ℕ → BalloonState
balloon_configured b B4 off value = if off == 0x104 then record b { actual = value % 2 ^ 32 } else b
balloon_configured b width off value = b

-- a request for statistics can't be served: the driver isn't ready, or the device is broken, or the queue isn't there
abbrev pub has_stats : BalloonState → Option QueueRegs → Bool
has_stats b None = false
has_stats b (Some q) = is_served b.registers && has b.registers.accepted STATS_VQ

-- the request waits, and the chain that is held goes back
abbrev pub asked_again : BalloonState → Option ℕ → Option QueueRegs → BalloonState
asked_again b None q = b
asked_again b (Some head) q = record b { held = None; returning = Some head; serving = q }

abbrev pub stats_waits : BalloonState → ℕ → Option ℕ → Option QueueRegs → BalloonState
stats_waits b tag (Some other) q = b
stats_waits b tag None q = asked_again (record b { waiting = Some tag }) b.held q

abbrev pub stats_asked : BalloonState → ℕ → Option QueueRegs → BalloonState
stats_asked b tag q = if has_stats b q then stats_waits b tag b.waiting q else b

-- the device after an item
abbrev pub balloon_acted : BalloonState → ℕ → Item → BalloonState
balloon_acted b tag (item.Store width off value) =
    let s = transport_store b.registers width off value in
    let rested : BalloonState = balloon_rested b in
    balloon_effect (balloon_configured (record rested { registers = s.registers }) width off value) s.effect
balloon_acted b tag (item.Target pages) =
    let rested : BalloonState = balloon_rested b in
    record rested { registers = config_changed b.registers; pages = pages; interrupting = has b.registers.status DRIVER_OK }
balloon_acted b tag item.Stats = stats_asked (balloon_rested b) tag (queue_regs b.registers 2)
balloon_acted b tag i = balloon_rested b

-- what it decides at once: a new number of pages is taken; a request for statistics can't be served, or another waits; a reset
-- refuses the one that waits
abbrev pub refused_by : Option ℕ → Option Verdict
refused_by None = None
refused_by (Some tag) = Some (verdict tag 5 0)

abbrev pub reset_decides : BalloonState → Effect → Option Verdict
reset_decides b effect.Reset = refused_by b.waiting
reset_decides b _ = None

abbrev pub busy_by : ℕ → Option ℕ → Option Verdict
busy_by tag None = None
busy_by tag (Some other) = Some (verdict tag 6 other)

abbrev pub balloon_decides : BalloonState → ℕ → Item → Option Verdict
balloon_decides b tag (item.Store width off value) = reset_decides b (transport_store b.registers width off value).effect
balloon_decides b tag (item.Target pages) = Some (verdict tag 0 0)
balloon_decides b tag item.Stats =
    if has_stats b (queue_regs b.registers 2) then busy_by tag b.waiting else Some (verdict tag 5 0)
balloon_decides b tag i = None

abbrev pub balloon_loaded : BalloonState → Item → ℕ
balloon_loaded b (item.Load width off) = transport_load b.registers (little_bytes 4 b.pages ++ little_bytes 4 b.actual) width off
balloon_loaded b i = 0

-- 2. How a chain goes back, and a service ends

-- a broken service: the device needs a reset, and the statistics request that waits is refused first
abbrev pub balloon_broke : BalloonState → BalloonState
balloon_broke b = let rested : BalloonState = balloon_rested b in record rested { registers = broken b.registers; waiting = None }

abbrev pub after_refusal : Option ℕ → Script (End BalloonState) BalloonState → Script (End BalloonState) BalloonState
after_refusal None rest = rest
after_refusal (Some tag) rest = Tell (verdict tag 5 0) rest

abbrev pub balloon_broken : BalloonState → Script (End BalloonState) BalloonState
balloon_broken b = after_refusal b.waiting (broken_off b.registers (balloon_broke b))

-- the same by a refused interrupt, which is not followed by another
abbrev pub balloon_refused : BalloonState → Script (End BalloonState) BalloonState
balloon_refused b = after_refusal b.waiting (Stop (Idle (balloon_broke b)))

abbrev pub balloon_stopped : BalloonState → QueueStop → Script (End BalloonState) BalloonState
balloon_stopped b = stopped_as (balloon_rested b) (balloon_broken b)

-- a buffer was used
abbrev pub balloon_finish : BalloonState → Bool → Script (End BalloonState) BalloonState
balloon_finish b wanted =
    let told : BalloonState = record b { registers = buffer_used b.registers } in
    interrupt_if wanted (Over told) (balloon_refused told)

-- 3. Queues 0 and 1: pages

-- the numbers that bytes spell, 4 bytes each
abbrev pub page_at : List ℕ → ℕ → ℕ
page_at bytes n = little_number 4 (drop (4 * n) bytes)

abbrev pub page_numbers : List ℕ → List ℕ
page_numbers bytes = map (page_at bytes) (range_with_len 0 (length bytes / 4))

-- what is done with a page
abbrev pub inflate : Bool → ℕ → Action
inflate hold page = action.Release page hold

abbrev pub deflate : ℕ → Action
deflate page = action.Regain page

-- and with each of them
unfoldable pub each_page : (ℕ → Action) → List ℕ → Script QueueStop (Unit {0})
each_page ask [] = Over tt
each_page ask (p ∷ ps) = Ask (ask p) heard_done >>= λ _. each_page ask ps

abbrev pub page_action : Registers → ℕ → ℕ → Action
page_action r number = if number == 0 then inflate (has r.accepted MUST_TELL_HOST) else deflate

-- the chain goes back with nothing written
abbrev pub balloon_hand : BalloonState → QueueRegs → Took → Unit {0} → Script (End BalloonState) BalloonState
balloon_hand b q took done =
    caught (give_chain q (slice_index b.used q.number) took.head took.chain.writable []) (balloon_stopped b)
    (balloon_finish (record b { used = index_raised b.used q.number }))

abbrev pub move_pages : BalloonState → QueueRegs → Took → Script (End BalloonState) BalloonState
move_pages b q took =
    caught (each_page (page_action b.registers q.number) (page_numbers took.readable)) (balloon_stopped b) (balloon_hand b q took)

-- 4. Queue 2: statistics

-- the numbers that bytes spell, 10 bytes each with the tag
abbrev pub stat_at : List ℕ → ℕ → ℕ × ℕ
stat_at bytes n = (little_number 2 (drop (10 * n) bytes), little_number 8 (drop (10 * n + 2) bytes))

abbrev pub stats_of : List ℕ → List (ℕ × ℕ)
stats_of bytes = map (stat_at bytes) (range_with_len 0 (min (length bytes / 10) STATS))

abbrev pub stats_verdict : ℕ → List (ℕ × ℕ) → Verdict
stats_verdict tag stats = record { tag = tag; status = 0; other = 0; stats = stats }

-- the request that waits is answered, and the chain is held
abbrev pub balloon_holds : BalloonState → ℕ → BalloonState
balloon_holds b head = let rested : BalloonState = balloon_rested b in record rested { waiting = None; held = Some head }

abbrev pub tell_stats : BalloonState → Took → Option ℕ → Script (End BalloonState) BalloonState
tell_stats b took None = Stop (Idle (balloon_holds b took.head))
tell_stats b took (Some tag) = Tell (stats_verdict tag (stats_of took.readable)) (Stop (Idle (balloon_holds b took.head)))

-- a chain that was held goes back, and the service of its queue goes on
abbrev pub returned : BalloonState → QueueRegs → ℕ → Script (End BalloonState) BalloonState
returned b q head =
    caught (hand_back q (slice_index b.used q.number) head 0) (balloon_stopped b)
    (balloon_finish (record b { used = index_raised b.used q.number; returning = None }))

-- 5. Services

abbrev pub balloon_part : BalloonState → QueueRegs → Took → Script (End BalloonState) BalloonState
balloon_part b q took = if q.number == 2 then tell_stats b took b.waiting else move_pages b q took

-- a round: the next chain
abbrev pub balloon_round : BalloonState → Option QueueRegs → Script (End BalloonState) BalloonState
balloon_round b None = Stop (Idle b)
balloon_round b (Some q) =
    caught (take_chain q (slice_index b.last q.number)) (balloon_stopped b)
    (balloon_part (record b { last = index_raised b.last q.number }) q)

abbrev pub balloon_begins : BalloonState → Bool → Option ℕ → Option QueueRegs → Script (End BalloonState) BalloonState
balloon_begins b true returning serving = interrupt_if true (Stop (Idle (balloon_rested b))) (balloon_refused b)
balloon_begins b false returning None = Stop (Idle b)
balloon_begins b false None (Some q) = Over b
balloon_begins b false (Some head) (Some q) = returned b q head

abbrev pub balloon_plan : Plan BalloonState
balloon_plan = record { begins = λ b. balloon_begins b b.interrupting b.returning b.serving; round = λ b. balloon_round b b.serving }

-- a round begins with an action, or ends the service
round_opens : (b : BalloonState) (q : Option QueueRegs) → opened balloon_plan.round (balloon_round b q) ≡ balloon_round b q
unfolding opened caught ◌>>=◌
round_opens b None = refl
round_opens b (Some q) = refl

pub balloon_opens : (b : BalloonState) → opened balloon_plan.round (balloon_plan.round b) ≡ balloon_plan.round b
balloon_opens b = round_opens b b.serving
