-- Runs of a device worked by hand: a machine with one hart and one probe, 16 bytes of memory with the numbers 1 to 16, of which
-- the probe may read all, and no interrupt source.
use Rattle.std.proofs.Common.{◌≡◌, ℕ, ◌<◌, List, [], ◌∷◌, map, false, Some, None, refl, arith, inl, inr}
use Rattle.tv_base.specs.declared.Width.TheVariants.{B4, B8}
use Rattle.tv_hart.specs.Hart.{first_hart}
use Rattle.tv_items.specs.declared.item.Item.TheVariants as item
use Rattle.tv_machine.specs.declared.kinds.MemRange.{MemRange}
use Rattle.tv_plan.specs.Devices.{DeviceState, act, next}
use Rattle.tv_plan.specs.Probe.{new_probe}
use Rattle.tv_script.specs.Services.{Rests, after as after_replies, next_of as next_of_script, opened, replied}
use Rattle.tv_grants.specs.Grants.{each_below}
use Rattle.tv_journal.specs.declared.Entry.{Entry}
use Rattle.tv_journal.specs.declared.Entry.TheVariants as entry
use Rattle.tv_spec.specs.declared.Mode.TheVariants as mode
use Rattle.tv_spec.specs.Devices.{next_of}
use Rattle.tv_spec.specs.Legal.{after, IsLegal}
use Rattle.tv_spec.specs.LocalState.{first_local}
use Rattle.tv_spec.specs.Reservations.{after_other_write, granule}
use Rattle.tv_spec.specs.Setup.{Setup}
use Rattle.tv_spec.specs.declared.Made.{Made}
use Rattle.tv_spec.specs.declared.Maker.{Maker}
use Rattle.tv_spec.specs.State.{State, first_run}
use Rattle.tv_spec.specs.Step.{Move, made, Can, done}

abbrev memory : List ℕ
memory = 1 ∷ 2 ∷ 3 ∷ 4 ∷ 5 ∷ 6 ∷ 7 ∷ 8 ∷ 9 ∷ 10 ∷ 11 ∷ 12 ∷ 13 ∷ 14 ∷ 15 ∷ 16 ∷ []

abbrev readable : MemRange
readable = record { base = 0x8000_0000; len = 16; rights = record { 0 = 1 } }

abbrev machine : Setup
machine = record { harts = 1; steps = 100; devices = record { mem = readable ∷ []; irq = false } ∷ [] }

abbrev by_hart : List item.the_data → List Made
by_hart items = map (λ i. record { item = i; maker = Maker.Hart 0 }) items

-- a state in which hart 0 has made these items, the last of which is no load; all else is as a run begins
abbrev with_items : List Made → State
with_items items = record {
  harts = first_hart;
  pending = λ hart. None;
  devs = λ slot. record (first_run (DeviceState.Probe new_probe)) { made = items };
  local = first_local 1 1 memory;
  withdrawn = false ∷ [];
  mode = mode.Running;
  events = 3;
  ticked = false;
}

abbrev entries_of : List Entry → List Move
entries_of es = map made es

-- 1. A read of two bytes: ADDR, LEN and GO are stored, and the device asks for them at the address 0x8000_0004

abbrev reads : List Made
reads = by_hart (item.Store B8 0x00 0x8000_0004 ∷ item.Store B4 0x08 2 ∷ item.Store B4 0x18 1 ∷ [])

abbrev served : List Move
served = entries_of (entry.Take 0 ∷ entry.Take 0 ∷ entry.Take 0 ∷ entry.Send 0 ∷ entry.ServeMem 0 ∷ entry.Got 0 ∷ [])

read_is_legal : IsLegal machine (with_items reads) served
unfolding act next after_replies next_of_script opened replied each_below
read_is_legal =
    let one : 0 < 1 = omega arith in (
      (one, tt, record { quiet = refl; over = tt; answered = tt; more = omega arith }),
      (
        (one, tt, record { quiet = refl; over = tt; answered = tt; more = omega arith }),
        (
          (one, tt, record { quiet = refl; over = tt; answered = tt; more = omega arith }),
          (
            (one, tt, record { quiet = refl; asks = inl refl }),
            (
              (one, tt, record { sent = refl; asks = refl }),
              ((one, tt), tt),
            ),
          ),
        ),
      ),
    )

-- the bytes are 5 and 6
read_gives : next_of ((after machine (with_items reads) served).devs 0)
    ≡ Rests (DeviceState.Probe (record { addr = 0x8000_0004; len = 2; datum = 0x0605; result = 1; count = 3; going = 0 }))
unfolding act next after_replies next_of_script opened replied each_below
read_gives = refl

-- one byte more than the probe may read: the read is refused, and memory and DATA stay as they were
abbrev past_end : List Made
past_end = by_hart (item.Store B8 0x00 0x8000_000F ∷ item.Store B4 0x08 2 ∷ item.Store B4 0x18 1 ∷ [])

read_refused : next_of ((after machine (with_items past_end) served).devs 0)
    ≡ Rests (DeviceState.Probe (record { addr = 0x8000_000F; len = 2; datum = 0; result = 2; count = 3; going = 0 }))
unfolding act next after_replies next_of_script opened replied each_below
read_refused = refl

memory_stays : (after machine (with_items past_end) served).local.ram ≡ memory
unfolding act next after_replies next_of_script opened replied each_below
memory_stays = refl

-- 2. An interrupt: the probe has no source, so GO 3 is refused, and nothing is raised
abbrev raises : List Made
raises = by_hart (item.Store B4 0x18 3 ∷ [])

abbrev interrupted : List Move
interrupted = entries_of (entry.Take 0 ∷ entry.Send 0 ∷ entry.ServeIrq 0 ∷ entry.Got 0 ∷ [])

raise_refused : next_of ((after machine (with_items raises) interrupted).devs 0)
    ≡ Rests (DeviceState.Probe (record { addr = 0; len = 0; datum = 0; result = 2; count = 1; going = 0 }))
unfolding act next after_replies next_of_script opened replied
raise_refused = refl

-- and it is no request to memory
not_to_memory : Can machine (after machine (with_items raises) (entries_of (entry.Take 0 ∷ entry.Send 0 ∷ []))) (made (entry.ServeMem 0)) → ⊥
unfolding act next after_replies next_of_script opened replied
not_to_memory can = let way = can.2.asks in cc

-- LEN 9 is refused at the store to GO: there is no action, so there is no Send
abbrev too_long : List Made
too_long = by_hart (item.Store B4 0x08 9 ∷ item.Store B4 0x18 2 ∷ [])

nothing_sent : Can machine (after machine (with_items too_long) (entries_of (entry.Take 0 ∷ entry.Take 0 ∷ []))) (made (entry.Send 0)) → ⊥
unfolding act next after_replies next_of_script opened replied
nothing_sent can = elim can.2.asks [ inl way ↦ way | inr way ↦ way ]

-- 3. A device's write of one byte ends the reservation of the 8 bytes in which it lies, and that of the next 8 bytes stays
reservation_ends : after_other_write 0x8000_0207 1 (Some (granule 0x8000_0200) ∷ Some (granule 0x8000_0208) ∷ []) ≡ None ∷ Some (granule 0x8000_0208) ∷ []
reservation_ends = refl

-- 4. The order of moves. A load was acted on: its value is due, so the device takes no further item before its Reply, nothing can be
-- delivered yet, and a second tick can't follow a tick
abbrev loads : List Made
loads = by_hart (item.Load B4 0x1C ∷ item.Store B4 0x18 3 ∷ [])

abbrev acted : State
acted = after machine (with_items loads) (entries_of (entry.Take 0 ∷ []))

reply_first : Can machine acted (made (entry.Take 0)) → ⊥
unfolding act next after_replies next_of_script opened replied
reply_first can = can.2.answered.0

deliver_later : Can machine acted (made (entry.Deliver 0)) → ⊥
unfolding act next after_replies next_of_script opened replied
deliver_later can = let none = can.1 in omega arith

reply_now : Can machine acted (made (entry.Reply 0))
unfolding act next after_replies next_of_script opened replied
reply_now = (omega arith, omega arith)

one_tick : Can machine (done machine (with_items loads) (made (entry.Tick 1))) (made (entry.Tick 1)) → ⊥
one_tick can = let first = can.first in cc

-- a device that the machine doesn't have makes no move
no_such_device : Can machine (with_items loads) (made (entry.Take 1)) → ⊥
no_such_device can = let exists = can.0 in omega arith
