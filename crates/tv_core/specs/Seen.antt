-- A core as contracts see it: the machine and the image that it was made of, its history, and what it handed out.
use Rattle.std.specs.Prelude.{ℕ, ◌+◌, ◌<◌, List, [], ◌∷◌, ◌++◌, length, replicate, Bool, true, false, Option, Some, None, slice_set}
use Rattle.tv_base.specs.declared.Why.{Why}
use Rattle.tv_journal.specs.declared.Entry.{Entry}
use Rattle.tv_journal.specs.declared.Entry.TheVariants as entry
use Rattle.tv_machine.specs.declared.machine.Machine.{Machine}
use Rattle.tv_spec.specs.Legal.{after, with_outer}
use Rattle.tv_spec.specs.Setup.{Setup, setup_of}
use Rattle.tv_spec.specs.Shows.{debug_bytes}
use Rattle.tv_spec.specs.State.{State, DeviceRun, first_state}
use Rattle.tv_spec.specs.Step.{Move}

-- the machine and its image; the entries; the end that no entry made, with the number of entries before it, and the seat of who
-- made it; how many debug bytes were handed out; and by slot whether a device's worker was told of the ending
pub record Seen : Type 0 where
  pub machine : Machine
  pub image : List ℕ
  pub entries : List Entry
  pub outer : Option (ℕ × Why)
  pub seat : ℕ
  pub handed : ℕ
  pub told : List Bool

-- its history as moves of the in-process monitor, and what they lead to
abbrev pub setup_by : Seen → Setup
setup_by p = setup_of p.machine

abbrev pub first_by : Seen → State
first_by p = first_state p.machine p.image

abbrev pub history : Seen → List Move
history p = with_outer p.entries p.outer

abbrev pub state_of : Seen → State
state_of p = after (setup_by p) (first_by p) (history p)

abbrev pub dev_of : Seen → ℕ → DeviceRun
dev_of p d = (state_of p).devs d

-- the bytes that its harts stored to the debug port
abbrev pub debug_of : Seen → List ℕ
debug_of p = debug_bytes (setup_by p) (first_by p) (history p)

-- the machine has this hart, or a device in this slot
abbrev pub HasHart : Seen → ℕ → Type 0
HasHart p hart = hart < p.machine.harts

abbrev pub HasDevice : Seen → ℕ → Type 0
HasDevice p d = d < length p.machine.device

-- as it begins: nothing was made, handed out or told
abbrev pub first_seen : Machine → List ℕ → Seen
first_seen machine image = record {
  machine = machine;
  image = image;
  entries = [];
  outer = None;
  seat = 0;
  handed = 0;
  told = replicate (length machine.device) false;
}

-- with an entry more
abbrev pub with_entry : Seen → Entry → Seen
with_entry p e = record p { entries = p.entries ++ e ∷ [] }

-- with so many events of a hart more
abbrev pub with_events : Seen → ℕ → ℕ → Seen
with_events p hart n = record p { entries = p.entries ++ replicate n (entry.Hart hart) }

-- ended behind its entries, by who has this seat
abbrev pub with_end : Seen → Why → ℕ → Seen
with_end p cause seat = record p { outer = Some (length p.entries, cause); seat = seat }

-- the worker of a device was told of the ending
abbrev pub is_told : Seen → ℕ → Seen
is_told p d = record p { told = slice_set p.told d true }

-- The seat of who makes an entry. Seats are numbered from 1 on: the harts, the workers of the devices, the memory service, the
-- interrupt service, the debug port and the clock
abbrev pub worker_seat : Machine → ℕ → ℕ
worker_seat machine d = machine.harts + d + 1

abbrev pub service_seat : Machine → ℕ → ℕ
service_seat machine n = machine.harts + length machine.device + n

abbrev pub seat_of : Machine → Entry → ℕ
seat_of machine (entry.Hart hart) = hart + 1
seat_of machine (entry.Take d) = worker_seat machine d
seat_of machine (entry.Send d) = worker_seat machine d
seat_of machine (entry.Got d) = worker_seat machine d
seat_of machine (entry.Reply d) = worker_seat machine d
seat_of machine (entry.Intend d) = worker_seat machine d
seat_of machine (entry.Did d heard) = worker_seat machine d
seat_of machine (entry.ServeMem d) = service_seat machine 1
seat_of machine (entry.Deliver d) = service_seat machine 1
seat_of machine (entry.ServeIrq d) = service_seat machine 2
seat_of machine (entry.Tick n) = service_seat machine 4
