-- What harts reach directly and share, as contracts see it.
use Rattle.std.specs.Prelude.{ℕ, ◌+◌, List, Option}
use Rattle.tv_intc.specs.Controller.{lines_of as external_line, started as started_controller}
use Rattle.tv_intc.specs.ControllerState.{Controller}
use Rattle.tv_intc.specs.Timer.{lines_of as timer_lines, started as started_timer, ticked}
use Rattle.tv_intc.specs.TimerState.{Clock}
use Rattle.tv_ram.specs.Memory.{with_number}
use Rattle.tv_spec.specs.Reservations.{after_hart_write, none_reserved, with_reserved}

-- guest memory; by the number of a hart the granule that it has reserved, if any; the timer block; the interrupt controller;
-- and how many slots have a device
pub record LocalState : Type 0 where
  pub ram : List ℕ
  pub reservations : List (Option ℕ)
  pub timer : Clock
  pub intc : Controller
  pub devices : ℕ

-- as a run begins, for so many harts and devices with this memory
abbrev pub first_local : ℕ → ℕ → List ℕ → LocalState
first_local harts devices ram = record {
  ram = ram;
  reservations = none_reserved;
  timer = started_timer harts;
  intc = started_controller harts;
  devices = devices;
}

-- the interrupt lines of a hart, as bits of mip; no bit is in both parts
abbrev pub lines_of : LocalState → ℕ → ℕ
lines_of local hart = timer_lines local.timer hart + external_line local.intc hart

-- time went on by n
abbrev pub after_tick : LocalState → ℕ → LocalState
after_tick local n = record local { timer = ticked local.timer n }

-- a hart wrote the low n bytes of a value to memory, which ends reservations of others
abbrev pub written_by : LocalState → ℕ → ℕ → ℕ → ℕ → LocalState
written_by local hart addr n value = record local {
  ram = with_number local.ram addr n value;
  reservations = after_hart_write hart addr n local.reservations;
}

-- a hart has this reservation, or none
abbrev pub with_reservation : LocalState → ℕ → Option ℕ → LocalState
with_reservation local hart place = record local { reservations = with_reserved local.reservations hart place }
