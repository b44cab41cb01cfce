-- A run on one thread worked by hand: its journal has room for two records, and the command tube of its one device holds one
-- message. The hart stores to the device and then loads from it: the load stalls, since the store fills the tube; the device takes
-- the store; and the tick finds no room.
use Rattle.std.proofs.Common.{◌≡◌, ℕ, List, [], ◌∷◌, false, Some, None, refl}
use Rattle.tv_hart.specs.Hart.{first_hart}
use Rattle.tv_isa.specs.Table.{reading, row_at}
use Rattle.tv_plan.specs.Devices.{DeviceState, act, next}
use Rattle.tv_plan.specs.Probe.{new_probe}
use Rattle.tv_script.specs.Services.{after as after_replies, next_of as next_of_script, opened, replied}
use Rattle.tv_journal.specs.declared.Entry.TheVariants as entry
use Rattle.tv_spec.specs.declared.Mode.TheVariants as mode
use Rattle.tv_spec.specs.declared.Stop.TheVariants as stop
use Rattle.tv_spec.specs.LocalState.{first_local}
use Rattle.tv_journal.specs.Entries.{record_count, records_of}
use Rattle.tv_spec.specs.Room.{sum_below}
use Rattle.tv_spec.specs.Setup.{Setup}
use Rattle.tv_spec.specs.Solo.{Bounds, Solo, Going, device_turn, device_turns, rounds, turn, turns}
use Rattle.tv_spec.specs.State.{first_run}

-- lui x5, 0x10001; sd x0, 16(x5); ld x6, 16(x5); jal x0, 0
abbrev words : List ℕ
words = 0xB7 ∷ 0x12 ∷ 0x00 ∷ 0x10 ∷ 0x23 ∷ 0xB8 ∷ 0x02 ∷ 0x00 ∷ 0x03 ∷ 0xB3 ∷ 0x02 ∷ 0x01 ∷ 0x6F ∷ 0x00 ∷ 0x00 ∷ 0x00 ∷ []

abbrev machine : Setup
machine = record { harts = 1; steps = 100; devices = record { mem = []; irq = false } ∷ [] }

abbrev start : Solo
start = record {
  state = record {
    harts = first_hart;
    pending = λ hart. None;
    devs = λ slot. first_run (DeviceState.Probe new_probe);
    local = first_local 1 1 words;
    withdrawn = [];
    mode = mode.Running;
    events = 0;
    ticked = false;
  };
  entries = [];
  bytes = [];
  answers = λ slot. [];
}

abbrev bounds : Bounds
bounds = record { room = 2; tube = 1 }

abbrev ran : Going
ran = rounds machine bounds 1 start

entries_are : ran.0.entries ≡ entry.Hart 0 ∷ entry.Hart 0 ∷ entry.Take 0 ∷ []
unfolding rounds turns turn device_turns device_turn reading row_at act next after_replies next_of_script opened replied record_count records_of sum_below
entries_are = refl

stops_full : ran.1 ≡ Some stop.Full
unfolding rounds turns turn device_turns device_turn reading row_at act next after_replies next_of_script opened replied record_count records_of sum_below
stops_full = refl
