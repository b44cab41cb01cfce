-- The schedule of a run on one thread: rounds, in which each hart has its turn, each device serves, and time goes on.
use Rattle.std.specs.Prelude.{◌==◌, ℕ, zero, suc, ◌+◌, List, [], ◌∷◌, ◌++◌, length, Option, Some, None, Bool, false, nat_le, nat_lt, if◌then◌else◌}
use Rattle.tv_base.specs.declared.Why.{Why}
use Rattle.tv_base.specs.declared.Why.TheVariants as why
use Rattle.tv_hart.specs.declared.Did.{Did}
use Rattle.tv_hart.specs.declared.Did.TheVariants as did
use Rattle.tv_items.specs.declared.action.Heard.{Heard}
use Rattle.tv_items.specs.declared.action.Heard.TheVariants as heard
use Rattle.tv_items.specs.declared.action.Way.{Way}
use Rattle.tv_items.specs.declared.action.Way.TheVariants.{Memory, Interrupt, Outside}
use Rattle.tv_items.specs.Fits.{way_of}
use Rattle.tv_machine.specs.declared.machine.Machine.{Machine}
use Rattle.tv_plan.specs.Devices.{DeviceState}
use Rattle.tv_script.specs.Services.{Next, Asks, Rests, Loses}
use Rattle.tv_journal.specs.declared.Entry.{Entry}
use Rattle.tv_journal.specs.declared.Entry.TheVariants as entry
use Rattle.tv_spec.specs.declared.Mode.{Mode}
use Rattle.tv_spec.specs.declared.Mode.TheVariants as mode
use Rattle.tv_spec.specs.declared.Stop.{Stop}
use Rattle.tv_spec.specs.declared.Stop.TheVariants as stop
use Rattle.tv_spec.specs.Devices.{next_of}
use Rattle.tv_spec.specs.declared.Closed.{Closed}
use Rattle.tv_spec.specs.Room.{has_room}
use Rattle.tv_spec.specs.Setup.{Setup, setup_of}
use Rattle.tv_spec.specs.Shows.{bytes_of}
use Rattle.tv_spec.specs.declared.Due.{Due}
use Rattle.tv_spec.specs.declared.Pending.{Pending}
use Rattle.tv_spec.specs.declared.Phase.{Phase}
use Rattle.tv_spec.specs.State.{State, DeviceRun, first_state}
use Rattle.tv_spec.specs.Step.{made, done, event_where}
use Rattle.tv_spec.specs.Update.{update}

-- 1. A run so far

-- the records for which its journal has room, and the messages that the command tube of a device holds
pub record Bounds : Type 0 where
  pub room : ℕ
  pub tube : ℕ

-- the state, the entries that led there, the bytes that they showed at the debug port, and by device the replies from outside
-- the machine that are still to come
pub record Solo : Type 0 where
  pub state : State
  pub entries : List Entry
  pub bytes : List ℕ
  pub answers : ℕ → List Heard

-- a run so far, and whether it stops there
abbrev pub Going : Type 0
Going = Solo × Option Stop

-- a part of the schedule after another, unless the run stopped
abbrev pub onward : (Solo → Going) → Going → Going
onward next (solo, None) = next solo
onward next (solo, Some stopped) = (solo, Some stopped)

-- with an entry more
abbrev pub makes : Setup → Solo → Entry → Solo
makes setup solo e = record {
  state = done setup solo.state (made e);
  entries = solo.entries ++ e ∷ [];
  bytes = solo.bytes ++ bytes_of solo.state (made e);
  answers = solo.answers;
}

abbrev pub stopped_by : Mode → Option Stop
stopped_by (mode.Ending cause) = Some (stop.Ended cause)
stopped_by _ = None

abbrev pub going : Solo → Going
going solo = (solo, stopped_by solo.state.mode)

-- an entry, where the journal has room for it and what is owed then
abbrev pub solo_entry : Setup → Bounds → Entry → Solo → Going
solo_entry setup bounds e solo =
    if has_room bounds.room setup solo.state solo.entries e then going (makes setup solo e) else (solo, Some stop.Full)

-- 2. Harts

-- the command tube of a device is full where it has so many items on which it has not acted
abbrev pub is_full : ℕ → DeviceRun → Bool
is_full tube v = nat_le (v.acted + tube) (length v.made)

abbrev pub full_below : ℕ → (ℕ → DeviceRun) → ℕ → List Bool
full_below tube devs zero = []
full_below tube devs (suc d) = full_below tube devs d ++ is_full tube (devs d) ∷ []

-- a device with a full tube takes no access; the debug port takes as many bytes as a round can have
abbrev pub closed_in : Setup → Bounds → State → Closed
closed_in setup bounds s = record { debug = false; loads = full; stores = full }
  where
    full : List Bool
    full = full_below bounds.tube s.devs (length setup.devices)

-- an event of a hart by what it does: a hart that stalls makes none, and so needs no room
abbrev pub event_by : Setup → Bounds → ℕ → Solo → Did → Going
event_by setup bounds hart solo did.Full = (solo, None)
event_by setup bounds hart solo _ = solo_entry setup bounds (entry.Hart hart) solo

-- and so does one that waits for a load
abbrev pub event_unless : Setup → Bounds → ℕ → Solo → Option Pending → Going
event_unless setup bounds hart solo (Some load) = (solo, None)
event_unless setup bounds hart solo None =
    event_by setup bounds hart solo (event_where (closed_in setup bounds solo.state) solo.state hart).0

abbrev pub solo_event : Setup → Bounds → ℕ → Solo → Going
solo_event setup bounds hart solo = event_unless setup bounds hart solo (solo.state.pending hart)

-- up to so many events of a hart
unfoldable pub turn : Setup → Bounds → ℕ → ℕ → Solo → Going
turn setup bounds hart zero solo = (solo, None)
turn setup bounds hart (suc left) solo = onward (turn setup bounds hart left) (solo_event setup bounds hart solo)

-- the turns of so many harts from one on, of up to 64 events each
unfoldable pub turns : Setup → Bounds → ℕ → ℕ → Solo → Going
turns setup bounds hart zero solo = (solo, None)
turns setup bounds hart (suc left) solo = onward (turns setup bounds (suc hart) left) (turn setup bounds hart 64 solo)

-- 3. Devices

-- the replies from outside that are still to come; a list that is at its end stands for failures
abbrev pub first_answer : List Heard → Heard
first_answer [] = heard.Failed
first_answer (h ∷ hs) = h

abbrev pub later_answers : List Heard → List Heard
later_answers [] = []
later_answers (h ∷ hs) = hs

-- the entry that a device makes now, if any. A reply that waits is delivered first, and an answer has its Reply; then what is
-- under way goes on; then the device begins its next action, or takes its next item
abbrev pub served_entry : ℕ → Next DeviceState → Option Entry
served_entry d (Asks action) = by_way d (way_of action)
  where
    by_way : ℕ → Way → Option Entry
    by_way d Memory = Some (entry.ServeMem d)
    by_way d Interrupt = Some (entry.ServeIrq d)
    by_way d Outside = None
served_entry d (Rests state) = None
served_entry d (Loses state) = None

abbrev pub begun_entry : ℕ → DeviceRun → Next DeviceState → Option Entry
begun_entry d v (Asks action) = by_way d (way_of action)
  where
    by_way : ℕ → Way → Option Entry
    by_way d Outside = Some (entry.Intend d)
    by_way d _ = Some (entry.Send d)
begun_entry d v _ = if nat_lt v.acted (length v.made) then Some (entry.Take d) else None

abbrev pub phase_entry : ℕ → DeviceRun → List Heard → Phase → Option Entry
phase_entry d v answers Phase.Quiet = begun_entry d v (next_of v)
phase_entry d v answers Phase.Sent = served_entry d (next_of v)
phase_entry d v answers (Phase.Served reply) = Some (entry.Got d)
phase_entry d v answers Phase.Intended = Some (entry.Did d (first_answer answers))

abbrev pub answer_entry : ℕ → DeviceRun → List Heard → List Due → List Due → Option Entry
answer_entry d v answers due (w ∷ ws) = Some (entry.Deliver d)
answer_entry d v answers (w ∷ ws) [] = Some (entry.Reply d)
answer_entry d v answers [] [] = phase_entry d v answers v.phase

abbrev pub device_entry : ℕ → DeviceRun → List Heard → Option Entry
device_entry d v answers = answer_entry d v answers v.due v.replied

-- a Did uses up a reply
abbrev pub answers_after : (ℕ → List Heard) → Entry → ℕ → List Heard
answers_after answers (entry.Did d heard) = update answers d (later_answers (answers d))
answers_after answers _ = answers

abbrev pub device_makes : Setup → Bounds → Entry → Solo → Going
device_makes setup bounds e solo = solo_entry setup bounds e (record solo { answers = answers_after solo.answers e })

abbrev pub device_step : Setup → Bounds → (Solo → Going) → Solo → Option Entry → Going
device_step setup bounds next solo None = (solo, None)
device_step setup bounds next solo (Some e) = onward next (device_makes setup bounds e solo)

-- up to so many entries of a device
unfoldable pub device_turn : Setup → Bounds → ℕ → ℕ → Solo → Going
device_turn setup bounds d zero solo = (solo, None)
device_turn setup bounds d (suc left) solo =
    device_step setup bounds (device_turn setup bounds d left) solo (device_entry d (solo.state.devs d) (solo.answers d))

-- the entries of so many devices from one on. Each entry is a record, so a device has made all that it can where it was asked
-- once more than there is room for records
unfoldable pub device_turns : Setup → Bounds → ℕ → ℕ → Solo → Going
device_turns setup bounds d zero solo = (solo, None)
device_turns setup bounds d (suc left) solo =
    onward (device_turns setup bounds (suc d) left) (device_turn setup bounds d (suc bounds.room) solo)

-- 4. Rounds

-- time goes on by 64
abbrev pub solo_tick : Setup → Bounds → Solo → Going
solo_tick setup bounds solo = solo_entry setup bounds (entry.Tick 64) solo

-- the turns of all harts, the entries of all devices, and a tick
abbrev pub round : Setup → Bounds → Solo → Going
round setup bounds solo =
    onward (solo_tick setup bounds)
    (onward (device_turns setup bounds 0 (length setup.devices)) (turns setup bounds 0 setup.harts solo))

-- up to so many rounds
unfoldable pub rounds : Setup → Bounds → ℕ → Solo → Going
rounds setup bounds zero solo = (solo, None)
rounds setup bounds (suc left) solo = onward (rounds setup bounds left) (round setup bounds solo)

-- a run's beginning, where these replies come from outside
abbrev pub first_solo : Machine → List ℕ → (ℕ → List Heard) → Solo
first_solo machine image answers =
    record { state = first_state machine image; entries = []; bytes = []; answers = answers }

abbrev pub bounds_of : Machine → Bounds
bounds_of machine = record { room = machine.journal_entries; tube = machine.tube }

-- so many rounds of the run of a machine with an image. No hart waits or stalls as a round begins, so a run that goes on makes
-- an event in each of them, and stops before its limit of events is passed
abbrev pub solo_rounds : Machine → List ℕ → (ℕ → List Heard) → ℕ → Going
solo_rounds machine image answers n =
    rounds (setup_of machine) (bounds_of machine) n (first_solo machine image answers)

abbrev pub solo_run : Machine → List ℕ → (ℕ → List Heard) → Going
solo_run machine image answers = solo_rounds machine image answers machine.steps

-- the replies from outside that entries have, by device
abbrev pub answers_in : List Entry → ℕ → List Heard
answers_in [] d = []
answers_in (entry.Did other heard ∷ entries) d =
    if other == d then heard ∷ answers_in entries d else answers_in entries d
answers_in (_ ∷ entries) d = answers_in entries d

-- the outer end of a run that stopped: there is one where the journal was full, after all entries
abbrev pub outer_of_stop : List Entry → Stop → Option (ℕ × Why)
outer_of_stop entries stop.Full = Some (length entries, why.Full)
outer_of_stop entries _ = None
