-- What each call of a core does.
use Rattle.std.specs.Prelude.{◌≡◌, ◌≢◌, ◌⊎◌, ℕ, ◌+◌, ◌<◌, ◌≤◌, List, [], ◌∷◌, length, take, drop, min, Bool, true, false, Option, Some, None, slice_get}
use Rattle.tv_base.specs.declared.Why.{Why}
use Rattle.tv_base.specs.declared.Why.TheVariants as why
use Rattle.tv_base.specs.declared.limits.TheConstants.{DEBUG_RING_BYTES}
use Rattle.tv_items.specs.declared.action.Action.{Action}
use Rattle.tv_items.specs.declared.action.Heard.{Heard}
use Rattle.tv_items.specs.declared.action.Way.{Way}
use Rattle.tv_items.specs.declared.item.Item.{Item}
use Rattle.tv_items.specs.Fits.{way_of}
use Rattle.tv_journal.specs.declared.Entry.{Entry}
use Rattle.tv_journal.specs.declared.Entry.TheVariants as entry
use Rattle.tv_plan.specs.Devices.{next}
use Rattle.tv_script.specs.Answers.{FitsNext}
use Rattle.tv_script.specs.Services.{Asks}
use Rattle.tv_spec.specs.declared.Mode.{Mode}
use Rattle.tv_spec.specs.declared.Mode.TheVariants as mode
use Rattle.tv_spec.specs.declared.Shown.{Shown}
use Rattle.tv_spec.specs.declared.Shown.TheVariants as shown
use Rattle.tv_spec.specs.Devices.{next_of, IsOver, NoLoadDue, CanServe}
use Rattle.tv_spec.specs.Room.{has_room}
use Rattle.tv_spec.specs.Shows.{cause_in, exit_status}
use Rattle.tv_spec.specs.declared.Maker.{Maker}
use Rattle.tv_spec.specs.declared.Answer.{Answer}
use Rattle.tv_spec.specs.declared.Due.{Due}
use Rattle.tv_spec.specs.declared.Phase.{Phase}
use Rattle.tv_spec.specs.State.{DeviceRun}
use Rattle.tv_spec.specs.Step.{made, Can, event_of, IsOpen}
use Rattle.tv_core.specs.declared.proxied.Turn.{Turn}
use Rattle.tv_core.specs.declared.proxied.Turn.TheVariants as turn
use Rattle.tv_core.specs.Seen.{Seen, setup_by, state_of, dev_of, debug_of, with_entry, with_events, with_end, is_told, seat_of}

-- 1. The end of a run

-- whether the journal has room for an entry and all that is owed after it
abbrev pub has_room_in : Seen → Entry → Bool
has_room_in p e = has_room p.machine.journal_entries (setup_by p) (state_of p) p.entries e

-- an entry that may stand found no room, and the run ended as full: its actor ended it. Where the entry may not stand, as where a
-- tube is empty or a hart waits, nothing was wanting
pub record IsFull (old new : Seen) (e : Entry) : Type 0 where
  pub may : Can (setup_by old) (state_of old) (made e)
  pub is_open : IsOpen (state_of old).mode
  pub wanting : has_room_in old e ≡ false
  pub new_is : new ≡ with_end old why.Full (seat_of old.machine e)

-- the run had ended, or an entry found no room
pub data EndsNow (old new : Seen) (e : Entry) : Type 0 where
  before : (IsOpen (state_of old).mode → ⊥) → new ≡ old → EndsNow old new e
  full : IsFull old new e → EndsNow old new e

-- the same for a call of a device's worker, which is told of it
abbrev pub TellsEnd : Seen → Seen → ℕ → Entry → Type 0
TellsEnd old new d e = (later : Seen) × EndsNow old later e × (new ≡ is_told later d)

-- an end that no entry made: the first cause of an ending stays
abbrev pub EndedIn : Mode → Seen → Seen → Why → ℕ → Type 0
EndedIn (mode.Ending earlier) old new cause seat = new ≡ old
EndedIn _ old new cause seat = new ≡ with_end old cause seat

abbrev pub EndedSo : Seen → Seen → Why → ℕ → Type 0
EndedSo old new cause seat = EndedIn (state_of old).mode old new cause seat

-- the cause for which the run ended, if it did, and its exit status
abbrev pub why_of : Seen → Option Why
why_of p = cause_in (state_of p).mode

abbrev pub status_by : Option Why → Option ℕ
status_by None = None
status_by (Some cause) = Some (exit_status cause)

-- 2. Calls of a worker

-- a device that may act on an item, if there is one: nothing of a service is under way, and each load on which the device acted
-- has its Reply
pub record RestsNow (v : DeviceRun) : Type 0 where
  pub quiet : v.phase ≡ Phase.Quiet
  pub over : IsOver (next_of v)
  pub answered : NoLoadDue v.due

-- the next item of a device, with its tag
pub record IsNextItem (v : DeviceRun) (tag : ℕ) (i : Item) : Type 0 where
  pub place : tag ≡ v.acted
  pub maker : Maker
  pub item : slice_get v.made v.acted ≡ Some (record { item = i; maker = maker })

-- the tube is empty, and nothing changes; or the run had ended or ends now, and the worker is told
pub data TakesNone (old new : Seen) (d : ℕ) : Type 0 where
  empty : IsOpen (state_of old).mode → length (dev_of old d).made ≤ (dev_of old d).acted → new ≡ old → TakesNone old new d
  over : TellsEnd old new d (entry.Take d) → TakesNone old new d

abbrev pub TookSo : Seen → Seen → ℕ → Option (ℕ × Item) → Type 0
TookSo old new d (Some tagged) = IsNextItem (dev_of old d) tagged.0 tagged.1 × (new ≡ with_entry old (entry.Take d))
TookSo old new d None = TakesNone old new d

-- the device's next action, which doesn't go outside the machine
pub record WantsInside (v : DeviceRun) (a : Action) : Type 0 where
  pub quiet : v.phase ≡ Phase.Quiet
  pub is : next_of v ≡ Asks a
  pub inside : way_of a ≢ Way.Outside

abbrev pub BeganSo : Seen → Seen → ℕ → Entry → Bool → Type 0
BeganSo old new d e true = new ≡ with_entry old e
BeganSo old new d e false = TellsEnd old new d e

-- a reply that a service made lies there, and the worker gets it, also where the run has ended
pub record IsHeardNow (v : DeviceRun) (heard : Heard) : Type 0 where
  pub served : v.phase ≡ Phase.Served heard
  pub fits : FitsNext (next v.device v.got) heard

-- where none lies there, nothing changes but that after the ending the worker is told
abbrev pub HeardNone : Mode → Seen → Seen → ℕ → Type 0
HeardNone (mode.Ending cause) old new d = new ≡ is_told old d
HeardNone _ old new d = new ≡ old

abbrev pub GotSo : Seen → Seen → ℕ → Option Heard → Type 0
GotSo old new d (Some heard) = IsHeardNow (dev_of old d) heard × (new ≡ with_entry old (entry.Got d))
GotSo old new d None = ((heard : Heard) → (dev_of old d).phase ≢ Phase.Served heard) × HeardNone (state_of old).mode old new d

-- the first of the answers without a Reply
pub record IsFirstDue (v : DeviceRun) (tag : ℕ) (answer : Answer) : Type 0 where
  pub maker : Maker
  pub rest : List Due
  pub due : v.due ≡ record { tag = tag; maker = maker; answer = answer } ∷ rest

-- 3. Calls of the services and of the clock

-- the service of this way serves the device's request; where the run goes on and none lies there, nothing changes
abbrev pub NotServed : Mode → Seen → Seen → ℕ → Way → Entry → Type 0
NotServed (mode.Ending cause) old new d way e = new ≡ old
NotServed _ old new d way e = ((CanServe (dev_of old d) way → ⊥) × (new ≡ old)) ⊎ IsFull old new e

abbrev pub ServedSo : Seen → Seen → ℕ → Way → Entry → Bool → Type 0
ServedSo old new d way e true = CanServe (dev_of old d) way × (new ≡ with_entry old e)
ServedSo old new d way e false = NotServed (state_of old).mode old new d way e

-- the oldest Reply lands, also where the run has ended
abbrev pub DeliveredSo : Seen → Seen → ℕ → Bool → Type 0
DeliveredSo old new d true = (0 < length (dev_of old d).replied) × (new ≡ with_entry old (entry.Deliver d))
DeliveredSo old new d false = ((dev_of old d).replied ≡ []) × (new ≡ old)

-- time goes on; not where the run has ended or the last entry is a tick, and nothing changes then
abbrev pub NotTicked : Mode → Bool → Seen → Seen → ℕ → Type 0
NotTicked mode.Running false old new n = IsFull old new (entry.Tick n)
NotTicked _ ticked old new n = new ≡ old

abbrev pub TickedSo : Seen → Seen → ℕ → Bool → Type 0
TickedSo old new n true = ((state_of old).mode ≡ mode.Running) × ((state_of old).ticked ≡ false) × (new ≡ with_entry old (entry.Tick n))
TickedSo old new n false = NotTicked (state_of old).mode (state_of old).ticked old new n

-- 4. A turn of a hart

-- what an event shows finds the ring, or the command tube of a device, full
abbrev pub StalledBy : Seen → Shown → Type 0
StalledBy p (shown.Byte byte) = p.handed + DEBUG_RING_BYTES ≤ length (debug_of p)
StalledBy p (shown.Access d access) = (dev_of p d).acted + p.machine.tube ≤ length (dev_of p d).made
StalledBy p _ = ⊥

-- the next instruction of a hart stalls: it is carried out only when there is room in the ring or in that tube
abbrev pub Stalls : Seen → ℕ → Type 0
Stalls p hart = StalledBy p (event_of (state_of p) hart).2.shown

-- why a turn has fewer events than were asked for
pub data StopsTurn (p : Seen) (hart : ℕ) : Type 0 where
  stopped : (state_of p).mode ≢ mode.Running → StopsTurn p hart
  waits : (state_of p).pending hart ≢ None → StopsTurn p hart
  stalls : Stalls p hart → StopsTurn p hart

-- an event finds no room. The hart doesn't stall, since an instruction that stalls is no event
pub record IsFullAt (old new : Seen) (hart : ℕ) : Type 0 where
  pub full : IsFull old new (entry.Hart hart)
  pub carried : Stalls old hart → ⊥

abbrev pub EndsTurn : Seen → Seen → ℕ → Type 0
EndsTurn old new hart = ((IsOpen (state_of old).mode → ⊥) × (new ≡ old)) ⊎ IsFullAt old new hart

-- so many events, at none of which the hart stalled. Where there are fewer than asked for, the run may have ended as full behind
-- them; else it doesn't go on, or the hart waits or stalls
pub record IsRanFor (old new : Seen) (hart most n : ℕ) : Type 0 where
  pub some : 0 < n
  pub few : n ≤ most
  pub carried : (k : ℕ) → k < n → Stalls (with_events old hart k) hart → ⊥
  pub then_full : (new ≡ with_events old hart n) ⊎ ((n < most) × IsFullAt (with_events old hart n) new hart)
  pub stops : n < most → StopsTurn new hart

abbrev pub TurnedSo : Seen → Seen → ℕ → ℕ → Turn → Type 0
TurnedSo old new hart most (turn.Ran n) = IsRanFor old new hart most n
TurnedSo old new hart most turn.Ending = EndsTurn old new hart
TurnedSo old new hart most turn.Waits = ((state_of old).mode ≡ mode.Running) × ((state_of old).pending hart ≢ None) × (new ≡ old)
TurnedSo old new hart most turn.Stalled =
    ((state_of old).mode ≡ mode.Running) × ((state_of old).pending hart ≡ None) × Stalls old hart × (new ≡ old)

-- 5. The debug bytes

-- the bytes that were not handed out
abbrev pub waiting_bytes : Seen → List ℕ
waiting_bytes p = drop p.handed (debug_of p)

-- the first n of them were copied to the start of a slice of so many bytes, as many as there are or fit
pub record HandedSo (old new : Seen) (out : List ℕ) (most n : ℕ) : Type 0 where
  pub count : n ≡ min most (length (waiting_bytes old))
  pub bytes : take n out ≡ take n (waiting_bytes old)
  pub new_is : new ≡ record old { handed = old.handed + n }
