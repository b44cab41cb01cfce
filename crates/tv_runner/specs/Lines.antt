-- The device that is served: what its turn makes of a core, as a part of the schedule.
use Rattle.std.specs.Prelude.{◌≡◌, ◌≢◌, ℕ, ◌+◌, ◌<◌, ◌≤◌, Bool, true, false, List, [], ◌∷◌, ◌++◌, length, Option, Some, None}
use Rattle.tv_base.specs.declared.Why.{Why}
use Rattle.tv_items.specs.declared.action.Action.{Action}
use Rattle.tv_items.specs.declared.action.Heard.{Heard}
use Rattle.tv_items.specs.declared.action.Way.{Way}
use Rattle.tv_items.specs.declared.item.Item.{Item}
use Rattle.tv_items.specs.declared.item.Item.TheVariants as item
use Rattle.tv_items.specs.Fits.{way_of}
use Rattle.tv_journal.specs.Entries.{record_count}
use Rattle.tv_plan.specs.Devices.{DeviceState, act, next}
use Rattle.tv_script.specs.Answers.{FitsNext}
use Rattle.tv_script.specs.Happenings.{Happening, Wanted, asks, tells, replies}
use Rattle.tv_script.specs.Services.{Next, Asks, Rests, Loses}
use Rattle.tv_spec.specs.declared.Answer.{Answer}
use Rattle.tv_spec.specs.declared.Maker.{Maker}
use Rattle.tv_spec.specs.declared.Mode.TheVariants as mode
use Rattle.tv_spec.specs.declared.Phase.{Phase}
use Rattle.tv_spec.specs.Devices.{IsOver, IsServed, due_for, next_of, rested, with_act, with_phase}
use Rattle.tv_spec.specs.Solo.{Going, device_turn, onward}
use Rattle.tv_spec.specs.State.{DeviceRun}
use Rattle.tv_core.specs.Calls.{why_of}
use Rattle.tv_core.specs.Seen.{HasDevice, Seen, dev_of, setup_by, state_of}
use Rattle.tv_runner.specs.Cores.{EndsBy, bounds_by, solo_of, stop_of}
use Rattle.tv_runner.specs.Parts.{Part}

-- 1. Entries of a device

-- up to so many entries of a device
abbrev pub entries_of : ℕ → ℕ → Part
entries_of d left setup bounds solo = device_turn setup bounds d left solo

-- a run so far, and whether it stopped there
abbrev pub going_of : Seen → (ℕ → List Heard) → Going
going_of p answers = (solo_of p answers, stop_of p)

-- its records; an end counts as one more
abbrev pub ends_counted : Option Why → ℕ
ends_counted None = 0
ends_counted (Some cause) = 1

abbrev pub counted : Seen → ℕ
counted p = record_count p.entries + ends_counted (why_of p)

-- a device made some entries, no more than there are records more, and nothing else happened
pub record IsServedOn (d : ℕ) (old new : Seen) : Type 0 where
  pub machine : new.machine ≡ old.machine
  pub image : new.image ≡ old.image
  pub handed : new.handed ≡ old.handed
  pub made : ℕ
  pub few : made + counted old ≤ counted new
  pub records : record_count old.entries ≤ record_count new.entries
  pub leads : (answers : ℕ → List Heard) (left : ℕ)
      → ◌≡◌ {A = Going} (onward (entries_of d left (setup_by old) (bounds_by old)) (going_of new answers)) (onward (entries_of d (made + left) (setup_by old) (bounds_by old)) (going_of old answers))
  pub ends : EndsBy (stop_of old) old → EndsBy (stop_of new) new
  pub others : (e : ℕ) → e ≢ d → dev_of new e ≡ dev_of old e

-- 2. What such entries come to

-- a run that goes on
pub record IsGoing (p : Seen) : Type 0 where
  pub outer : p.outer ≡ None
  pub runs : (state_of p).mode ≡ mode.Running

-- the run goes on, and this has become of the device
pub record GoesTo (d : ℕ) (old new : Seen) (v : DeviceRun) : Type 0 where
  pub on : IsServedOn d old new
  pub going : IsGoing new
  pub dev : dev_of new d ≡ v

-- the run ended, and the device is as it was
pub record StopsIn (d : ℕ) (old new : Seen) : Type 0 where
  pub on : IsServedOn d old new
  pub over : why_of new ≢ None
  pub dev : dev_of new d ≡ dev_of old d

-- the action of a device is under way so far, or the run ended
abbrev pub BegunSo : ℕ → Seen → Seen → Bool → Type 0
BegunSo d old new true = GoesTo d old new (with_phase (dev_of old d) Phase.Sent)
BegunSo d old new false = StopsIn d old new

abbrev pub DoneSo : ℕ → Seen → Seen → Bool → Type 0
DoneSo d old new true = (heard : Heard) × GoesTo d old new (with_phase (dev_of old d) (Phase.Served heard))
DoneSo d old new false = StopsIn d old new

-- 3. A service

-- what a device asks for after what it got
abbrev pub next_got : DeviceRun → Next DeviceState
next_got v = next v.device v.got

abbrev pub asked : Next DeviceState → Option Action
asked (Asks a) = Some a
asked (Rests state) = None
asked (Loses state) = None

-- what a device may want after these replies: its next action, which a service inside the machine does; a verdict, which is passed over since no command is made
abbrev pub IsWanted : DeviceState → List Heard → Wanted → Type 0
IsWanted s heard (asks a) = (next s heard ≡ Asks a) × (way_of a ≢ Way.Outside)
IsWanted s heard (tells v) = Unit {0}

-- each load has its reply
pub record IsAnswered (v : DeviceRun) : Type 0 where
  pub due : v.due ≡ []
  pub replied : v.replied ≡ []

-- and no action is under way
pub record IsStill (v : DeviceRun) : Type 0 where
  pub quiet : v.phase ≡ Phase.Quiet
  pub answered : IsAnswered v

-- after this happened, a device in the slot may want this next
pub record IsAwaited (p : Seen) (d : ℕ) (happened : List Happening) (w : Wanted) : Type 0 where
  pub exists : HasDevice p d
  pub wanted : IsWanted (dev_of p d).device ((dev_of p d).got ++ replies happened) w
  pub still : why_of p ≡ None → IsStill (dev_of p d)
  pub ends : EndsBy (stop_of p) p

-- a device got these replies, and is else as it was
pub record IsHeardBy (v w : DeviceRun) (heard : List Heard) : Type 0 where
  pub made : w.made ≡ v.made
  pub acted : w.acted ≡ v.acted
  pub device : w.device ≡ v.device
  pub got : w.got ≡ v.got ++ heard

-- a reply lies there for a device
pub record IsReplied (v : DeviceRun) : Type 0 where
  pub served : IsServed v.phase
  pub answered : IsAnswered v

-- it got that reply, which fits the action
abbrev pub with_heard : DeviceRun → Heard → DeviceRun
with_heard v heard = record v { got = v.got ++ heard ∷ []; phase = Phase.Quiet }

pub record HeardSo (d : ℕ) (old new : Seen) (heard : Heard) : Type 0 where
  pub goes : GoesTo d old new (with_heard (dev_of old d) heard)
  pub grows : record_count old.entries < record_count new.entries
  pub room : record_count new.entries ≤ new.machine.journal_entries
  pub fits : FitsNext (next_got (dev_of old d)) heard

-- the load that was due has its reply
abbrev pub AnsweredSo : ℕ → Seen → Seen → Type 0
AnsweredSo d old new = GoesTo d old new (record (dev_of old d) { due = [] })

-- this happened at the device in a slot
pub record HappenedSo (d : ℕ) (old : Seen) (happened : List Happening) (new : Seen) : Type 0 where
  pub on : IsServedOn d old new
  pub heard : IsHeardBy (dev_of old d) (dev_of new d) (replies happened)
  pub still : (why_of old ≡ None → IsStill (dev_of old d)) → why_of new ≡ None → IsStill (dev_of new d)

-- 4. A turn

-- a device of this kind asks for no action outside the machine, and tells no verdict
abbrev pub IsProbe : DeviceState → Type 0
IsProbe (DeviceState.Probe p) = Unit {0}
IsProbe s = ⊥

-- no action is left, and the device has come to this state
pub record IsAtRest (v : DeviceRun) (s : DeviceState) : Type 0 where
  pub still : IsStill v
  pub over : IsOver (next_of v)
  pub state : rested v.device (next_of v) ≡ s

-- a device acted on its next item, an access, and has come to this
pub record IsActedOn (v w : DeviceRun) (tag : ℕ) (i : Item) : Type 0 where
  pub place : tag ≡ v.acted
  pub more : v.acted < length v.made
  pub maker : Maker
  pub now : w ≡ with_act v (record { item = i; maker = maker }) (act (rested v.device (next_of v)) tag i)

-- a device acted on its next item; or there was none, or the run ended
pub record TakesSo (d : ℕ) (old new : Seen) (tag : ℕ) (i : Item) : Type 0 where
  pub on : IsServedOn d old new
  pub going : IsGoing new
  pub acted : IsActedOn (dev_of old d) (dev_of new d) tag i

pub record IsEmpty (d : ℕ) (old new : Seen) : Type 0 where
  pub on : IsServedOn d old new
  pub none : why_of new ≡ None → (new ≡ old) × (length (dev_of old d).made ≤ (dev_of old d).acted)

abbrev pub TakenSo : ℕ → Seen → Seen → Option (ℕ × Item) → Type 0
TakenSo d old new (Some tagged) = TakesSo d old new tagged.0 tagged.1
TakenSo d old new None = IsEmpty d old new

-- the value of the load on which a device acted last is due
pub record IsOwed (v : DeviceRun) (tag value : ℕ) : Type 0 where
  pub maker : Maker
  pub due : v.due ≡ record { tag = tag; maker = maker; answer = Answer.Value value } ∷ []
  pub replied : v.replied ≡ []

-- what an item on which a device acted leaves due: the value of a load
abbrev pub values_of : Item → ℕ → List Answer
values_of (item.Load width off) value = Answer.Value value ∷ []
values_of i value = []

pub record IsDue (v : DeviceRun) (tag : ℕ) (i : Item) (value : ℕ) : Type 0 where
  pub maker : Maker
  pub due : v.due ≡ due_for tag maker (values_of i value)
  pub replied : v.replied ≡ []

-- a turn: the device has no item left and is at rest, or the run ended
pub record IsRested (p : Seen) (d : ℕ) (s : DeviceState) : Type 0 where
  pub going : IsGoing p
  pub probe : IsProbe s
  pub rest : IsAtRest (dev_of p d) s
  pub none : length (dev_of p d).made ≤ (dev_of p d).acted

pub record IsTurned (d : ℕ) (old new : Seen) (s : DeviceState) : Type 0 where
  pub on : IsServedOn d old new
  pub rest : why_of new ≡ None → IsRested new d s
