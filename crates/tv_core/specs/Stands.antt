-- What a core keeps against the state after its history, item by item.
use Rattle.std.specs.Prelude.{◌≡◌, ◌≢◌, ◌⊎◌, ℕ, ◌+◌, ◌%◌, ◌^◌, ◌<◌, ◌≤◌, ◌==◌, if◌then◌else◌, List, [], ◌∷◌, ◌++◌, length, map, drop, Bool, true, false, Option, Some, None, IsSome, slice_index_or}
use Rattle.std.specs.Option.{is_some}
use Rattle.tv_base.specs.declared.limits.TheConstants.{HARTS}
use Rattle.tv_hart.specs.Hart.{finished}
use Rattle.tv_hart.specs.HartState.{HartState}
use Rattle.tv_items.specs.declared.action.Action.{Action}
use Rattle.tv_items.specs.declared.action.Heard.{Heard}
use Rattle.tv_items.specs.declared.action.Way.{Way}
use Rattle.tv_items.specs.declared.action.Way.TheVariants.{Memory, Interrupt, Outside}
use Rattle.tv_items.specs.declared.item.Item.{Item}
use Rattle.tv_items.specs.Fits.{way_of}
use Rattle.tv_plan.specs.Devices.{DeviceState, next}
use Rattle.tv_proxy.specs.Messages.{heard_in, request_message, verdict_message}
use Rattle.tv_script.specs.Services.{Next, Asks, Rests, Loses}
use Rattle.tv_side.specs.Sides.{LaneState, SideState, empty_lane}
use Rattle.tv_spec.specs.declared.Mode.{Mode}
use Rattle.tv_spec.specs.Room.{owed}
use Rattle.tv_spec.specs.declared.Made.{Made}
use Rattle.tv_spec.specs.declared.Answer.{Answer}
use Rattle.tv_spec.specs.declared.Due.{Due}
use Rattle.tv_spec.specs.declared.Phase.{Phase}
use Rattle.tv_spec.specs.declared.Pending.{Pending}
use Rattle.tv_spec.specs.State.{State, DeviceRun}
use Rattle.tv_spec.specs.Step.{IsOpen}
use Rattle.tv_guest.specs.GuestState.{GuestState}
use Rattle.tv_wire.specs.declared.Msg.{Msg}
use Rattle.tv_wire.specs.declared.Msg.TheVariants as msg

-- 1. One device

-- items in their order, each after its tag, which count from this one on
abbrev pub tagged_from : ℕ → List Made → List (ℕ × Item)
tagged_from tag [] = []
tagged_from tag (m ∷ ms) = (tag, m.item) ∷ tagged_from (tag + 1) ms

-- the message of an answer
abbrev pub answer_message : ℕ → Answer → Msg
answer_message tag (Answer.Value n) = msg.Value tag n
answer_message tag (Answer.Verdict verdict) = verdict_message verdict

abbrev pub due_message : Due → Msg
due_message w = answer_message w.tag w.answer

-- what lies between a worker and the services: the two lanes, how many requests were made, modulo 2^32, and whether the worker is to
-- do an action outside the machine
pub record Between : Type 0 where
  pub memory : LaneState
  pub interrupts : LaneState
  pub requests : ℕ
  pub intended : Bool

abbrev pub between_of : SideState → Between
between_of p = record { memory = p.memory; interrupts = p.interrupts; requests = p.requests; intended = p.intended }

-- the lane of the service that does an action, and the other one; outside the machine there is none
abbrev pub lane_at : Between → Way → LaneState
lane_at b Memory = b.memory
lane_at b Interrupt = b.interrupts
lane_at b Outside = empty_lane

abbrev pub other_lane : Between → Way → LaneState
other_lane b Memory = b.interrupts
other_lane b Interrupt = b.memory
other_lane b Outside = empty_lane

-- both lanes are empty
pub record AreIdle (b : Between) : Type 0 where
  pub memory : b.memory ≡ empty_lane
  pub interrupts : b.interrupts ≡ empty_lane

-- the request of an action, with the tag of the last one that was made, lies in its lane
pub record HasRequest (b : Between) (action : Action) : Type 0 where
  pub inside : way_of action ≢ Outside
  pub tag : ℕ
  pub last : b.requests ≡ (tag + 1) % 2 ^ 32
  pub asked : (lane_at b (way_of action)).asked ≡ request_message tag action
  pub answered : (lane_at b (way_of action)).answered ≡ None
  pub other : other_lane b (way_of action) ≡ empty_lane

-- a reply, which says what was heard of an action, lies in its lane
pub record HasReply (b : Between) (action : Action) (heard : Heard) : Type 0 where
  pub inside : way_of action ≢ Outside
  pub reply : Msg
  pub answered : (lane_at b (way_of action)).answered ≡ Some reply
  pub says : heard_in reply ≡ Some heard
  pub asked : (lane_at b (way_of action)).asked ≡ None
  pub other : other_lane b (way_of action) ≡ empty_lane

-- a fact of the next action; where there is none, it doesn't hold
abbrev pub OfNext : Next DeviceState → (Action → Type 0) → Type 0
OfNext (Asks action) fact = fact action
OfNext (Rests state) fact = ⊥
OfNext (Loses state) fact = ⊥

-- what lies there, by how far the next action of a device is, which got these replies since it last acted. A reply that it didn't
-- get is of the action after those
abbrev pub Transit : DeviceState → List Heard → Phase → Between → Type 0
Transit device got Phase.Quiet b = AreIdle b × (b.intended ≡ false)
Transit device got Phase.Sent b = OfNext (next device got) (HasRequest b) × (b.intended ≡ false)
Transit device got (Phase.Served heard) b = OfNext (next device got) (λ action. HasReply b action heard) × (b.intended ≡ false)
Transit device got Phase.Intended b = AreIdle b × (b.intended ≡ true)

-- a worker that was told of the ending: the run ended, and no reply waits for the worker
pub record IsToldOf (now : Mode) (b : Between) : Type 0 where
  pub ending : IsOpen now → ⊥
  pub memory : b.memory.answered ≡ None
  pub interrupts : b.interrupts.answered ≡ None

-- a device's side in a run that is in this mode, where so many items fill the command tube
pub record StandsFor (tube : ℕ) (now : Mode) (v : DeviceRun) (p : SideState) : Type 0 where
  pub tube_is : p.tube ≡ tube
  pub made : p.proxy.made ≡ length v.made
  pub harts : length p.proxy.harts ≡ HARTS
  pub commands : p.items ≡ tagged_from v.acted (drop v.acted v.made)
  pub replies : p.replies ≡ map due_message v.replied
  pub transit : Transit v.device v.got v.phase (between_of p)
  pub told : p.told ≡ true → IsToldOf now (between_of p)

-- 2. One hart

-- the load with a tag was acted on and did not land, and has this value
abbrev pub HasValue : ℕ → ℕ → List Due → Type 0
HasValue tag value [] = ⊥
HasValue tag value (w ∷ ws) = ((w.tag ≡ tag) × (w.answer ≡ Answer.Value value)) ⊎ HasValue tag value ws

pub record IsAway (kept now : HartState) (tag value : ℕ) (v : DeviceRun) : Type 0 where
  pub acted : tag < v.acted
  pub has : HasValue tag value (v.replied ++ v.due)
  pub finish : now ≡ finished kept value

-- a hart that waits for a load: the device did not act on it, and the hart is as it is kept; or the device did, and the hart is as
-- it is kept but for the value, which is due or in the reply tube
abbrev pub AwaitsAt : HartState → HartState → ℕ → DeviceRun → Type 0
AwaitsAt kept now tag v = ((v.acted ≤ tag) × (now ≡ kept)) ⊎ ((value : ℕ) × IsAway kept now tag value v)

abbrev pub HartStands : HartState → HartState → Option Pending → (ℕ → DeviceRun) → Type 0
HartStands kept now None devs = (now ≡ kept) × (kept.waits ≡ None)
HartStands kept now (Some p) devs = IsSome kept.waits × AwaitsAt kept now p.tag (devs p.dev)

-- a load that did not land is under way at its device: the device did not act on it, or its value is due or in the reply tube
abbrev pub IsUnderWay : (ℕ → DeviceRun) → Option Pending → Type 0
IsUnderWay devs None = Unit {0}
IsUnderWay devs (Some p) = ((devs p.dev).acted ≤ p.tag) ⊎ ((value : ℕ) × HasValue p.tag value ((devs p.dev).replied ++ (devs p.dev).due))

-- the tag of the load that a hart waits for, if it is of this device
abbrev pub tag_at : ℕ → Option Pending → Option ℕ
tag_at d None = None
tag_at d (Some p) = if p.dev == d then Some p.tag else None

-- 3. All

-- the guest; the pages that are withdrawn; by slot the sides of the devices, whose command tubes so many items fill; by hart
-- whether it waits for a load; and how many records are reserved
pub record Stands (tube : ℕ) (guest : GuestState) (withdrawn : List Bool) (sides : List SideState) (waits : List Bool) (reserved : ℕ) (s : State) : Type 0 where
  pub local_is : s.local ≡ guest.local
  pub withdrawn_is : s.withdrawn ≡ withdrawn
  pub mode_is : s.mode ≡ guest.mode
  pub events_are : s.events ≡ guest.events
  pub each_hart : (h : ℕ) (none : HartState) → h < length guest.harts
      → HartStands (slice_index_or guest.harts h none) (s.harts h) (s.pending h) s.devs
  pub each_side : (d : ℕ) (none : SideState) → d < length sides → StandsFor tube s.mode (s.devs d) (slice_index_or sides d none)
  pub each_wait : (d : ℕ) (none : SideState) (h : ℕ) → d < length sides → h < HARTS
      → slice_index_or (slice_index_or sides d none).proxy.harts h None ≡ tag_at d (s.pending h)
  pub flags : length waits ≡ HARTS
  pub each_flag : (h : ℕ) → h < HARTS → slice_index_or waits h false ≡ is_some (s.pending h)
  pub reserved_is : reserved ≡ owed s
