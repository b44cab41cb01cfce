-- The moves of one device: where each may stand, and what it makes of the device.
use Rattle.std.specs.Prelude.{◌≡◌, ◌⊎◌, ℕ, ◌+◌, ◌<◌, List, [], ◌∷◌, ◌++◌, length}
use Rattle.tv_base.specs.declared.Access.{Access}
use Rattle.tv_base.specs.declared.Access.TheVariants as access
use Rattle.tv_items.specs.declared.action.Heard.{Heard}
use Rattle.tv_items.specs.declared.action.Way.{Way}
use Rattle.tv_items.specs.declared.action.Way.TheVariants.{Memory, Interrupt, Outside}
use Rattle.tv_items.specs.declared.item.Item.{Item}
use Rattle.tv_items.specs.declared.item.Item.TheVariants as item
use Rattle.tv_items.specs.Fits.{way_of}
use Rattle.tv_plan.specs.Devices.{DeviceState, Acted, act, next}
use Rattle.tv_script.specs.Answers.{FitsNext}
use Rattle.tv_script.specs.Services.{Next, Asks, Rests, Loses}
use Rattle.tv_spec.specs.declared.Made.{Made}
use Rattle.tv_spec.specs.declared.Maker.{Maker}
use Rattle.tv_spec.specs.declared.Answer.{Answer}
use Rattle.tv_spec.specs.declared.Due.{Due}
use Rattle.tv_spec.specs.declared.Phase.{Phase}
use Rattle.tv_spec.specs.State.{DeviceRun}

-- 1. What it is about to do

-- all replies to the service under way, the last of which the device may not have got yet
abbrev pub heard_in : List Heard → Phase → List Heard
heard_in got (Phase.Served reply) = got ++ reply ∷ []
heard_in got _ = got

abbrev pub heard_by : DeviceRun → List Heard
heard_by v = heard_in v.got v.phase

-- what the device does next, from the state in which it last acted
abbrev pub next_of : DeviceRun → Next DeviceState
next_of v = next v.device (heard_by v)

-- no action is left
abbrev pub IsOver : Next DeviceState → Type 0
IsOver (Asks action) = ⊥
IsOver (Rests state) = Unit {0}
IsOver (Loses state) = Unit {0}

-- its next action goes this way
abbrev pub GoesBy : Way → Next DeviceState → Type 0
GoesBy way (Asks action) = way_of action ≡ way
GoesBy way (Rests state) = ⊥
GoesBy way (Loses state) = ⊥

abbrev pub GoesInside : Next DeviceState → Type 0
GoesInside n = GoesBy Memory n ⊎ GoesBy Interrupt n

abbrev pub GoesOutside : Next DeviceState → Type 0
GoesOutside n = GoesBy Outside n

-- a service has served its action
abbrev pub IsServed : Phase → Type 0
IsServed (Phase.Served reply) = Unit {0}
IsServed _ = ⊥

-- none of these answers is that of a load
abbrev pub NoLoadDue : List Due → Type 0
NoLoadDue [] = Unit {0}
NoLoadDue (w ∷ ws) = IsVerdict w.answer × NoLoadDue ws
  where
    IsVerdict : Answer → Type 0
    IsVerdict (Answer.Value n) = ⊥
    IsVerdict (Answer.Verdict v) = Unit {0}

-- 2. Where a move may stand

-- it acts on its next item: there is one, no action is under way or left, and each load on which it acted has its Reply
pub record CanTake (v : DeviceRun) : Type 0 where
  pub quiet : v.phase ≡ Phase.Quiet
  pub over : IsOver (next_of v)
  pub answered : NoLoadDue v.due
  pub more : v.acted < length v.made

-- it begins its next action, which goes this way
pub record CanBegin (v : DeviceRun) (Goes : Next DeviceState → Type 0) : Type 0 where
  pub quiet : v.phase ≡ Phase.Quiet
  pub asks : Goes (next_of v)

-- a service serves its action
pub record CanServe (v : DeviceRun) (way : Way) : Type 0 where
  pub sent : v.phase ≡ Phase.Sent
  pub asks : GoesBy way (next_of v)

-- it hears this of its action outside
pub record CanHear (v : DeviceRun) (heard : Heard) : Type 0 where
  pub intended : v.phase ≡ Phase.Intended
  pub fits : FitsNext (next_of v) heard

-- 3. What a move makes of it

-- with an item more at the end of its list
abbrev pub with_item : DeviceRun → Made → DeviceRun
with_item v m = record v { made = v.made ++ m ∷ [] }

-- the item that a hart's access is
abbrev pub item_of : Access → Item
item_of (access.Load width off) = item.Load width off
item_of (access.Store width off value) = item.Store width off value

-- the device where it acts on its next item: at the end of the service before
abbrev pub rested : DeviceState → Next DeviceState → DeviceState
rested device (Asks action) = device
rested device (Rests last) = last
rested device (Loses last) = last

-- what it makes of an item now
abbrev pub act_on : DeviceRun → Made → Acted
act_on v m = act (rested v.device (next_of v)) v.acted m.item

-- the answer to an item that it has at once: that of a load is its value. No command is made yet
abbrev pub answers_of : Item → Acted → List Answer
answers_of (item.Load width off) a = Answer.Value a.value ∷ []
answers_of (item.Store width off value) a = []
answers_of (item.Target pages) a = []
answers_of item.Stats a = []
answers_of (item.Resize sectors) a = []

abbrev pub due_for : ℕ → Maker → List Answer → List Due
due_for tag maker [] = []
due_for tag maker (answer ∷ answers) = record { tag = tag; maker = maker; answer = answer } ∷ due_for tag maker answers

-- after it acted on its next item, by what it made of it; a service begins
abbrev pub with_act : DeviceRun → Made → Acted → DeviceRun
with_act v m a = record {
  made = v.made;
  acted = v.acted + 1;
  device = a.device;
  got = [];
  phase = Phase.Quiet;
  due = v.due ++ due_for v.acted m.maker (answers_of m.item a);
  replied = v.replied;
}

abbrev pub with_phase : DeviceRun → Phase → DeviceRun
with_phase v phase = record v { phase = phase }

-- it got the reply of a service
abbrev pub with_got : DeviceRun → DeviceRun
with_got v = record v { got = heard_by v; phase = Phase.Quiet }

-- or heard what came of its action outside
abbrev pub with_heard : DeviceRun → Heard → DeviceRun
with_heard v heard = record v { got = v.got ++ heard ∷ []; phase = Phase.Quiet }

-- its oldest answer without a Reply, of these, has its Reply
abbrev pub with_reply : DeviceRun → List Due → DeviceRun
with_reply v [] = v
with_reply v (w ∷ ws) = record v { due = ws; replied = v.replied ++ w ∷ [] }
