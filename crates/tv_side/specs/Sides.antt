-- What the monitor keeps of one device, as contracts see it.
use Rattle.std.specs.Prelude.{◌≡◌, ℕ, ◌+◌, ◌%◌, ◌^◌, List, [], ◌∷◌, ◌++◌, Bool, false, IsTrue, Option, Some, None, IsSome}
use Rattle.tv_base.specs.declared.Access.{Access}
use Rattle.tv_base.specs.declared.Access.TheVariants as access
use Rattle.tv_items.specs.declared.action.Action.{Action}
use Rattle.tv_items.specs.declared.action.Heard.{Heard}
use Rattle.tv_items.specs.declared.action.Way.{Way}
use Rattle.tv_items.specs.declared.action.Way.TheVariants.{Memory, Interrupt, Outside}
use Rattle.tv_items.specs.Fits.{way_of}
use Rattle.tv_items.specs.declared.item.Item.{Item}
use Rattle.tv_wire.specs.Spelling.{is_place}
use Rattle.tv_wire.specs.declared.Msg.{Msg}
use Rattle.tv_wire.specs.declared.Msg.TheVariants as msg
use Rattle.tv_proxy.specs.declared.proxy.Landed.{Landed}
use Rattle.tv_proxy.specs.Messages.{item_of, request_message, heard_in}
use Rattle.tv_proxy.specs.Proxies.{ProxyState, Maker, no_items, waits_for, asked, issued, AcceptedSo}

-- between a worker and a service: the request that waits for the service, and the reply that waits for the worker
pub record LaneState : Type 0 where
  pub asked : Option Msg
  pub answered : Option Msg

abbrev pub empty_lane : LaneState
empty_lane = record { asked = None; answered = None }

-- the proxy; the items on which the device did not act, each after its tag; how many of them let a hart's access find the
-- command tube full; the values and the answers that did not land; how many requests were made, modulo 2^32; the two lanes; whether the worker was to do
-- an action outside the machine and did not say what became of it; and whether it was told of the ending
pub record SideState : Type 0 where
  pub proxy : ProxyState
  pub items : List (ℕ × Item)
  pub tube : ℕ
  pub replies : List Msg
  pub requests : ℕ
  pub memory : LaneState
  pub interrupts : LaneState
  pub intended : Bool
  pub told : Bool

-- nothing was made
abbrev pub new_side : ℕ → SideState
new_side tube = record {
  proxy = no_items;
  items = [];
  tube = tube;
  replies = [];
  requests = 0;
  memory = empty_lane;
  interrupts = empty_lane;
  intended = false;
  told = false;
}

-- an access that can reach a device: its offset is a multiple of its width, and it ends within the device's range
abbrev pub IsInPlace : Access → Type 0
IsInPlace (access.Load width off) = IsTrue (is_place width off)
IsInPlace (access.Store width off value) = IsTrue (is_place width off)

-- with an item more, behind the others
abbrev pub with_item : SideState → ProxyState → ℕ × Item → SideState
with_item s proxy tagged = record s { proxy = proxy; items = s.items ++ tagged ∷ [] }

-- with the item of a hart's access
abbrev pub with_access : SideState → ℕ → Access → SideState
with_access s hart a = with_item s (issued s.proxy hart a) (s.proxy.made, item_of a)

-- with the item of a line's command
abbrev pub with_command : SideState → ℕ → Item → SideState
with_command s line command = with_item s (asked s.proxy (Maker.line line)) (s.proxy.made, command)

-- with an item more, before the others
abbrev pub with_first_item : ℕ × Item → SideState → SideState
with_first_item tagged s = record s { items = tagged ∷ s.items }

-- with a value or an answer more, behind the others
abbrev pub with_reply : SideState → Msg → SideState
with_reply s m = record s { replies = s.replies ++ m ∷ [] }

-- the lane of the service that does an action; outside the machine there is none
abbrev pub lane_of : SideState → Way → LaneState
lane_of s Memory = s.memory
lane_of s Interrupt = s.interrupts
lane_of s Outside = empty_lane

abbrev pub with_lane : SideState → Way → LaneState → SideState
with_lane s Memory lane = record s { memory = lane }
with_lane s Interrupt lane = record s { interrupts = lane }
with_lane s Outside lane = s

-- with the request of an action, whose tag is how many were made before
abbrev pub with_request : SideState → Action → SideState
with_request s action = with_lane (record s { requests = (s.requests + 1) % 2 ^ 32 }) (way_of action)
    (record (lane_of s (way_of action)) { asked = request_message s.requests action })

-- without the request in a lane
abbrev pub without_request : SideState → Way → SideState
without_request s way = with_lane s way (record (lane_of s way) { asked = None })

-- with a service's reply in its lane, or without one
abbrev pub with_answer : SideState → Way → Option Msg → SideState
with_answer s way reply = with_lane s way (record (lane_of s way) { answered = reply })

-- the message is a service's reply
abbrev pub IsReply : Msg → Type 0
IsReply m = IsSome (heard_in m)

-- what is heard by a reply, if there is one
abbrev pub heard_by : Option Msg → Option Heard
heard_by None = None
heard_by (Some m) = heard_in m

-- somebody waits for the value or the answer
abbrev pub IsAwaited : ProxyState → Msg → Type 0
IsAwaited p (msg.Value tag value) = (h : ℕ) × (waits_for p (Maker.hart h) ≡ Some tag)
IsAwaited p (msg.Answer tag status other stats) = (c : ℕ) × (waits_for p (Maker.line c) ≡ Some tag)
IsAwaited p m = ⊥

-- somebody waits for the first of these, if there is one
abbrev pub FirstIsAwaited : ProxyState → List Msg → Type 0
FirstIsAwaited p [] = Unit {0}
FirstIsAwaited p (m ∷ later) = IsAwaited p m

-- the first value or answer landed, and nothing else changed
pub record HasLandedFirst (old new : SideState) (landed : Landed) : Type 0 where
  pub first : Msg
  pub replies : old.replies ≡ first ∷ new.replies
  pub accepted : AcceptedSo old.proxy first new.proxy (Some landed)
  pub others : new ≡ record old { proxy = new.proxy; replies = new.replies }

-- the first value or answer lands; where there is none, nothing changes
abbrev pub LandedSo : SideState → SideState → Option Landed → Type 0
LandedSo old new (Some landed) = HasLandedFirst old new landed
LandedSo old new None = (old.replies ≡ []) × (new ≡ old)
