-- The calls of the services: a request leaves its lane, and its reply comes there.
use Rattle.std.proofs.Common.{◌≡◌, ◌≢◌, ℕ, false, Some, None, refl, ap, sym, ◌∙◌, subst}
use Rattle.tv_items.specs.declared.action.Action.{Action}
use Rattle.tv_items.specs.declared.action.Action.TheVariants as action
use Rattle.tv_items.specs.declared.action.Heard.{Heard}
use Rattle.tv_items.specs.declared.action.Heard.TheVariants as heard
use Rattle.tv_items.specs.declared.action.Way.{Way}
use Rattle.tv_items.specs.declared.action.Way.TheVariants.{Memory, Interrupt, Outside}
use Rattle.tv_items.specs.Fits.{FitsAction, way_of}
use Rattle.tv_plan.specs.Devices.{DeviceState, next}
use Rattle.tv_proxy.specs.Messages.{heard_in, request_message}
use Rattle.tv_script.specs.Services.{Next, Asks, Rests, Loses}
use Rattle.tv_side.specs.Sides.{LaneState, SideState, empty_lane, with_answer, without_request}
use Rattle.tv_spec.specs.declared.Mode.{Mode}
use Rattle.tv_spec.specs.declared.Phase.{Phase}
use Rattle.tv_spec.specs.Devices.{CanServe, next_of}
use Rattle.tv_spec.specs.State.{DeviceRun}
use Rattle.tv_spec.specs.Step.{IsOpen}
use Rattle.tv_wire.specs.declared.Msg.{Msg}
use Rattle.tv_core.specs.Serves.{reply_message, request_by}
use Rattle.tv_core.specs.Stands.{AreIdle, HasReply, HasRequest, OfNext, StandsFor, Transit, between_of, lane_at, other_lane}
use Rattle.tv_core.proofs.Hearing.{IsBeside, side_moved}

-- 1. What lies in a service's lane

-- a request of the device's next action, which goes this way
pub record IsAskedFor (v : DeviceRun) (s : SideState) (way : Way) (action : Action) : Type 0 where
  pub sent : v.phase ≡ Phase.Sent
  pub next_is : next v.device v.got ≡ Asks action
  pub goes : way_of action ≡ way
  pub tag : ℕ
  pub asked : (lane_at (between_of s) way).asked ≡ request_message tag action
  pub answered : (lane_at (between_of s) way).answered ≡ None
  pub other : other_lane (between_of s) way ≡ empty_lane
  pub intended : s.intended ≡ false

pub data LaneIs (v : DeviceRun) (s : SideState) (way : Way) : Type 0 where
  asks : (action : Action) → IsAskedFor v s way action → LaneIs v s way
  rests : (lane_at (between_of s) way).asked ≡ None → (CanServe v way → ⊥) → LaneIs v s way

asked_none : (lane : LaneState) → lane ≡ empty_lane → lane.asked ≡ None
asked_none lane is = ap (λ (l : LaneState). l.asked) is

idle_lane : (s : SideState) (way : Way) → AreIdle (between_of s) → (lane_at (between_of s) way).asked ≡ None
idle_lane s Memory idle = asked_none s.memory idle.memory
idle_lane s Interrupt idle = asked_none s.interrupts idle.interrupts
idle_lane s Outside idle = refl

-- a reply in one lane, and nothing in the other: no request lies there
replied_lane : (s : SideState) (w way : Way) → w ≢ Outside → (lane_at (between_of s) w).asked ≡ None → other_lane (between_of s) w ≡ empty_lane
    → (lane_at (between_of s) way).asked ≡ None
replied_lane s Memory Memory lies asked other = asked
replied_lane s Memory Interrupt lies asked other = asked_none s.interrupts other
replied_lane s Interrupt Memory lies asked other = asked_none s.memory other
replied_lane s Interrupt Interrupt lies asked other = asked
replied_lane s Outside Memory lies asked other = absurd (lies refl)
replied_lane s Outside Interrupt lies asked other = absurd (lies refl)
replied_lane s w Outside lies asked other = refl

pub next_sent : (v : DeviceRun) (n : Next DeviceState) → v.phase ≡ Phase.Sent → next v.device v.got ≡ n → next_of v ≡ n
next_sent v n sent is = rw sent is

pub lane_is : (v : DeviceRun) (s : SideState) (way : Way) → way ≢ Outside → Transit v.device v.got v.phase (between_of s) → LaneIs v s way
lane_is v s way inside transit = by_phase v.phase refl transit
  where
    other_phase : (phase : Phase) → v.phase ≡ phase → phase ≢ Phase.Sent → CanServe v way → ⊥
    other_phase phase is apart can = apart (sym is ∙ can.sent)

    by_reply : (n : Next DeviceState) (reply : Heard) → OfNext n (λ action. HasReply (between_of s) action reply) → (lane_at (between_of s) way).asked ≡ None
    by_reply (Asks action) reply has = replied_lane s (way_of action) way has.inside has.asked has.other
    by_reply (Rests state) reply t = absurd t
    by_reply (Loses state) reply t = absurd t

    by_ways : (a : Action) (w to : Way) → w ≢ Outside → to ≡ way → way_of a ≡ w → v.phase ≡ Phase.Sent → next v.device v.got ≡ Asks a → (tag : ℕ)
        → (lane_at (between_of s) w).asked ≡ request_message tag a → (lane_at (between_of s) w).answered ≡ None → other_lane (between_of s) w ≡ empty_lane
        → s.intended ≡ false → LaneIs v s to
    by_ways a Memory Memory lies to_is goes sent is tag asked answered other intended =
        LaneIs.asks a (record { sent = sent; next_is = is; goes = goes; tag = tag; asked = asked; answered = answered; other = other; intended = intended })
    by_ways a Interrupt Interrupt lies to_is goes sent is tag asked answered other intended =
        LaneIs.asks a (record { sent = sent; next_is = is; goes = goes; tag = tag; asked = asked; answered = answered; other = other; intended = intended })
    by_ways a Memory Interrupt lies to_is goes sent is tag asked answered other intended =
        LaneIs.rests (asked_none s.interrupts other) (λ can.
        let g : way_of a ≡ Interrupt = (let r = rw (next_sent v (Asks a) sent is) at can.asks in r) in
        let e : Memory ≡ Interrupt = sym goes ∙ g in cc)
    by_ways a Interrupt Memory lies to_is goes sent is tag asked answered other intended =
        LaneIs.rests (asked_none s.memory other) (λ can.
        let g : way_of a ≡ Memory = (let r = rw (next_sent v (Asks a) sent is) at can.asks in r) in
        let e : Interrupt ≡ Memory = sym goes ∙ g in cc)
    by_ways a w Outside lies to_is goes sent is tag asked answered other intended = absurd (inside (sym to_is))
    by_ways a Outside Memory lies to_is goes sent is tag asked answered other intended = absurd (lies refl)
    by_ways a Outside Interrupt lies to_is goes sent is tag asked answered other intended = absurd (lies refl)

    by_next : (n : Next DeviceState) → next v.device v.got ≡ n → v.phase ≡ Phase.Sent → OfNext n (HasRequest (between_of s)) → s.intended ≡ false → LaneIs v s way
    by_next (Asks a) is sent has intended =
        by_ways a (way_of a) way has.inside refl refl sent is has.tag has.asked has.answered has.other intended
    by_next (Rests state) is sent t intended = absurd t
    by_next (Loses state) is sent t intended = absurd t

    by_phase : (phase : Phase) → v.phase ≡ phase → Transit v.device v.got phase (between_of s) → LaneIs v s way
    by_phase Phase.Quiet is t = LaneIs.rests (idle_lane s way t.0) (other_phase Phase.Quiet is (λ e. cc))
    by_phase Phase.Sent is t = by_next (next v.device v.got) refl is t.0 t.1
    by_phase (Phase.Served reply) is t = LaneIs.rests (by_reply (next v.device v.got) reply t.0) (other_phase (Phase.Served reply) is (λ e. cc))
    by_phase Phase.Intended is t = LaneIs.rests (idle_lane s way t.0) (other_phase Phase.Intended is (λ e. cc))

-- 2. The message of a request, and that of its reply

pub request_back : (tag : ℕ) (a : Action) → way_of a ≢ Outside → request_by (request_message tag a) ≡ Some (tag, a)
request_back tag (action.Read addr len) goes = refl
request_back tag (action.Write addr bytes) goes = refl
request_back tag (action.Release page hold) goes = refl
request_back tag (action.Regain page) goes = refl
request_back tag action.Raise goes = refl
request_back tag (action.DiskRead sector) goes = absurd (goes refl)
request_back tag (action.DiskWrite sector bytes) goes = absurd (goes refl)
request_back tag action.Flush goes = absurd (goes refl)
request_back tag (action.SetLen sectors) goes = absurd (goes refl)
request_back tag (action.Put bytes) goes = absurd (goes refl)
request_back tag (action.Input most) goes = absurd (goes refl)
request_back tag (action.Random len) goes = absurd (goes refl)

-- a reply that fits its action says what was heard
pub reply_says : (tag : ℕ) (a : Action) (h : Heard) → way_of a ≢ Outside → FitsAction a h → heard_in (reply_message (way_of a) tag h) ≡ Some h
reply_says tag (action.Read addr len) (heard.Bytes bytes) goes fits = refl
reply_says tag (action.Read addr len) heard.Refused goes fits = refl
reply_says tag (action.Read addr len) heard.Done goes fits = absurd fits
reply_says tag (action.Read addr len) heard.Failed goes fits = absurd fits
reply_says tag (action.Read addr len) (heard.Taken n) goes fits = absurd fits
reply_says tag (action.Write addr bytes) h goes fits = by_done h fits
  where
    by_done : (h : Heard) → FitsAction (action.Write addr bytes) h → heard_in (reply_message Memory tag h) ≡ Some h
    by_done heard.Done fits = refl
    by_done heard.Refused fits = refl
    by_done heard.Failed fits = absurd fits
    by_done (heard.Bytes bytes) fits = absurd fits
    by_done (heard.Taken n) fits = absurd fits
reply_says tag (action.Release page hold) h goes fits = by_done h fits
  where
    by_done : (h : Heard) → FitsAction (action.Release page hold) h → heard_in (reply_message Memory tag h) ≡ Some h
    by_done heard.Done fits = refl
    by_done heard.Refused fits = refl
    by_done heard.Failed fits = absurd fits
    by_done (heard.Bytes bytes) fits = absurd fits
    by_done (heard.Taken n) fits = absurd fits
reply_says tag (action.Regain page) h goes fits = by_done h fits
  where
    by_done : (h : Heard) → FitsAction (action.Regain page) h → heard_in (reply_message Memory tag h) ≡ Some h
    by_done heard.Done fits = refl
    by_done heard.Refused fits = refl
    by_done heard.Failed fits = absurd fits
    by_done (heard.Bytes bytes) fits = absurd fits
    by_done (heard.Taken n) fits = absurd fits
reply_says tag action.Raise h goes fits = by_done h fits
  where
    by_done : (h : Heard) → FitsAction action.Raise h → heard_in (reply_message Interrupt tag h) ≡ Some h
    by_done heard.Done fits = refl
    by_done heard.Refused fits = refl
    by_done heard.Failed fits = absurd fits
    by_done (heard.Bytes bytes) fits = absurd fits
    by_done (heard.Taken n) fits = absurd fits
reply_says tag (action.DiskRead sector) h goes fits = absurd (goes refl)
reply_says tag (action.DiskWrite sector bytes) h goes fits = absurd (goes refl)
reply_says tag action.Flush h goes fits = absurd (goes refl)
reply_says tag (action.SetLen sectors) h goes fits = absurd (goes refl)
reply_says tag (action.Put bytes) h goes fits = absurd (goes refl)
reply_says tag (action.Input most) h goes fits = absurd (goes refl)
reply_says tag (action.Random len) h goes fits = absurd (goes refl)

-- 3. The reply comes where the request lay

abbrev pub answered_side : SideState → Way → Msg → SideState
answered_side s way reply = with_answer (without_request s way) way (Some reply)

pub answered_beside : (s : SideState) (way : Way) (reply : Msg) → IsBeside s (answered_side s way reply)
answered_beside s Memory reply = record { proxy = refl; items = refl; tube = refl; replies = refl; intended = refl; told = refl }
answered_beside s Interrupt reply = record { proxy = refl; items = refl; tube = refl; replies = refl; intended = refl; told = refl }
answered_beside s Outside reply = record { proxy = refl; items = refl; tube = refl; replies = refl; intended = refl; told = refl }

answered_reply : (s : SideState) (way : Way) (a : Action) (h : Heard) (reply : Msg) → way ≢ Outside → way_of a ≡ way → other_lane (between_of s) way ≡ empty_lane
    → heard_in reply ≡ Some h → HasReply (between_of (answered_side s way reply)) a h
answered_reply s Memory a h reply inside goes other says =
    record { inside = rw goes inside; reply = reply; answered = rw goes refl; says = says; asked = rw goes refl; other = rw goes other }
answered_reply s Interrupt a h reply inside goes other says =
    record { inside = rw goes inside; reply = reply; answered = rw goes refl; says = says; asked = rw goes refl; other = rw goes other }
answered_reply s Outside a h reply inside goes other says = absurd (inside refl)

pub side_served : (tube : ℕ) (now : Mode) (v : DeviceRun) (way : Way) (a : Action) (h : Heard) (reply : Msg) (old : SideState) → StandsFor tube now v old → IsOpen now
    → way ≢ Outside → IsAskedFor v old way a → heard_in reply ≡ Some h
    → StandsFor tube now (record v { got = v.got; phase = Phase.Served h }) (answered_side old way reply)
side_served tube now v way a h reply old R is_open inside asked says =
    let beside = answered_beside old way reply in
    side_moved tube now v v.got (Phase.Served h) old (answered_side old way reply) R beside (
      subst (λ n. OfNext n (λ b. HasReply (between_of (answered_side old way reply)) b h)) (sym asked.next_is)
          (answered_reply old way a h reply inside asked.goes asked.other says),
      beside.intended ∙ asked.intended,
    )
    (λ told. absurd ((R.told (sym beside.told ∙ told)).ending is_open))
