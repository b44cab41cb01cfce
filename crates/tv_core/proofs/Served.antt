-- The calls of the services.
use Rattle.std.proofs.Common.{◌≡◌, ◌≢◌, ℕ, zero, suc, map, ◌%◌, ◌<◌, inl, Bool, true, false, List, [], ◌∷◌, length, get_or, Option, Some, None, refl, ap, sym, ◌∙◌, subst, arith}
use Rattle.std.proofs.lemmas.Bool.{true≢false}
use Rattle.std.proofs.lemmas.List.{get_or_default}
use Rattle.tv_base.specs.declared.limits.TheConstants.{PAGE_BYTES}
use Rattle.std.specs.List.{All, slice_get}
use Rattle.std.specs.Option.{is_some}
use Rattle.std.specs.Prelude.{IsTrue}
use Rattle.std.proofs.lemmas.Bool.Decides.{nat_tests}
use Rattle.tv_grants.specs.Grants.{ram_bytes}
use Rattle.tv_grants.specs.Machines.{ranges_in, source_in}
use Rattle.tv_guest.specs.Direct.{granted_to}
use Rattle.tv_items.specs.declared.action.Action.TheVariants as action
use Rattle.tv_items.specs.declared.action.Heard.{Heard}
use Rattle.tv_items.specs.declared.action.Heard.TheVariants as heard
use Rattle.tv_items.specs.Fits.{FitsAction, IsAction, IsPiece}
use Rattle.tv_machine.specs.declared.kinds.DeviceSpec.{DeviceSpec}
use Rattle.tv_machine.specs.Valid.{IsInRam}
use Rattle.tv_spec.specs.Direct.{Direct, direct}
use Rattle.tv_spec.specs.LocalState.{LocalState}
use Rattle.tv_spec.specs.Setup.{DeviceSetup, device_setup}
use Rattle.tv_spec.specs.State.{device_in}
use Rattle.tv_spec.proofs.Granted.{direct_fits}
use Rattle.tv_spec.proofs.Updates.{some_at}
use Rattle.tv_spec.proofs.Valid.{valid_ranges}
use Rattle.tv_wire.specs.Spelling.{IsMessage, is_piece}
use Rattle.tv_core.specs.Serves.{reply_message}
use Rattle.tv_core.specs.Seen.{setup_by}
use Rattle.tv_items.specs.declared.action.Action.{Action}
use Rattle.tv_items.specs.declared.action.Way.{Way}
use Rattle.tv_items.specs.declared.action.Way.TheVariants.{Memory, Interrupt, Outside}
use Rattle.tv_items.specs.Fits.{way_of}
use Rattle.tv_journal.specs.declared.Entry.{Entry}
use Rattle.tv_side.specs.Sides.{LaneState, SideState, lane_of, without_request}
use Rattle.tv_spec.specs.declared.Mode.{Mode}
use Rattle.tv_spec.specs.declared.Mode.TheVariants as mode
use Rattle.tv_spec.specs.Devices.{CanServe}
use Rattle.tv_spec.specs.State.{DeviceRun}
use Rattle.tv_spec.specs.Step.{IsOpen}
use Rattle.tv_wire.specs.declared.Msg.{Msg}
use Rattle.tv_core.specs.Calls.{NotServed}
use Rattle.tv_core.specs.Holds.{Holds, Parts, seen}
use Rattle.tv_core.specs.Seen.{Seen, dev_of, state_of}
use Rattle.tv_core.specs.Serves.{request_by}
use Rattle.tv_core.specs.Stands.{Transit, between_of, lane_at}
use Rattle.tv_core.proofs.Room.{run_of}
use Rattle.tv_core.proofs.Serving.{IsAskedFor, LaneIs, lane_is, request_back}

-- 1. What the service found

lane_same : (s : SideState) (way : Way) → lane_at (between_of s) way ≡ lane_of s way
lane_same s Memory = refl
lane_same s Interrupt = refl
lane_same s Outside = refl

found : (v : DeviceRun) (s : SideState) (way : Way) (a : Action) (asked : IsAskedFor v s way a) → way ≢ Outside → request_by (lane_of s way).asked ≡ Some (asked.tag, a)
found v s way a asked inside =
    ap (λ (l : LaneState). request_by l.asked) (sym (lane_same s way)) ∙ ap request_by asked.asked
    ∙ request_back asked.tag a (λ e. inside (sym asked.goes ∙ e))

-- a request that was found is of the device's next action
pub requested : (v : DeviceRun) (s : SideState) (way : Way) (request : ℕ × Action) → way ≢ Outside → Transit v.device v.got v.phase (between_of s)
    → request_by (lane_of s way).asked ≡ Some request → IsAskedFor v s way request.1
requested v s way request inside transit is = by_lane (lane_is v s way inside transit)
  where
    by_lane : LaneIs v s way → IsAskedFor v s way request.1
    by_lane (LaneIs.asks a asked) =
        let same : ◌≡◌ {A = Option (ℕ × Action)} (Some (asked.tag, a)) (Some request) = sym (found v s way a asked inside) ∙ is in
        let pair : ◌≡◌ {A = ℕ × Action} (asked.tag, a) request = cc in
        subst (λ (x : Action). IsAskedFor v s way x) (ap (λ (r : ℕ × Action). r.1) pair) asked
    by_lane (LaneIs.rests none apart) =
        let e : ◌≡◌ {A = Option (ℕ × Action)} None (Some request) =
        sym (ap request_by (ap (λ (l : LaneState). l.asked) (sym (lane_same s way)) ∙ none)) ∙ is in
        cc

-- where no request lies there, the service has none of the device
lies_not : (asked : Option Msg) → is_some asked ≡ false → request_by asked ≡ None
lies_not None is = refl
lies_not (Some m) is = absurd (true≢false is)

unasked : (v : DeviceRun) (s : SideState) (way : Way) → way ≢ Outside → Transit v.device v.got v.phase (between_of s) → is_some (lane_of s way).asked ≡ false
    → CanServe v way → ⊥
unasked v s way inside transit is = by_lane (lane_is v s way inside transit)
  where
    by_lane : LaneIs v s way → CanServe v way → ⊥
    by_lane (LaneIs.asks a asked) =
        let e : ◌≡◌ {A = Option (ℕ × Action)} (Some (asked.tag, a)) None = sym (found v s way a asked inside) ∙ lies_not (lane_of s way).asked is in
        absurd (let no : ⊥ = cc in no)
    by_lane (LaneIs.rests none apart) = apart

-- a request that lies there is of the device's next action
asked_for : (v : DeviceRun) (s : SideState) (way : Way) → way ≢ Outside → Transit v.device v.got v.phase (between_of s) → is_some (lane_of s way).asked ≡ true
    → (a : Action) × IsAskedFor v s way a
asked_for v s way inside transit is = by_lane (lane_is v s way inside transit)
  where
    by_lane : LaneIs v s way → (a : Action) × IsAskedFor v s way a
    by_lane (LaneIs.asks a asked) = (a, asked)
    by_lane (LaneIs.rests none apart) =
        absurd (true≢false (sym is ∙ ap (λ (l : LaneState). is_some l.asked) (sym (lane_same s way)) ∙ ap is_some none))

-- 2. Whether a request lies there

not_served : (p : Parts) (d : ℕ) (way : Way) (e : Entry) (m : Mode) → IsOpen m → (CanServe (dev_of (seen p) d) way → ⊥) → NotServed m (seen p) (seen p) d way e
not_served p d way e (mode.Ending cause) is_open apart = absurd is_open
not_served p d way e mode.Running is_open apart = inl (apart, refl)

pub none_served_call : (p : Parts) (d slot : ℕ) (way : Way) (e : Entry) (element : SideState) (has : Bool) (start : Seen)
    → slot ≡ d → element ≡ get_or p.sides slot element → has ≡ is_some (lane_of element way).asked → has ≡ false
    → way ≢ Outside → Holds p → d < length p.machine.device → IsOpen (state_of (seen p)).mode → seen p ≡ start
    → NotServed (state_of start).mode start start d way e
none_served_call p d slot way e element has start slot_is here has_is none inside H exists is_open start_is =
    let within : d < length p.sides = (let r = H.slots in omega (arith, r, exists)) in
    let at : element ≡ get_or p.sides d element = subst (λ (k : ℕ). element ≡ get_or p.sides k element) slot_is here in
    let apart : CanServe (dev_of (seen p) d) way → ⊥ =
    unasked (dev_of (seen p) d) (get_or p.sides d element) way inside (H.stands.each_side d element within).transit
    (ap (λ (x : SideState). is_some (lane_of x way).asked) (sym at) ∙ sym has_is ∙ none) in
    subst (λ (b : Seen). NotServed (state_of b).mode b b d way e) start_is (not_served p d way e (state_of (seen p)).mode is_open apart)

pub asked_call : (p : Parts) (d slot : ℕ) (way : Way) (element : SideState) (has : Bool)
    → slot ≡ d → element ≡ get_or p.sides slot element → has ≡ is_some (lane_of element way).asked → has ≡ true
    → way ≢ Outside → Holds p → d < length p.machine.device → (a : Action) × IsAskedFor (dev_of (seen p) d) (get_or p.sides d element) way a
asked_call p d slot way element has slot_is here has_is there inside H exists =
    let within : d < length p.sides = (let r = H.slots in omega (arith, r, exists)) in
    let at : element ≡ get_or p.sides d element = subst (λ (k : ℕ). element ≡ get_or p.sides k element) slot_is here in
    asked_for (dev_of (seen p) d) (get_or p.sides d element) way inside (H.stands.each_side d element within).transit
    (ap (λ (x : SideState). is_some (lane_of x way).asked) (sym at) ∙ sym has_is ∙ there)

-- a request that lies there is found
pub request_found : (p : Parts) (d slot : ℕ) (way : Way) (element later : SideState) (has : Bool) (result : Option (ℕ × Action))
    → slot ≡ d → element ≡ get_or p.sides slot element → has ≡ is_some (lane_of element way).asked → has ≡ true
    → later ≡ get_or p.sides slot later → result ≡ request_by (lane_of later way).asked
    → way ≢ Outside → Holds p → d < length p.machine.device → result ≢ None
request_found p d slot way element later has result slot_is here has_is there later_is result_is inside H exists none =
    let within : d < length p.sides = (let r = H.slots in omega (arith, r, exists)) in
    let old : SideState = get_or p.sides d element in
    let same : later ≡ old = subst (λ (k : ℕ). later ≡ get_or p.sides k later) slot_is later_is ∙ get_or_default p.sides d later element within in
    let asked = asked_call p d slot way element has slot_is here has_is there inside H exists in
    let e : ◌≡◌ {A = Option (ℕ × Action)} (Some (asked.1.tag, asked.0)) None =
    sym (found (dev_of (seen p) d) old way asked.0 asked.1 inside) ∙ ap (λ (x : SideState). request_by (lane_of x way).asked) (sym same) ∙ sym result_is ∙ none in
    cc

-- 3. What the action needs

pub act_memory : (p : Parts) → Holds p → ram_bytes p.grants ≡ length p.guest.local.ram
act_memory p H =
    let ram = (run_of p H).whole.ram in
    let pages = (run_of p H).whole.withdrawn in
    let whole : p.machine.ram % PAGE_BYTES ≡ 0 = H.valid.pages in
    rw (← H.stands.local_is, ← H.stands.withdrawn_is, ram, pages) (omega (arith, whole))

-- the lane has no reply where a request lies there
pub served_finds_place : (p : Parts) (d slot : ℕ) (way : Way) (element later : SideState) (request : ℕ × Action) (result : Option (ℕ × Action))
    → slot ≡ d → element ≡ get_or p.sides slot element → result ≡ request_by (lane_of element way).asked → later ≡ without_request element way → result ≡ Some request
    → way ≢ Outside → Holds p → d < length p.machine.device → (lane_of later way).answered ≡ None
served_finds_place p d slot way element later request result slot_is here result_is later_is some inside H exists =
    let within : d < length p.sides = (let r = H.slots in omega (arith, r, exists)) in
    let at : element ≡ get_or p.sides d element = subst (λ (k : ℕ). element ≡ get_or p.sides k element) slot_is here in
    let transit : Transit (dev_of (seen p) d).device (dev_of (seen p) d).got (dev_of (seen p) d).phase (between_of element) =
    subst (λ (x : SideState). Transit (dev_of (seen p) d).device (dev_of (seen p) d).got (dev_of (seen p) d).phase (between_of x)) (sym at)
    (H.stands.each_side d element within).transit in
    let asked = requested (dev_of (seen p) d) element way request inside transit (sym result_is ∙ some) in
    rw later_is (by_way element way asked.answered)
  where
    by_way : (s : SideState) (way : Way) → (lane_at (between_of s) way).answered ≡ None → (lane_of (without_request s way) way).answered ≡ None
    by_way s Memory none = none
    by_way s Interrupt none = none
    by_way s Outside none = none

-- 4. A request that is served

-- the device's setup is what it was granted
pub setup_granted : (p : Parts) (d : ℕ) → Holds p → d < length p.machine.device → device_in (setup_by (seen p)).devices d ≡ granted_to p.grants d
setup_granted p d H exists =
    let x = some_at p.machine.device d exists in
    device_at p.machine.device d x.0 x.1
    ∙ sym (λ i. record { mem = (H.theirs.ranges d ∙ ap ranges_in x.1) i; irq = (H.theirs.sources d ∙ ap source_in x.1) i })
  where
    device_at : (devices : List DeviceSpec) (k : ℕ) (x : DeviceSpec) → slice_get devices k ≡ Some x → device_in (map device_setup devices) k ≡ device_setup x
    device_at [] k x is = absurd (let e : ◌≡◌ {A = Option DeviceSpec} None (Some x) = is in cc)
    device_at (y ∷ devices) zero x is = let e : ◌≡◌ {A = Option DeviceSpec} (Some y) (Some x) = is in let q : y ≡ x = cc in ap device_setup q
    device_at (y ∷ devices) (suc k) x is = device_at devices k x is

-- a piece as messages have it
piece_message : (n : ℕ) → IsPiece n → IsTrue (is_piece n)
piece_message n is = let a = is.0 in let b = is.1 in grind (arith, nat_tests)

-- a reply that fits an action is a message
pub reply_legal : (way : Way) (tag : ℕ) (a : Action) (h : Heard) → way_of a ≡ way → IsAction a → FitsAction a h → IsMessage (reply_message way tag h)
reply_legal Memory tag (action.Read addr len) (heard.Bytes bytes) goes legal fits = rw fits (piece_message len legal)
reply_legal Memory tag a heard.Done goes legal fits = tt
reply_legal Memory tag a heard.Refused goes legal fits = tt
reply_legal Memory tag a heard.Failed goes legal fits = tt
reply_legal Memory tag a (heard.Taken n) goes legal fits = tt
reply_legal Memory tag (action.Write addr bytes) (heard.Bytes b) goes legal fits = absurd fits
reply_legal Memory tag (action.Release page hold) (heard.Bytes b) goes legal fits = absurd fits
reply_legal Memory tag (action.Regain page) (heard.Bytes b) goes legal fits = absurd fits
reply_legal Memory tag action.Raise (heard.Bytes b) goes legal fits = absurd fits
reply_legal Memory tag (action.DiskRead sector) (heard.Bytes b) goes legal fits = absurd (let e : Outside ≡ Memory = goes in cc)
reply_legal Memory tag (action.DiskWrite sector bytes) (heard.Bytes b) goes legal fits = absurd fits
reply_legal Memory tag action.Flush (heard.Bytes b) goes legal fits = absurd fits
reply_legal Memory tag (action.SetLen sectors) (heard.Bytes b) goes legal fits = absurd fits
reply_legal Memory tag (action.Put bytes) (heard.Bytes b) goes legal fits = absurd fits
reply_legal Memory tag (action.Input most) (heard.Bytes b) goes legal fits = absurd (let e : Outside ≡ Memory = goes in cc)
reply_legal Memory tag (action.Random len) (heard.Bytes b) goes legal fits = absurd (let e : Outside ≡ Memory = goes in cc)
reply_legal Interrupt tag a heard.Done goes legal fits = tt
reply_legal Interrupt tag a heard.Refused goes legal fits = tt
reply_legal Interrupt tag a heard.Failed goes legal fits = tt
reply_legal Interrupt tag a (heard.Bytes b) goes legal fits = tt
reply_legal Interrupt tag a (heard.Taken n) goes legal fits = tt
reply_legal Outside tag a h goes legal fits = tt

-- what is heard of an action fits it
pub heard_fits : (p : Parts) (d : ℕ) (a : Action) (h : Heard) (local : LocalState) (pages : List Bool) → Holds p → d < length p.machine.device → way_of a ≢ Outside
    → direct (granted_to p.grants d) d p.guest.local p.grants.withdrawn a ≡ record { heard = h; local = local; withdrawn = pages } → FitsAction a h
heard_fits p d a h local pages H exists goes is =
    let ram : length p.guest.local.ram ≡ p.machine.ram = ap (λ (l : LocalState). length l.ram) (sym H.stands.local_is) ∙ (run_of p H).whole.ram in
    let within : All (IsInRam p.machine.ram) (granted_to p.grants d).mem =
    subst (λ (x : DeviceSetup). All (IsInRam p.machine.ram) x.mem) (setup_granted p d H exists) (valid_ranges p.machine H.valid d) in
    let fits : FitsAction a (direct (granted_to p.grants d) d p.guest.local p.grants.withdrawn a).heard =
    direct_fits (granted_to p.grants d) d p.guest.local p.grants.withdrawn a (rw ram within) goes in
    subst (λ (x : Direct). FitsAction a x.heard) is fits

pub served_legal : (p : Parts) (d slot : ℕ) (way : Way) (element : SideState) (request : ℕ × Action) (result : Option (ℕ × Action)) (h : Heard) (local : LocalState) (pages : List Bool)
    (reply : Msg) → slot ≡ d → element ≡ get_or p.sides slot element → result ≡ request_by (lane_of element way).asked → result ≡ Some request
    → way ≢ Outside → Holds p → d < length p.machine.device → IsAction request.1
    → direct (granted_to p.grants d) d p.guest.local p.grants.withdrawn request.1 ≡ record { heard = h; local = local; withdrawn = pages }
    → reply ≡ reply_message way request.0 h → IsMessage reply
served_legal p d slot way element request result h local pages reply slot_is here result_is some inside H exists legal acted reply_is =
    let within : d < length p.sides = (let r = H.slots in omega (arith, r, exists)) in
    let at : element ≡ get_or p.sides d element = subst (λ (k : ℕ). element ≡ get_or p.sides k element) slot_is here in
    let transit : Transit (dev_of (seen p) d).device (dev_of (seen p) d).got (dev_of (seen p) d).phase (between_of element) =
    subst (λ (x : SideState). Transit (dev_of (seen p) d).device (dev_of (seen p) d).got (dev_of (seen p) d).phase (between_of x)) (sym at)
    (H.stands.each_side d element within).transit in
    let asked = requested (dev_of (seen p) d) element way request inside transit (sym result_is ∙ some) in
    subst IsMessage (sym reply_is)
    (reply_legal way request.0 request.1 h asked.goes legal
    (heard_fits p d request.1 h local pages H exists (λ e. inside (sym asked.goes ∙ e)) acted))
