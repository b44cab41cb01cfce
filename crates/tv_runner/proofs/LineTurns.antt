-- The turn of a device: what holds between its items.
use Rattle.std.proofs.Common.{◌≡◌, ◌≢◌, ℕ, ◌+◌, ◌-◌, ◌<◌, ◌≤◌, List, [], ◌++◌, drop, length, Option, Some, None, refl, ap, sym, ◌∙◌, subst, arith}
use Rattle.tv_items.specs.declared.action.Action.{Action}
use Rattle.tv_items.specs.declared.action.Heard.{Heard}
use Rattle.tv_items.specs.declared.item.Item.{Item}
use Rattle.tv_items.specs.declared.item.Item.TheVariants as item
use Rattle.tv_items.specs.declared.item.Verdict.{Verdict}
use Rattle.tv_machine.specs.declared.machine.Machine.{Machine}
use Rattle.tv_plan.specs.Devices.{Acted, DeviceState, act, next, told}
use Rattle.tv_port.specs.Acting.{ActedSo, CanAct}
use Rattle.tv_port.specs.declared.device.Acted.{Acted as ActedCode}
use Rattle.tv_script.specs.Happenings.{Happening, Wanted, asks, tells, replies, verdicts}
use Rattle.tv_script.specs.Services.{AwaitsService, EndsSo, Rests, wanted_by}
use Rattle.tv_script.specs.declared.service.Served.{Served}
use Rattle.tv_script.specs.declared.service.Served.TheVariants as served
use Rattle.tv_script.proofs.Wanted.{asked_next}
use Rattle.tv_spec.specs.declared.Due.{Due}
use Rattle.tv_spec.specs.declared.Made.{Made}
use Rattle.tv_spec.specs.declared.Mode.{Mode}
use Rattle.tv_spec.specs.declared.Stop.{Stop}
use Rattle.tv_spec.specs.Devices.{IsOver, answers_of, due_for, next_of, rested, with_act}
use Rattle.tv_spec.specs.Shows.{cause_in}
use Rattle.tv_spec.specs.State.{DeviceRun}
use Rattle.tv_core.specs.Calls.{why_of}
use Rattle.tv_core.specs.Seen.{HasDevice, Seen, dev_of}
use Rattle.tv_core.proofs.Makers.{IsAccess}
use Rattle.tv_runner.specs.Cores.{EndsBy, stop_for, stop_of}
use Rattle.tv_runner.specs.LineLaws.{served_none, served_on}
use Rattle.tv_runner.specs.Lines.{AnsweredSo, HappenedSo, IsActedOn, IsAtRest, IsAwaited, IsDue, IsEmpty, IsGoing, IsOwed, IsProbe, IsRested, IsServedOn, IsStill, IsTurned, IsWanted, TakesSo, values_of}
use Rattle.tv_runner.proofs.CoreParts.{runs_by}
use Rattle.tv_runner.proofs.DeviceEntries.{still_next}
use Rattle.tv_runner.proofs.Probes.{acts_probe, asks_inside, loses_none, rests_probe}

-- 1. An item

pub can_act : (i : Item) → IsAccess i → CanAct i
can_act (item.Load width off) access = tt
can_act (item.Store width off value) access = tt
can_act (item.Target pages) access = absurd access
can_act item.Stats access = absurd access
can_act (item.Resize sectors) access = absurd access

due_as : (i : Item) (a : Acted) → IsAccess i → answers_of i a ≡ values_of i a.value
due_as (item.Load width off) a access = refl
due_as (item.Store width off value) a access = refl
due_as (item.Target pages) a access = absurd access
due_as item.Stats a access = absurd access
due_as (item.Resize sectors) a access = absurd access

-- what a device comes to, and what it owes, where it acted on an item at rest
pub owes_then : (v w : DeviceRun) (s later : DeviceState) (tag : ℕ) (i : Item) (acted : ActedCode) → IsAtRest v s → IsAccess i → IsActedOn v w tag i → ActedSo (act s tag i) later acted
    → IsDue w tag i acted.value
owes_then v w s later tag i acted rest access on so =
    let a : Acted = act (rested v.device (next_of v)) tag i in
    let same : a ≡ act s tag i = ap (λ (x : DeviceState). act x tag i) rest.state in
    let value : a.value ≡ acted.value = ap (λ (x : Acted). x.value) same ∙ sym so.value in
    record {
      maker = on.maker;
      due = ap (λ (x : DeviceRun). x.due) on.now
          ∙ ap (λ (ws : List Due). ws ++ due_for v.acted on.maker (answers_of i a)) rest.still.answered.due
          ∙ ap (λ (n : ℕ). due_for n on.maker (answers_of i a)) (sym on.place)
          ∙ ap (due_for tag on.maker) (due_as i a access ∙ ap (values_of i) value);
      replied = ap (λ (x : DeviceRun). x.replied) on.now ∙ rest.still.answered.replied;
    }

-- a device that acted and answered, and begins a service
pub record IsReady (v w : DeviceRun) (s : DeviceState) : Type 0 where
  pub device : w.device ≡ s
  pub got : w.got ≡ []
  pub still : IsStill w
  pub acted : w.acted ≡ v.acted + 1
  pub made : w.made ≡ v.made

pub ready_then : (v w u : DeviceRun) (s later : DeviceState) (tag : ℕ) (i : Item) (acted : ActedCode) → IsAtRest v s → IsActedOn v w tag i → ActedSo (act s tag i) later acted
    → u ≡ record w { due = [] } → IsReady v u later
ready_then v w u s later tag i acted rest on so settled =
    let same : u ≡ record (with_act v (record { item = i; maker = on.maker }) (act (rested v.device (next_of v)) tag i)) { due = [] } =
    settled ∙ ap (λ (x : DeviceRun). record x { due = [] }) on.now in
    subst (λ (x : DeviceRun). IsReady v x later) (sym same) record {
      device = ap (λ (x : DeviceState). (act x tag i).device) rest.state ∙ sym so.device;
      got = refl;
      still = record { quiet = refl; answered = record { due = refl; replied = rest.still.answered.replied } };
      acted = refl;
      made = refl;
    }

abbrev pub IsLoadItem : Item → Type 0
IsLoadItem (item.Load width off) = Unit {0}
IsLoadItem i = ⊥

-- a load's value is due, or nothing
pub owed_load : (v : DeviceRun) (tag value : ℕ) (i : Item) → IsLoadItem i → IsDue v tag i value → IsOwed v tag value
owed_load v tag value (item.Load width off) load due = record { maker = due.maker; due = due.due; replied = due.replied }
owed_load v tag value (item.Store width off x) load due = absurd load
owed_load v tag value (item.Target pages) load due = absurd load
owed_load v tag value item.Stats load due = absurd load
owed_load v tag value (item.Resize sectors) load due = absurd load

pub owes_nothing : (p : Seen) (d tag value : ℕ) (i : Item) → (IsLoadItem i → ⊥) → IsGoing p → IsDue (dev_of p d) tag i value → AnsweredSo d p p
owes_nothing p d tag value i none going due = record {
  on = served_none d p;
  going = going;
  dev = ap (λ (ws : List Due). record (dev_of p d) { due = ws }) (due.due ∙ ap (due_for tag due.maker) (nothing i none));
}
  where
    nothing : (x : Item) → (IsLoadItem x → ⊥) → values_of x value ≡ []
    nothing (item.Load width off) none = absurd (none tt)
    nothing (item.Store width off n) none = refl
    nothing (item.Target pages) none = refl
    nothing item.Stats none = refl
    nothing (item.Resize sectors) none = refl

-- 2. A service

pub ends_there : (p : Seen) → IsGoing p → EndsBy (stop_of p) p
ends_there p going = subst (λ (o : Option Stop). EndsBy o p) (sym (ap (λ (m : Mode). stop_for (cause_in m)) going.runs)) going.outer

is_wanted : (s : DeviceState) (hs : List Heard) (vs : List Verdict) (w : Wanted) → IsProbe s → wanted_by vs (next s hs) ≡ Some w → IsWanted s hs w
is_wanted s hs vs (asks a) probe is = let asks_it = asked_next vs (next s hs) a is in (asks_it, asks_inside s hs a probe asks_it)
is_wanted s hs vs (tells v) probe is = tt

-- the line awaits the service of a probe
pub ready_awaits : (p : Seen) (d : ℕ) (v : DeviceRun) (s : DeviceState) → HasDevice p d → IsGoing p → IsProbe s → IsReady v (dev_of p d) s
    → AwaitsService (λ xs w. IsAwaited p d xs w) (next s) (told s)
ready_awaits p d v s exists going probe ready = record {
  each = λ xs w service wanted. record {
    exists = exists;
    wanted = subst (λ (x : DeviceState). IsWanted x ((dev_of p d).got ++ replies xs) w) (sym ready.device)
        (subst (λ (hs : List Heard). IsWanted s (hs ++ replies xs) w) (sym ready.got) (is_wanted s (replies xs) (drop (length (verdicts xs)) (told s (replies xs))) w probe wanted));
    still = λ _. ready.still;
    ends = ends_there p going;
  };
}

pub going_still : (p q : Seen) (d : ℕ) → IsGoing p → IsServedOn d p q → why_of q ≡ None → IsGoing q
going_still p q d going on runs = record {
  outer = subst (λ (o : Option Stop). EndsBy o q) (ap stop_for runs) (on.ends (ends_there p going));
  runs = runs_by q runs;
}

-- where the run goes on after it, the device is at rest
served_rest : {Q : Type 0} (over : Q → Type 0) (stopped : Q → Option Action) (line : Q) (p q : Seen) (d : ℕ) (v : DeviceRun) (s new : DeviceState) (xs : List Happening) (result : Served)
    → (over line → why_of q ≢ None) → IsProbe s → IsReady v (dev_of p d) s → HappenedSo d p xs q → why_of q ≡ None → EndsSo over stopped line (next s (replies xs)) new result → IsAtRest (dev_of q d) new × IsProbe new
served_rest over stopped line p q d v s new xs result over_is probe ready happened runs ends = by_result result ends
  where
    still : IsStill (dev_of q d)
    still = happened.still (λ _. ready.still) runs

    next_is : next_of (dev_of q d) ≡ next s (replies xs)
    next_is =
        still_next (dev_of q d) still.quiet
        ∙ ap (λ (x : DeviceState). next x (dev_of q d).got) (happened.heard.device ∙ ready.device)
        ∙ ap (λ (hs : List Heard). next s hs) (happened.heard.got ∙ ap (λ (hs : List Heard). hs ++ replies xs) ready.got)

    by_result : (r : Served) → EndsSo over stopped line (next s (replies xs)) new r → IsAtRest (dev_of q d) new × IsProbe new
    by_result served.Idle idle =
        let rests : next_of (dev_of q d) ≡ Rests new = next_is ∙ idle in (
          record {
            still = still;
            over = subst IsOver (sym rests) tt;
            state = ap (rested (dev_of q d).device) rests;
          },
          rests_probe s new (replies xs) probe idle,
        )
    by_result served.Lost lost = absurd (loses_none s new (replies xs) probe lost)
    by_result served.Ended cut = absurd (over_is cut.ends runs)

-- 3. Between two items

-- the device has acted on some items and is at rest, and the run goes on
pub record IsTurning (a b : ℕ) (first now : Seen) (s : DeviceState) : Type 0 where
  pub at : b ≡ a
  pub exists : HasDevice now b
  pub on : IsServedOn a first now
  pub going : IsGoing now
  pub probe : IsProbe s
  pub rest : IsAtRest (dev_of now b) s

pub turning_first : (a : ℕ) (p : Seen) (s : DeviceState) → HasDevice p a → IsGoing p → IsProbe s → IsAtRest (dev_of p a) s → IsTurning a a p p s
turning_first a p s exists going probe rest = record { at = refl; exists = exists; on = served_none a p; going = going; probe = probe; rest = rest }

-- no item was left, or the run ended
pub turned_empty : (a b : ℕ) (first p q : Seen) (s : DeviceState) → IsTurning a b first p s → IsEmpty b p q → IsTurned a first q s
turned_empty a b first p q s T empty = record {
  on = served_on a first p q T.on (subst (λ (d : ℕ). IsServedOn d p q) T.at empty.on);
  rest = λ runs. by_none (empty.none runs);
}
  where
    by_none : (q ≡ p) × (length (dev_of p b).made ≤ (dev_of p b).acted) → IsRested q a s
    by_none none =
        subst (λ (x : Seen). IsRested x a s) (sym none.0)
        (subst (λ (d : ℕ). IsRested p d s) T.at (record { going = T.going; probe = T.probe; rest = T.rest; none = none.1 }))

-- the device acted on an item
has_device : (p q : Seen) (b e : ℕ) → q.machine ≡ p.machine → e ≡ b → HasDevice p b → HasDevice q e
has_device p q b e same is exists = subst (λ (m : Machine). HasDevice (record q { machine = m }) e) (sym same) (subst (λ (d : ℕ). HasDevice p d) (sym is) exists)

pub taken_device : (a b e : ℕ) (first p q : Seen) (s : DeviceState) (tag : ℕ) (i : Item) → IsTurning a b first p s → e ≡ b → TakesSo b p q tag i → HasDevice q e
taken_device a b e first p q s tag i T is takes = has_device p q b e takes.on.machine is T.exists

pub taken_due : (a b e : ℕ) (first p q : Seen) (s later : DeviceState) (tag : ℕ) (i : Item) (acted : ActedCode) → IsTurning a b first p s → e ≡ b → TakesSo b p q tag i → IsAccess i
    → ActedSo (act s tag i) later acted → IsDue (dev_of q e) tag i acted.value
taken_due a b e first p q s later tag i acted T is takes access so =
    subst (λ (d : ℕ). IsDue (dev_of q d) tag i acted.value) (sym is) (owes_then (dev_of p b) (dev_of q b) s later tag i acted T.rest access takes.acted so)

-- and answered, so that it begins a service
pub record IsSettled (a b f : ℕ) (first p r : Seen) (s : DeviceState) : Type 0 where
  pub at : f ≡ a
  pub exists : HasDevice r f
  pub on : IsServedOn a first r
  pub going : IsGoing r
  pub probe : IsProbe s
  pub more : (dev_of p b).acted < length (dev_of p b).made
  pub ready : IsReady (dev_of p b) (dev_of r f) s

pub settled : (a b e f : ℕ) (first p q r : Seen) (s later : DeviceState) (tag : ℕ) (i : Item) (acted : ActedCode) → IsTurning a b first p s → e ≡ b → TakesSo b p q tag i
    → ActedSo (act s tag i) later acted → f ≡ e → AnsweredSo e q r → IsSettled a b f first p r later
settled a b e f first p q r s later tag i acted T one takes so two answered =
    let here : AnsweredSo b q r = subst (λ (d : ℕ). AnsweredSo d q r) one answered in
    let on : IsServedOn b p r = served_on b p q r takes.on here.on in
    let is : f ≡ b = two ∙ one in
    record {
      at = is ∙ T.at;
      exists = has_device p r b f on.machine is T.exists;
      on = served_on a first p r T.on (subst (λ (d : ℕ). IsServedOn d p r) T.at on);
      going = here.going;
      probe = subst IsProbe (sym so.device) (acts_probe s tag i T.probe);
      more = takes.acted.more;
      ready = subst (λ (d : ℕ). IsReady (dev_of p b) (dev_of r d) later) (sym is)
          (ready_then (dev_of p b) (dev_of q b) (dev_of r b) s later tag i acted T.rest takes.acted so here.dev);
    }

pub settled_awaits : (a b f : ℕ) (first p r : Seen) (s : DeviceState) → IsSettled a b f first p r s → AwaitsService (λ xs w. IsAwaited r f xs w) (next s) (told s)
settled_awaits a b f first p r s S = ready_awaits r f (dev_of p b) s S.exists S.going S.probe S.ready

-- and served
pub turned_over : (a b f g : ℕ) (first p r t : Seen) (s new : DeviceState) (xs : List Happening) → IsSettled a b f first p r s → (g ≡ f) × HappenedSo f r xs t → why_of t ≢ None → IsTurned a first t new
turned_over a b f g first p r t s new xs S went over = record {
  on = served_on a first r t S.on (subst (λ (d : ℕ). IsServedOn d r t) S.at went.1.on);
  rest = λ runs. absurd (over runs);
}

pub turning_on : {Q : Type 0} (over : Q → Type 0) (stopped : Q → Option Action) (line : Q) (a b f g : ℕ) (first p r t : Seen) (s new : DeviceState) (xs : List Happening) (result : Served)
    → (over line → why_of t ≢ None) → IsSettled a b f first p r s → (g ≡ f) × HappenedSo f r xs t → why_of t ≡ None → EndsSo over stopped line (next s (replies xs)) new result → IsTurning a g first t new
turning_on over stopped line a b f g first p r t s new xs result over_is S went runs ends =
    let happened : HappenedSo f r xs t = went.1 in
    let rest = served_rest over stopped line r t f (dev_of p b) s new xs result over_is S.probe S.ready happened runs ends in
    record {
      at = went.0 ∙ S.at;
      exists = has_device r t f g happened.on.machine went.0 S.exists;
      on = served_on a first r t S.on (subst (λ (d : ℕ). IsServedOn d r t) S.at happened.on);
      going = going_still r t f S.going happened.on runs;
      probe = rest.1;
      rest = subst (λ (d : ℕ). IsAtRest (dev_of t d) new) (sym went.0) rest.0;
    }

-- an item fewer is left
abbrev pub items_left : Seen → ℕ → ℕ
items_left p d = length (dev_of p d).made - (dev_of p d).acted

pub left_falls : (a b f g : ℕ) (first p r t : Seen) (s : DeviceState) (xs : List Happening) → IsSettled a b f first p r s → (g ≡ f) × HappenedSo f r xs t → items_left t g < items_left p b
left_falls a b f g first p r t s xs S went =
    let made : length (dev_of t f).made ≡ length (dev_of p b).made = ap (λ (ms : List Made). length ms) (went.1.heard.made ∙ S.ready.made) in
    let acted : (dev_of t f).acted ≡ (dev_of p b).acted + 1 = went.1.heard.acted ∙ S.ready.acted in
    let more = S.more in
    let less : length (dev_of t f).made - (dev_of t f).acted < length (dev_of p b).made - (dev_of p b).acted = omega (arith, made, acted, more) in
    subst (λ (d : ℕ). items_left t d < items_left p b) (sym went.0) less
