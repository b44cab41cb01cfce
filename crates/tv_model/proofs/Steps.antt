-- What the entries of devices make of the monitor, part by part.
use Rattle.std.proofs.Common.{◌≡◌, ◌≢◌, ℕ, zero, suc, ◌+◌, ◌<◌, ◌≤◌, ◌⊎◌, inl, inr, Bool, true, false, List, [], ◌∷◌, ◌++◌, length, length-set, get_or, set, Option, Some, None, refl, ap, sym, ◌∙◌, subst, arith, append-nil}
use Rattle.std.specs.Prelude.{Result, Ok, Err, ⊤}
use Rattle.std.specs.List.{slice_get}
use Rattle.std.proofs.lemmas.Bool.Decides.{eqb_tells}
use Rattle.std.proofs.lemmas.Grind.{get_or-set_at}
use Rattle.std.proofs.lemmas.List.{get_or_default, get_or-set_other}
use Rattle.tv_grants.specs.Grants.{GrantState}
use Rattle.tv_guest.specs.Direct.{granted_to}
use Rattle.tv_guest.specs.GuestState.{GuestState}
use Rattle.tv_guest.proofs.Bursts.{same_state}
use Rattle.tv_hart.specs.Hart.{finished, first_hart}
use Rattle.tv_hart.specs.HartState.{HartState}
use Rattle.tv_items.specs.declared.action.Action.{Action}
use Rattle.tv_items.specs.declared.action.Heard.{Heard}
use Rattle.tv_items.specs.declared.action.Way.{Way}
use Rattle.tv_items.specs.declared.action.Way.TheVariants.{Memory, Interrupt, Outside}
use Rattle.tv_items.specs.declared.item.Item.{Item}
use Rattle.tv_items.specs.declared.item.Item.TheVariants as item
use Rattle.tv_journal.specs.declared.Entry.{Entry}
use Rattle.tv_journal.specs.declared.Entry.TheVariants as entry
use Rattle.tv_plan.specs.Devices.{Acted}
use Rattle.tv_script.specs.Services.{Asks}
use Rattle.tv_spec.specs.declared.Answer.{Answer}
use Rattle.tv_spec.specs.declared.Due.{Due}
use Rattle.tv_spec.specs.declared.Maker.{Maker}
use Rattle.tv_spec.specs.declared.Mode.{Mode}
use Rattle.tv_spec.specs.declared.Mode.TheVariants as mode
use Rattle.tv_spec.specs.declared.Pending.{Pending}
use Rattle.tv_spec.specs.declared.Phase.{Phase}
use Rattle.tv_spec.specs.Devices.{CanBegin, CanHear, CanServe, CanTake, GoesInside, GoesOutside, IsServed, act_on, answers_of, due_for, next_of, with_act, with_got, with_heard, with_phase, with_reply}
use Rattle.tv_spec.specs.Direct.{Direct, direct}
use Rattle.tv_spec.specs.Setup.{DeviceSetup, Setup}
use Rattle.tv_spec.specs.Shows.{bytes_of}
use Rattle.tv_spec.specs.Sound.{Sound, load_at}
use Rattle.tv_spec.specs.State.{DeviceRun, State, device_in}
use Rattle.tv_spec.specs.Step.{Can, IsOpen, made, mode_after, put_dev, reached, served, took_as, done}
use Rattle.tv_spec.specs.Update.{update}
use Rattle.tv_spec.proofs.Updates.{same_function, update_here}
use Rattle.tv_model.specs.declared.fault.StepFault.{StepFault}
use Rattle.tv_model.specs.declared.fault.StepFault.TheVariants as step_fault
use Rattle.tv_model.specs.Monitor.{IsMonitor, IsStep, StepsSo}
use Rattle.tv_model.specs.MonitorState.{MonitorState, SlotState, grants_from, no_slot, run_at, setup_in, state_in}
use Rattle.tv_model.specs.Moves.{IsSame}
use Rattle.tv_model.specs.Parts.{ServesSo, finished_in, freed_in, noted_in}
use Rattle.tv_model.specs.Slots.{AnswersSo, IsAnswered, IsLanded, IsSent, IsTaken, reached_by}

-- 1. Lists read as functions

pub list_put : {A : Type 0} → (xs : List A) (none : ℕ → A) (k : ℕ) (x : A) → k < length xs
    → ◌≡◌ {A = ℕ → A} (λ j. get_or (set xs k x) j (none j)) (update (λ j. get_or xs j (none j)) k x)
list_put xs none k x within = same_function _ _ (λ (j : ℕ). elim (eqb_tells j k) [
  | inl same ↦ rw same.0 (get_or-set_at xs k j x (none j) same.1 within)
  | inr other ↦ rw other.0 (get_or-set_other xs k j x (none j) other.1)
])

pub run_put : (slots : List SlotState) (d : ℕ) (x : SlotState) → d < length slots → ◌≡◌ {A = ℕ → DeviceRun} (run_at (set slots d x)) (update (run_at slots) d x.run)
run_put slots d x within = same_function _ _ (λ (j : ℕ). elim (eqb_tells j d) [
  | inl same ↦ rw same.0 (ap (λ (s : SlotState). s.run) (get_or-set_at slots d j x no_slot same.1 within))
  | inr other ↦ rw other.0 (ap (λ (s : SlotState). s.run) (get_or-set_other slots d j x no_slot other.1))
])

pub setup_put : (m : MonitorState) (d : ℕ) (x : SlotState) → setup_in (record m { slots = set m.slots d x }) ≡ setup_in m
setup_put m d x =
    ap (λ (n : ℕ). let s : Setup = record { harts = length m.guest.harts; steps = m.guest.steps; devices = grants_from m.grants 0 n } in s) (length-set m.slots d x)

-- 2. No step

pub same_slot : (m : MonitorState) (d : ℕ) (x : SlotState) → d < length m.slots → x.run ≡ run_at m.slots d → IsSame m (record m { slots = set m.slots d x })
same_slot m d x within same = record {
  setup = setup_put m d x;
  state = same_state _ _ refl refl (run_put m.slots d x within ∙ sym (update_here (run_at m.slots) d x.run (sym same))) refl refl refl refl refl;
  console = refl;
}

pub same_at : (m : MonitorState) → IsSame m m
same_at m = record { setup = refl; state = refl; console = refl }

run_is : (m : MonitorState) (d dev : ℕ) (was : SlotState) → d ≡ dev → d < length m.slots → was ≡ get_or m.slots d was → was.run ≡ run_at m.slots dev
run_is m d dev was is within was_is = ap (λ (s : SlotState). s.run) (was_is ∙ get_or_default m.slots d was no_slot within) ∙ ap (run_at m.slots) is

pub no_step : {A : Type 0} → (m : MonitorState) (d dev : ℕ) (was x : SlotState) (e : Entry) (CanSlot : DeviceRun → Type 0) (Fits : A → Type 0) (fault : StepFault) (result : Result ⊤ StepFault)
    → d ≡ dev → d < length m.slots → was ≡ get_or m.slots d was → result ≡ Err fault → AnswersSo (CanSlot was.run) was.run x.run Fits (Err fault)
    → (Can (setup_in m) (state_in m) (made e) → CanSlot (run_at m.slots dev)) → StepsSo m (record m { slots = set m.slots d x }) e result
no_step {A = A} m d dev was x e CanSlot Fits step_fault.Illegal result same within was_is is answered down =
    rw is (record {
      cannot = λ can. answered.0 (subst CanSlot (sym (run_is m d dev was same within was_is)) (down can));
      same = same_slot m d x within (answered.1 ∙ ap (λ (s : SlotState). s.run) (was_is ∙ get_or_default m.slots d was no_slot within));
    })
no_step {A = A} m d dev was x e CanSlot Fits step_fault.Memory result same within was_is is answered down =
    rw is (same_slot m d x within (answered ∙ ap (λ (s : SlotState). s.run) (was_is ∙ get_or_default m.slots d was no_slot within)))

-- where the device or the run is not there
pub no_step_there : (m : MonitorState) (e : Entry) (fault : StepFault) (result : Result ⊤ StepFault) → result ≡ Err fault → fault ≡ step_fault.Illegal
    → (Can (setup_in m) (state_in m) (made e) → ⊥) → StepsSo m m e result
no_step_there m e fault result is fault_is cannot = rw (is, fault_is) (record { cannot = cannot; same = same_at m })

-- how many devices there are
pub grants_count : (grants : GrantState) (slot n : ℕ) → length (grants_from grants slot n) ≡ n
grants_count grants slot zero = refl
grants_count grants slot (suc n) = ap suc (grants_count grants (slot + 1) n)

pub has_device : (m : MonitorState) (d : ℕ) → d < length (setup_in m).devices → d < length m.slots
has_device m d below = let n = grants_count m.grants 0 (length m.slots) in omega (arith, below, n)

pub device_there : (m : MonitorState) (d : ℕ) → d < length m.slots → d < length (setup_in m).devices
device_there m d below = let n = grants_count m.grants 0 (length m.slots) in omega (arith, below, n)

grants_get : (grants : GrantState) (slot n d : ℕ) (none : DeviceSetup) → d < n → get_or (grants_from grants slot n) d none ≡ granted_to grants (slot + d)
grants_get grants slot zero d none below = absurd (omega (arith, below))
grants_get grants slot (suc n) zero none below = let same : slot ≡ slot + 0 = omega arith in ap (granted_to grants) same
grants_get grants slot (suc n) (suc d) none below =
    let same : slot + 1 + d ≡ slot + suc d = omega arith in grants_get grants (slot + 1) n d none (omega (arith, below)) ∙ ap (granted_to grants) same

pub grants_at : (m : MonitorState) (d : ℕ) → d < length m.slots → device_in (setup_in m).devices d ≡ granted_to m.grants d
grants_at m d below = let same : 0 + d ≡ d = omega arith in grants_get m.grants 0 (length m.slots) d _ below ∙ ap (granted_to m.grants) same

pub open_running : (m : Mode) → IsOpen m → m ≡ mode.Running
open_running mode.Running is = refl
open_running (mode.Ending cause) is = absurd is

-- one item of a list, read twice
pub same_item : (xs : List SlotState) (d : ℕ) (a b : SlotState) → d < length xs → a ≡ get_or xs d a → b ≡ get_or xs d b → a ≡ b
same_item xs d a b within a_is b_is = a_is ∙ get_or_default xs d a b within ∙ sym b_is

-- 3. A step at one device

-- another state of one device, and no byte at the debug port
pub step_put : (m : MonitorState) (d : ℕ) (x : SlotState) (v : DeviceRun) (e : Entry) → d < length m.slots → x.run ≡ v
    → Can (setup_in m) (state_in m) (made e)
    → done (setup_in m) (state_in m) (made e) ≡ record (put_dev (state_in m) d v) { ticked = false } → bytes_of (state_in m) (made e) ≡ []
    → IsStep m (record m { slots = set m.slots d x; ticked = false }) (made e)
step_put m d x v e within x_is can done_is bytes = record {
  step = record {
    can = can;
    setup = setup_put m d x;
    state = same_state _ _ refl refl (run_put m.slots d x within ∙ ap (update (run_at m.slots) d) x_is) refl refl refl refl refl ∙ sym done_is;
  };
  console = sym (append-nil m.console) ∙ ap (λ (bs : List ℕ). m.console ++ bs) (sym bytes);
}

-- 4. A device acts

lt_or_le : (a b : ℕ) → (a < b) ⊎ (b ≤ a)
lt_or_le a zero = inr (omega arith)
lt_or_le zero (suc b) = inl (omega arith)
lt_or_le (suc a) (suc b) = elim (lt_or_le a b) [ inl x ↦ inl (omega arith) | inr x ↦ inr (omega arith) ]

-- a hart with a load that was not delivered is one of the machine
waiting_there : (m : MonitorState) (h : ℕ) (p : Pending) → Sound (setup_in m) (state_in m) → (state_in m).pending h ≡ Some p → h < length m.guest.harts
waiting_there m h p S is = elim (lt_or_le h (length m.guest.harts)) [
  | inl below ↦ below
  | inr above ↦ absurd (let none = S.few h above in let no_ : ◌≡◌ {A = Option Pending} (Some p) None = sym is ∙ none in cc)
]

harts_reached : (m : MonitorState) (d : ℕ) (i : Item) (maker : Maker) (a : Acted) → Sound (setup_in m) (state_in m)
    → slice_get (run_at m.slots d).made (run_at m.slots d).acted ≡ Some (record { item = i; maker = maker })
    → (state_in (record m { guest = finished_in m.guest (reached_by (record { item = i; maker = maker }) a.value) })).harts
    ≡ (reached (state_in m) (due_for (run_at m.slots d).acted maker (answers_of i a))).harts
harts_reached m d (item.Load width off) (Maker.Hart h) a S at =
    list_put m.guest.harts first_hart h (finished (get_or m.guest.harts h (first_hart h)) a.value)
    (waiting_there m h (load_at d (run_at m.slots d).acted false) S (S.unacted d (run_at m.slots d).acted h (omega arith) (rw at (refl, tt))))
harts_reached m d (item.Load width off) (Maker.Line c) a S at = refl
harts_reached m d (item.Store width off value) maker a S at = refl
harts_reached m d (item.Target pages) maker a S at = refl
harts_reached m d item.Stats maker a S at = refl
harts_reached m d (item.Resize sectors) maker a S at = refl

-- what else such a value leaves
guest_reached : (guest : GuestState) (reached_at : Option (ℕ × ℕ)) → (finished_in guest reached_at ≡ record guest { harts = (finished_in guest reached_at).harts })
    × (length (finished_in guest reached_at).harts ≡ length guest.harts)
guest_reached guest None = (refl, refl)
guest_reached guest (Some (h, value)) = (refl, length-set guest.harts h _)

rest_reached : (s : State) (ws : List Due) → reached s ws ≡ record s { harts = (reached s ws).harts }
rest_reached s [] = refl
rest_reached s (w ∷ ws) = by_maker w.maker w.answer
  where
    by_maker : (maker : Maker) (answer : Answer) → reached s (record { tag = w.tag; maker = maker; answer = answer } ∷ ws)
        ≡ record s { harts = (reached s (record { tag = w.tag; maker = maker; answer = answer } ∷ ws)).harts }
    by_maker (Maker.Line c) answer = refl
    by_maker (Maker.Hart h) (Answer.Value v) = refl
    by_maker (Maker.Hart h) (Answer.Verdict v) = refl

pub step_take : (m : MonitorState) (d : ℕ) (x : SlotState) (guest : GuestState) (reached_at : Option (ℕ × ℕ)) → d < length m.slots → Sound (setup_in m) (state_in m) → m.guest.mode ≡ mode.Running
    → CanTake (run_at m.slots d) → IsTaken (run_at m.slots d) x.run reached_at → guest ≡ finished_in m.guest reached_at
    → IsStep m (record m { guest = guest; slots = set m.slots d x; ticked = false }) (made (entry.Take d))
step_take m d x guest reached_at within S running can taken guest_is =
    let v : DeviceRun = run_at m.slots d in
    let a : Acted = act_on v taken.made in
    let ws : List Due = due_for v.acted taken.made.maker (answers_of taken.made.item a) in
    let g = guest_reached m.guest reached_at in
    let guest_parts : guest ≡ record m.guest { harts = guest.harts } = guest_is ∙ g.0 ∙ ap (λ (hs : List HartState). let r : GuestState = record m.guest { harts = hs } in r) (ap (λ (x : GuestState). x.harts) (sym guest_is)) in
    let new : MonitorState = record m { guest = guest; slots = set m.slots d x; ticked = false } in
    let at_reached : guest ≡ finished_in m.guest (reached_by taken.made a.value) = guest_is ∙ ap (finished_in m.guest) taken.reached_is in
    let harts : (state_in new).harts ≡ (reached (state_in m) ws).harts =
    ap (λ (x : GuestState). let f : ℕ → HartState = λ h. get_or x.harts h (first_hart h) in f) at_reached ∙ harts_reached m d taken.made.item taken.made.maker a S taken.at in
    let took : State = took_as (state_in m) d taken.made a in
    let rest : reached (state_in m) ws ≡ record (state_in m) { harts = (reached (state_in m) ws).harts } = rest_reached (state_in m) ws in
    let put : State = record (state_in m) { harts = (reached (state_in m) ws).harts; devs = update (run_at m.slots) d (with_act v taken.made a); ticked = false } in
    let took_is : ◌≡◌ {A = State} (record took { ticked = false }) put =
    ap (λ (s : State). let r : State = record (put_dev s d (with_act v taken.made a)) { ticked = false } in r) rest in
    record {
      step = record {
        can = (device_there m d within, rw running tt, can);
        setup = ap (λ (n : ℕ). let s : Setup = record { harts = n; steps = guest.steps; devices = grants_from m.grants 0 (length (set m.slots d x)) } in s) (ap (λ (x : GuestState). length x.harts) guest_is ∙ g.1)
            ∙ ap (λ (n : ℕ). let s : Setup = record { harts = length m.guest.harts; steps = n; devices = grants_from m.grants 0 (length (set m.slots d x)) } in s) (ap (λ (x : GuestState). x.steps) guest_parts)
            ∙ setup_put m d x;
        state = same_state _ _ harts refl (run_put m.slots d x within ∙ ap (update (run_at m.slots) d) taken.new_is)
            (ap (λ (x : GuestState). x.local) guest_parts) refl (ap (λ (x : GuestState). x.mode) guest_parts) (ap (λ (x : GuestState). x.events) guest_parts) refl
            ∙ sym took_is ∙ sym (rw taken.at refl);
      };
      console = sym (append-nil m.console);
    }

-- 5. A service

direct_device : (m : MonitorState) (d : ℕ) (x : SlotState) (grants : GrantState) → grants ≡ record m.grants { withdrawn = grants.withdrawn }
    → grants_from grants 0 (length (set m.slots d x)) ≡ grants_from m.grants 0 (length m.slots)
direct_device m d x grants grants_is =
    ap (λ (g : GrantState). grants_from g 0 (length (set m.slots d x))) grants_is
    ∙ same_grants grants.withdrawn 0 (length (set m.slots d x)) ∙ ap (grants_from m.grants 0) (length-set m.slots d x)
  where
    same_grants : (withdrawn : List Bool) (slot n : ℕ) → grants_from (record m.grants { withdrawn = withdrawn }) slot n ≡ grants_from m.grants slot n
    same_grants withdrawn slot zero = refl
    same_grants withdrawn slot (suc n) = ap (λ (ds : List DeviceSetup). granted_to m.grants slot ∷ ds) (same_grants withdrawn (slot + 1) n)

pub served_state : (m : MonitorState) (d : ℕ) (x : SlotState) (action : Action) (h : Heard) (guest : GuestState) (grants : GrantState) → d < length m.slots
    → next_of (run_at m.slots d) ≡ Asks action → x.run ≡ with_phase (run_at m.slots d) (Phase.Served h)
    → direct (granted_to m.grants d) d m.guest.local m.grants.withdrawn action ≡ record { heard = h; local = guest.local; withdrawn = grants.withdrawn }
    → guest ≡ record m.guest { local = guest.local }
    → state_in (record m { guest = guest; grants = grants; slots = set m.slots d x; ticked = false }) ≡ record (served (setup_in m) (state_in m) d (next_of (run_at m.slots d))) { ticked = false }
served_state m d x action h guest grants within asks x_is direct_is guest_is =
    let is : direct (device_in (setup_in m).devices d) d m.guest.local m.grants.withdrawn action ≡ record { heard = h; local = guest.local; withdrawn = grants.withdrawn } =
    ap (λ (s : DeviceSetup). direct s d m.guest.local m.grants.withdrawn action) (grants_at m d within) ∙ direct_is in
    same_state _ (record (put_dev (state_in m) d (with_phase (run_at m.slots d) (Phase.Served h))) { local = guest.local; withdrawn = grants.withdrawn; ticked = false })
    (ap (λ (g : GuestState). let f : ℕ → HartState = λ k. get_or g.harts k (first_hart k) in f) guest_is) refl
    (run_put m.slots d x within ∙ ap (update (run_at m.slots) d) x_is) refl refl (ap (λ (g : GuestState). g.mode) guest_is) (ap (λ (g : GuestState). g.events) guest_is) refl
    ∙ sym (rw asks (ap (λ (x : Direct). let r : State = record (put_dev (state_in m) d (with_phase (run_at m.slots d) (Phase.Served x.heard))) { local = x.local; withdrawn = x.withdrawn; ticked = false } in r) is))

pub served_setup : (m : MonitorState) (d : ℕ) (x : SlotState) (guest : GuestState) (grants : GrantState) → grants ≡ record m.grants { withdrawn = grants.withdrawn } → guest ≡ record m.guest { local = guest.local }
    → setup_in (record m { guest = guest; grants = grants; slots = set m.slots d x; ticked = false }) ≡ setup_in m
served_setup m d x guest grants grants_is guest_is =
    ap (λ (g : GuestState). let s : Setup = record { harts = length g.harts; steps = g.steps; devices = grants_from grants 0 (length (set m.slots d x)) } in s) guest_is
    ∙ ap (λ (ds : List DeviceSetup). let s : Setup = record { harts = length m.guest.harts; steps = m.guest.steps; devices = ds } in s) (direct_device m d x grants grants_is)

-- 6. Replies

lanes_there : (m : MonitorState) (h : ℕ) (p : Pending) → IsMonitor m → length m.pending ≡ 8 → (state_in m).pending h ≡ Some p → h < length m.pending
lanes_there m h p is lanes at =
    let here = waiting_there m h p is.run.sound at in let few = is.few in omega (arith, here, few, lanes)

pub step_reply : (m : MonitorState) (d tag : ℕ) (maker : Maker) (x : SlotState) → d < length m.slots → IsMonitor m → length m.pending ≡ 8 → IsAnswered (run_at m.slots d) x.run tag maker
    → IsStep m (record m { slots = set m.slots d x; pending = noted_in m.pending d tag maker; ticked = false }) (made (entry.Reply d))
step_reply m d tag maker x within is lanes a = by_maker maker a.maker_is
  where
    v : DeviceRun
    v = run_at m.slots d

    w_is : (k : Maker) → a.first.maker ≡ k → a.first ≡ record { tag = tag; maker = k; answer = a.first.answer }
    w_is k e = λ i. record { tag = a.tag_is i; maker = e i; answer = a.first.answer }

    due_is : (k : Maker) → a.first.maker ≡ k → v.due ≡ record { tag = tag; maker = k; answer = a.first.answer } ∷ a.rest
    due_is k e = a.due ∙ ap (λ (w : Due). w ∷ a.rest) (w_is k e)

    x_is : (k : Maker) → a.first.maker ≡ k → x.run ≡ with_reply v (record { tag = tag; maker = k; answer = a.first.answer } ∷ a.rest)
    x_is k e = a.new_is ∙ ap (λ (w : Due). with_reply v (w ∷ a.rest)) (w_is k e)

    by_maker : (k : Maker) → a.first.maker ≡ k → IsStep m (record m { slots = set m.slots d x; pending = noted_in m.pending d tag k; ticked = false }) (made (entry.Reply d))
    by_maker (Maker.Line c) e = record {
      step = record {
        can = (device_there m d within, rw (due_is (Maker.Line c) e) (omega arith));
        setup = setup_put m d x;
        state = same_state _ _ refl refl (run_put m.slots d x within ∙ ap (update (run_at m.slots) d) (x_is (Maker.Line c) e)) refl refl refl refl refl
            ∙ sym (rw (due_is (Maker.Line c) e) refl);
      };
      console = sym (append-nil m.console);
    }
    by_maker (Maker.Hart h) e =
        let waits = rw (due_is (Maker.Hart h) e) at (is.run.sound.due d) in
        record {
          step = record {
            can = (device_there m d within, rw (due_is (Maker.Hart h) e) (omega arith));
            setup = setup_put m d x;
            state = same_state _ _ refl (list_put m.pending (λ _. None) h (Some (load_at d tag true)) (lanes_there m h (load_at d tag false) is lanes waits.1))
                (run_put m.slots d x within ∙ ap (update (run_at m.slots) d) (x_is (Maker.Hart h) e)) refl refl refl refl refl
                ∙ sym (rw (due_is (Maker.Hart h) e) refl);
          };
          console = sym (append-nil m.console);
        }

pub step_deliver : (m : MonitorState) (d : ℕ) (maker : Maker) (x : SlotState) → d < length m.slots → IsMonitor m → length m.pending ≡ 8 → IsLanded (run_at m.slots d) x.run maker
    → IsStep m (record m { slots = set m.slots d x; pending = freed_in m.pending maker; ticked = false }) (made (entry.Deliver d))
step_deliver m d maker x within is lanes a = by_maker maker a.maker_is
  where
    v : DeviceRun
    v = run_at m.slots d

    replied_is : (k : Maker) → a.first.maker ≡ k → v.replied ≡ record { tag = a.first.tag; maker = k; answer = a.first.answer } ∷ a.rest
    replied_is k e = a.replied ∙ ap (λ (w : Maker). let r : List Due = record { tag = a.first.tag; maker = w; answer = a.first.answer } ∷ a.rest in r) e

    by_maker : (k : Maker) → a.first.maker ≡ k → IsStep m (record m { slots = set m.slots d x; pending = freed_in m.pending k; ticked = false }) (made (entry.Deliver d))
    by_maker (Maker.Line c) e = record {
      step = record {
        can = (device_there m d within, rw (replied_is (Maker.Line c) e) (omega arith));
        setup = setup_put m d x;
        state = same_state _ _ refl refl (run_put m.slots d x within ∙ ap (update (run_at m.slots) d) a.new_is) refl refl refl refl refl
            ∙ sym (rw (replied_is (Maker.Line c) e) refl);
      };
      console = sym (append-nil m.console);
    }
    by_maker (Maker.Hart h) e =
        let waits = rw (replied_is (Maker.Hart h) e) at (is.run.sound.replied d) in
        record {
          step = record {
            can = (device_there m d within, rw (replied_is (Maker.Hart h) e) (omega arith));
            setup = setup_put m d x;
            state = same_state _ _ refl (list_put m.pending (λ _. None) h None (lanes_there m h (load_at d a.first.tag true) is lanes waits.1))
                (run_put m.slots d x within ∙ ap (update (run_at m.slots) d) a.new_is) refl refl refl refl refl
                ∙ sym (rw (replied_is (Maker.Hart h) e) refl);
          };
          console = sym (append-nil m.console);
        }

-- 7. The same, by what the code of each came to

pub step_got : (m : MonitorState) (d dev : ℕ) (was x : SlotState) → d ≡ dev → d < length m.slots → was ≡ get_or m.slots d was
    → IsServed was.run.phase × (x.run ≡ with_got was.run) → IsStep m (record m { slots = set m.slots d x; ticked = false }) (made (entry.Got dev))
step_got m d dev was x is within was_is fits =
    let v : was.run ≡ run_at m.slots d = ap (λ (s : SlotState). s.run) (was_is ∙ get_or_default m.slots d was no_slot within) in
    subst (λ (k : ℕ). IsStep m (record m { slots = set m.slots d x; ticked = false }) (made (entry.Got k))) is
    (step_put m d x (with_got (run_at m.slots d)) (entry.Got d) within (fits.1 ∙ ap with_got v)
    (device_there m d within, subst (λ (r : DeviceRun). IsServed r.phase) v fits.0) refl refl)

pub step_sent : (m : MonitorState) (d dev : ℕ) (was x : SlotState) → d ≡ dev → d < length m.slots → m.guest.mode ≡ mode.Running → was ≡ get_or m.slots d was
    → CanBegin was.run GoesInside × (x.run ≡ with_phase was.run Phase.Sent) → IsStep m (record m { slots = set m.slots d x; ticked = false }) (made (entry.Send dev))
step_sent m d dev was x is within running was_is fits =
    let v : was.run ≡ run_at m.slots d = ap (λ (s : SlotState). s.run) (was_is ∙ get_or_default m.slots d was no_slot within) in
    subst (λ (k : ℕ). IsStep m (record m { slots = set m.slots d x; ticked = false }) (made (entry.Send k))) is
    (step_put m d x (with_phase (run_at m.slots d) Phase.Sent) (entry.Send d) within (fits.1 ∙ ap (λ (r : DeviceRun). with_phase r Phase.Sent) v)
    (device_there m d within, rw running tt, subst (λ (r : DeviceRun). CanBegin r GoesInside) v fits.0) refl refl)

pub step_intended : (m : MonitorState) (d dev : ℕ) (was x : SlotState) → d ≡ dev → d < length m.slots → m.guest.mode ≡ mode.Running → was ≡ get_or m.slots d was
    → CanBegin was.run GoesOutside × (x.run ≡ with_phase was.run Phase.Intended) → IsStep m (record m { slots = set m.slots d x; ticked = false }) (made (entry.Intend dev))
step_intended m d dev was x is within running was_is fits =
    let v : was.run ≡ run_at m.slots d = ap (λ (s : SlotState). s.run) (was_is ∙ get_or_default m.slots d was no_slot within) in
    subst (λ (k : ℕ). IsStep m (record m { slots = set m.slots d x; ticked = false }) (made (entry.Intend k))) is
    (step_put m d x (with_phase (run_at m.slots d) Phase.Intended) (entry.Intend d) within (fits.1 ∙ ap (λ (r : DeviceRun). with_phase r Phase.Intended) v)
    (device_there m d within, rw running tt, subst (λ (r : DeviceRun). CanBegin r GoesOutside) v fits.0) refl refl)

pub step_taken : (m : MonitorState) (d dev : ℕ) (was x : SlotState) (guest : GuestState) (reached_at : Option (ℕ × ℕ)) → d ≡ dev → d < length m.slots → IsMonitor m
    → m.guest.mode ≡ mode.Running → was ≡ get_or m.slots d was → CanTake was.run × IsTaken was.run x.run reached_at → guest ≡ finished_in m.guest reached_at
    → IsStep m (record m { guest = guest; slots = set m.slots d x; ticked = false }) (made (entry.Take dev))
step_taken m d dev was x guest reached_at is within M running was_is fits guest_is =
    let v : was.run ≡ run_at m.slots d = ap (λ (s : SlotState). s.run) (was_is ∙ get_or_default m.slots d was no_slot within) in
    subst (λ (k : ℕ). IsStep m (record m { guest = guest; slots = set m.slots d x; ticked = false }) (made (entry.Take k))) is
    (step_take m d x guest reached_at within M.run.sound running (subst CanTake v fits.0) (subst (λ (r : DeviceRun). IsTaken r x.run reached_at) v fits.1) guest_is)

pub step_replied : (m : MonitorState) (d dev tag : ℕ) (maker : Maker) (was x : SlotState) → d ≡ dev → d < length m.slots → IsMonitor m → length m.pending ≡ 8 → was ≡ get_or m.slots d was
    → IsAnswered was.run x.run tag maker → IsStep m (record m { slots = set m.slots d x; pending = noted_in m.pending dev tag maker; ticked = false }) (made (entry.Reply dev))
step_replied m d dev tag maker was x is within M lanes was_is fits =
    let v : was.run ≡ run_at m.slots d = ap (λ (s : SlotState). s.run) (was_is ∙ get_or_default m.slots d was no_slot within) in
    subst (λ (k : ℕ). IsStep m (record m { slots = set m.slots d x; pending = noted_in m.pending k tag maker; ticked = false }) (made (entry.Reply k))) is
    (step_reply m d tag maker x within M lanes (subst (λ (r : DeviceRun). IsAnswered r x.run tag maker) v fits))

pub step_delivered : (m : MonitorState) (d dev : ℕ) (maker : Maker) (was x : SlotState) → d ≡ dev → d < length m.slots → IsMonitor m → length m.pending ≡ 8 → was ≡ get_or m.slots d was
    → IsLanded was.run x.run maker → IsStep m (record m { slots = set m.slots d x; pending = freed_in m.pending maker; ticked = false }) (made (entry.Deliver dev))
step_delivered m d dev maker was x is within M lanes was_is fits =
    let v : was.run ≡ run_at m.slots d = ap (λ (s : SlotState). s.run) (was_is ∙ get_or_default m.slots d was no_slot within) in
    subst (λ (k : ℕ). IsStep m (record m { slots = set m.slots d x; pending = freed_in m.pending maker; ticked = false }) (made (entry.Deliver k))) is
    (step_deliver m d maker x within M lanes (subst (λ (r : DeviceRun). IsLanded r x.run maker) v fits))

pub step_heard : (m : MonitorState) (d dev : ℕ) (h : Heard) (was x : SlotState) (guest : GuestState) → d ≡ dev → d < length m.slots → was ≡ get_or m.slots d was
    → CanHear was.run h × (x.run ≡ with_heard was.run h) → guest ≡ record m.guest { mode = mode_after m.guest.mode dev h }
    → IsStep m (record m { guest = guest; slots = set m.slots d x; ticked = false }) (made (entry.Did dev h))
step_heard m d dev h was x guest is within was_is fits guest_is =
    let v : was.run ≡ run_at m.slots d = ap (λ (s : SlotState). s.run) (was_is ∙ get_or_default m.slots d was no_slot within) in
    let there : d < length (setup_in m).devices = device_there m d within in
    record {
      step = record {
        can = (subst (λ (k : ℕ). k < length (setup_in m).devices) is there, subst (λ (r : DeviceRun). CanHear r h) (v ∙ ap (run_at m.slots) is) fits.0);
        setup = ap (λ (g : GuestState). let s : Setup = record { harts = length g.harts; steps = g.steps; devices = grants_from m.grants 0 (length (set m.slots d x)) } in s) guest_is ∙ setup_put m d x;
        state = same_state _ _ (ap (λ (g : GuestState). let f : ℕ → HartState = λ k. get_or g.harts k (first_hart k) in f) guest_is) refl
            (run_put m.slots d x within ∙ ap (λ (r : DeviceRun). update (run_at m.slots) d r) (fits.1 ∙ ap (λ (r : DeviceRun). with_heard r h) v)
            ∙ ap (λ (k : ℕ). update (run_at m.slots) k (with_heard (run_at m.slots k) h)) is)
            (ap (λ (g : GuestState). g.local) guest_is) refl (ap (λ (g : GuestState). g.mode) guest_is) (ap (λ (g : GuestState). g.events) guest_is) refl;
      };
      console = sym (append-nil m.console);
    }

pub step_served : (m : MonitorState) (d dev : ℕ) (way : Way) (action : Action) (h : Heard) (was x : SlotState) (guest : GuestState) (grants : GrantState) → d ≡ dev → d < length m.slots
    → m.guest.mode ≡ mode.Running → was ≡ get_or m.slots d was → CanServe was.run way × IsSent was.run way action → x.run ≡ with_phase was.run (Phase.Served h)
    → direct (granted_to m.grants dev) dev m.guest.local m.grants.withdrawn action ≡ record { heard = h; local = guest.local; withdrawn = grants.withdrawn }
    → guest ≡ record m.guest { local = guest.local } → grants ≡ record m.grants { withdrawn = grants.withdrawn } → way ≢ Outside
    → ServesSo m (record m { guest = guest; grants = grants; slots = set m.slots d x; ticked = false }) dev way (Ok tt)
step_served m d dev way action h was x guest grants is within running was_is fits x_is direct_is guest_is grants_is inside =
    by_way way fits.0 inside
  where
    v : was.run ≡ run_at m.slots dev
    v = run_is m d dev was is within was_is

    there : dev < length m.slots
    there = subst (λ (k : ℕ). k < length m.slots) is within

    new : MonitorState
    new = record m { guest = guest; grants = grants; slots = set m.slots d x; ticked = false }

    setup : setup_in new ≡ setup_in m
    setup = served_setup m d x guest grants grants_is guest_is

    state : state_in new ≡ record (served (setup_in m) (state_in m) dev (next_of (run_at m.slots dev))) { ticked = false }
    state =
        ap (λ (k : ℕ). state_in (record m { guest = guest; grants = grants; slots = set m.slots k x; ticked = false })) is
        ∙ served_state m dev x action h guest grants there (ap next_of (sym v) ∙ fits.1.asks) (x_is ∙ ap (λ (r : DeviceRun). with_phase r (Phase.Served h)) v) direct_is guest_is

    by_way : (k : Way) → CanServe was.run k → k ≢ Outside → ServesSo m new dev k (Ok tt)
    by_way Memory can goes = record {
      step = record { can = (device_there m dev there, rw running tt, subst (λ (r : DeviceRun). CanServe r Memory) v can); setup = setup; state = state };
      console = sym (append-nil m.console);
    }
    by_way Interrupt can goes = record {
      step = record { can = (device_there m dev there, rw running tt, subst (λ (r : DeviceRun). CanServe r Interrupt) v can); setup = setup; state = state };
      console = sym (append-nil m.console);
    }
    by_way Outside can goes = tt
