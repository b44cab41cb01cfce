-- A device has at most as many items as harts made events, which are at most as many as the machine may make; so the tag of an
-- item is below that number.
use Rattle.std.proofs.Common.{◌≡◌, ℕ, ◌+◌, ◌==◌, ◌<◌, ◌≤◌, inl, inr, Bool, true, false, List, [], ◌∷◌, length, length-append, Option, Some, None, refl, sym, ◌∙◌, arith}
use Rattle.std.proofs.lemmas.Bool.Decides.{eqb_tells}
use Rattle.tv_base.specs.declared.Why.{Why}
use Rattle.tv_base.specs.declared.Why.TheVariants as why
use Rattle.tv_items.specs.declared.action.Heard.{Heard}
use Rattle.tv_plan.specs.Devices.{DeviceState, Acted}
use Rattle.tv_script.specs.Services.{Next, Asks, Rests, Loses}
use Rattle.tv_journal.specs.declared.Entry.TheVariants as entry
use Rattle.tv_spec.specs.declared.Mode.{Mode}
use Rattle.tv_spec.specs.declared.Mode.TheVariants as mode
use Rattle.tv_spec.specs.declared.Shown.{Shown}
use Rattle.tv_spec.specs.declared.Shown.TheVariants as shown
use Rattle.tv_spec.specs.Devices.{act_on, answers_of, due_for, item_of, next_of, with_act, with_got, with_heard, with_item, with_phase, with_reply}
use Rattle.tv_spec.specs.Direct.{direct}
use Rattle.tv_spec.specs.Setup.{Setup}
use Rattle.tv_spec.specs.declared.Made.{Made}
use Rattle.tv_spec.specs.declared.Maker.{Maker}
use Rattle.tv_spec.specs.declared.Due.{Due}
use Rattle.tv_spec.specs.declared.Phase.{Phase}
use Rattle.tv_spec.specs.State.{State, DeviceRun, device_in}
use Rattle.tv_spec.specs.Step.{Move, made, ended, Can, done, after_event, end_at, end_shown, event_of, issued, landed, mode_after, mode_by, noted, put_dev, served}
use Rattle.tv_spec.specs.Update.{update}
use Rattle.tv_spec.proofs.Rest.{beside_issued, beside_landed, beside_noted, beside_took, events_served, mode_served}
use Rattle.tv_spec.proofs.Serving.{devs_of_reached}
use Rattle.tv_spec.proofs.Updates.{some_at, update_elim}

-- each device has at most so many items
abbrev pub AreFew : ℕ → (ℕ → DeviceRun) → Type 0
AreFew most devs = (d : ℕ) → length (devs d).made ≤ most

few_dev : (most : ℕ) (devs : ℕ → DeviceRun) (d : ℕ) (v : DeviceRun) → AreFew most devs → v.made ≡ (devs d).made → AreFew most (update devs d v)
few_dev most devs d v few same j = update_elim devs d v j (λ w. length w.made ≤ most) (λ _. rw same (few d)) (λ _. few j)

few_issued : (most h : ℕ) (seen : Shown) (s : State) → AreFew most s.devs → AreFew (most + 1) (issued h seen s).devs
few_issued most h (shown.Access d access) s few j =
    let m : Made = record { item = item_of access; maker = Maker.Hart h } in
    update_elim s.devs d (with_item (s.devs d) m) j (λ w. length w.made ≤ most + 1)
    (λ _. rw length-append (let r = few d in omega arith)) (λ _. let r = few j in omega arith)
few_issued most h shown.Nothing s few j = let r = few j in omega arith
few_issued most h (shown.Byte byte) s few j = let r = few j in omega arith
few_issued most h (shown.Finish finish) s few j = let r = few j in omega arith

few_served : (most : ℕ) (setup : Setup) (s : State) (d : ℕ) (n : Next DeviceState) → AreFew most s.devs → AreFew most (served setup s d n).devs
few_served most setup s d (Rests state) few = few
few_served most setup s d (Loses state) few = few
few_served most setup s d (Asks action) few =
    few_dev most s.devs d (with_phase (s.devs d) (Phase.Served (direct (device_in setup.devices d) d s.local s.withdrawn action).heard)) few refl

few_reply : (most : ℕ) (s : State) (d : ℕ) (ws : List Due) → AreFew most s.devs → AreFew most (put_dev (noted s d ws) d (with_reply (s.devs d) ws)).devs
few_reply most s d [] few = few_dev most s.devs d (s.devs d) few refl
few_reply most s d (w ∷ ws) few = by_maker w.maker
  where
    by_maker : (maker : Maker) → AreFew most (put_dev (noted s d (record { tag = w.tag; maker = maker; answer = w.answer } ∷ ws)) d (with_reply (s.devs d) (record { tag = w.tag; maker = maker; answer = w.answer } ∷ ws))).devs
    by_maker (Maker.Hart h) = few_dev most s.devs d (with_reply (s.devs d) (record { tag = w.tag; maker = Maker.Hart h; answer = w.answer } ∷ ws)) few refl
    by_maker (Maker.Line c) = few_dev most s.devs d (with_reply (s.devs d) (record { tag = w.tag; maker = Maker.Line c; answer = w.answer } ∷ ws)) few refl

few_landed : (most : ℕ) (s : State) (d : ℕ) (ws : List Due) → AreFew most s.devs → AreFew most (landed s d ws).devs
few_landed most s d [] few = few
few_landed most s d (w ∷ ws) few = by_maker w.maker
  where
    by_maker : (maker : Maker) → AreFew most (landed s d (record { tag = w.tag; maker = maker; answer = w.answer } ∷ ws)).devs
    by_maker (Maker.Hart h) = few_dev most s.devs d (record (s.devs d) { replied = ws }) few refl
    by_maker (Maker.Line c) = few_dev most s.devs d (record (s.devs d) { replied = ws }) few refl

-- harts made at most as many events as the machine may make, and fewer while the run goes on; and each device has at most as
-- many items as they made events
pub record IsBounded (setup : Setup) (s : State) : Type 0 where
  pub items : AreFew s.events s.devs
  pub events : s.events ≤ setup.steps
  pub below : s.mode ≡ mode.Running → s.events < setup.steps

-- a run that goes on after an event was not at its limit
limit_by : (b : Bool) (found : Option Why) → mode_by (end_at b found) ≡ mode.Running → b ≡ false
limit_by b (Some cause) is = absurd (ending is)
  where
    ending : mode.Ending cause ≡ mode.Running → ⊥
    ending e = cc
limit_by true None is = absurd (ending is)
  where
    ending : mode.Ending why.Steps ≡ mode.Running → ⊥
    ending e = cc
limit_by false None is = refl

running_after : (m : Mode) (d : ℕ) (h : Heard) → mode_after m d h ≡ mode.Running → m ≡ mode.Running
running_after (mode.Ending cause) d h is = is
running_after mode.Running d h is = refl

bounded_beside : (setup : Setup) (s t : State) → AreFew s.events t.devs → t.mode ≡ s.mode → t.events ≡ s.events → IsBounded setup s → IsBounded setup t
bounded_beside setup s t few mode_is events_are b = record {
  items = rw events_are few;
  events = rw events_are b.events;
  below = λ is. rw events_are (b.below (sym mode_is ∙ is));
}

bounded_event : (setup : Setup) (s : State) (h : ℕ) → s.mode ≡ mode.Running → IsBounded setup s → IsBounded setup (done setup s (made (entry.Hart h)))
bounded_event setup s h running b =
    let t : State = after_event setup s h in
    let r = beside_issued h (event_of s h).2.shown t in
    let below : s.events < setup.steps = b.below running in
    record {
      items = λ j. rw r.events_are (few_issued s.events h (event_of s h).2.shown t b.items j);
      events = rw r.events_are (omega arith);
      below = λ is. rw r.events_are (not_last (limit_by (s.events + 1 == setup.steps) (end_shown (event_of s h).2.shown) (sym r.mode_is ∙ is)) below);
    }
  where
    not_last : (s.events + 1 == setup.steps) ≡ false → s.events < setup.steps → s.events + 1 < setup.steps
    not_last e lt = elim (eqb_tells (s.events + 1) setup.steps) [
      | inl same ↦ absurd (let r : true ≡ false = sym same.0 ∙ e in cc)
      | inr other ↦ omega (arith, other.1)
    ]

pub bounded_done : (setup : Setup) (s : State) (move : Move) → Can setup s move → IsBounded setup s → IsBounded setup (done setup s move)
bounded_done setup s (made (entry.Hart h)) can b = bounded_event setup s h can.running b
bounded_done setup s (made (entry.Take d)) can b =
    let x = some_at (s.devs d).made (s.devs d).acted can.2.more in
    let a : Acted = act_on (s.devs d) x.0 in
    let r = beside_took s d (Some x.0) in
    rw x.1 (bounded_beside setup s _
    (rw (devs_of_reached s (due_for (s.devs d).acted x.0.maker (answers_of x.0.item a))) (few_dev s.events s.devs d (with_act (s.devs d) x.0 a) b.items refl))
    r.mode_is r.events_are b)
bounded_done setup s (made (entry.Send d)) can b = bounded_beside setup s _ (few_dev s.events s.devs d (with_phase (s.devs d) Phase.Sent) b.items refl) refl refl b
bounded_done setup s (made (entry.ServeMem d)) can b =
    bounded_beside setup s _ (few_served s.events setup s d (next_of (s.devs d)) b.items) (mode_served setup s d (next_of (s.devs d))) (events_served setup s d (next_of (s.devs d))) b
bounded_done setup s (made (entry.ServeIrq d)) can b =
    bounded_beside setup s _ (few_served s.events setup s d (next_of (s.devs d)) b.items) (mode_served setup s d (next_of (s.devs d))) (events_served setup s d (next_of (s.devs d))) b
bounded_done setup s (made (entry.Got d)) can b = bounded_beside setup s _ (few_dev s.events s.devs d (with_got (s.devs d)) b.items refl) refl refl b
bounded_done setup s (made (entry.Reply d)) can b =
    let r = beside_noted s d (s.devs d).due in
    bounded_beside setup s _ (few_reply s.events s d (s.devs d).due b.items) r.mode_is r.events_are b
bounded_done setup s (made (entry.Deliver d)) can b =
    let r = beside_landed s d (s.devs d).replied in
    bounded_beside setup s _ (few_landed s.events s d (s.devs d).replied b.items) r.mode_is r.events_are b
bounded_done setup s (made (entry.Intend d)) can b = bounded_beside setup s _ (few_dev s.events s.devs d (with_phase (s.devs d) Phase.Intended) b.items refl) refl refl b
bounded_done setup s (made (entry.Did d heard)) can b = record {
  items = few_dev s.events s.devs d (with_heard (s.devs d) heard) b.items refl;
  events = b.events;
  below = λ is. b.below (running_after s.mode d heard is);
}
bounded_done setup s (made (entry.Tick n)) can b = record { items = b.items; events = b.events; below = b.below }
bounded_done setup s (ended cause) can b = record { items = b.items; events = b.events; below = λ is. absurd (ending is) }
  where
    ending : mode.Ending cause ≡ mode.Running → ⊥
    ending e = cc
