-- A hart waits for a value only where its load is ahead of what the device acted on: the value reaches it as soon as the device acts.
use Rattle.std.proofs.Common.{◌≡◌, ◌≢◌, ℕ, ◌+◌, ◌<◌, ◌≤◌, ◌⊎◌, inl, inr, true, false, List, [], ◌∷◌, length, Option, Some, None, refl, sym, subst, arith}
use Rattle.std.specs.List.{slice_get}
use Rattle.std.proofs.lemmas.Bool.Decides.{eqb_tells}
use Rattle.tv_base.specs.declared.Access.TheVariants as access
use Rattle.tv_hart.specs.declared.Did.TheVariants as did
use Rattle.tv_hart.specs.Hart.{Outcome, finished}
use Rattle.tv_hart.specs.HartState.{HartState}
use Rattle.tv_items.specs.declared.item.Item.{Item}
use Rattle.tv_items.specs.declared.item.Item.TheVariants as item
use Rattle.tv_journal.specs.declared.Entry.TheVariants as entry
use Rattle.tv_machine.specs.declared.machine.Machine.{Machine}
use Rattle.tv_plan.specs.Devices.{DeviceState, Acted}
use Rattle.tv_script.specs.Services.{Next, Asks, Rests, Loses}
use Rattle.tv_spec.specs.declared.Due.{Due}
use Rattle.tv_spec.specs.declared.Made.{Made}
use Rattle.tv_spec.specs.declared.Maker.{Maker}
use Rattle.tv_spec.specs.declared.Pending.{Pending}
use Rattle.tv_spec.specs.declared.Phase.{Phase}
use Rattle.tv_spec.specs.declared.Shown.{Shown}
use Rattle.tv_spec.specs.declared.Shown.TheVariants as shown
use Rattle.tv_spec.specs.Devices.{act_on, next_of, with_act, with_got, with_heard, with_item, with_phase, with_reply}
use Rattle.tv_spec.specs.Direct.{direct}
use Rattle.tv_spec.specs.Local.{local_meaning}
use Rattle.tv_spec.specs.LocalState.{lines_of}
use Rattle.tv_spec.specs.Reach.{Reach, all_open}
use Rattle.tv_spec.specs.Setup.{Setup}
use Rattle.tv_spec.specs.Sound.{IsLoad, IsLoadOf, Sound, load_at}
use Rattle.tv_spec.specs.State.{DeviceRun, State, device_in, first_state}
use Rattle.tv_spec.specs.Step.{Move, made, ended, Can, done, after_event, event_of, issued, landed, noted, put_dev, served, took_as}
use Rattle.tv_spec.specs.Update.{update}
use Rattle.tv_spec.proofs.HeldShown.{HeldShows, IsLoadShown, stepped_shows}
use Rattle.tv_spec.proofs.Updates.{some_at, update_elim, update_other, update_same}
use Rattle.tv_spec.proofs.Waits.{WaitsSo, finished_waits, stepped_waits}

-- 1. What is said

abbrev pub IsAhead : (ℕ → DeviceRun) → Option Pending → Type 0
IsAhead devs None = ⊥
IsAhead devs (Some p) = (devs p.dev).acted ≤ p.tag

abbrev pub AreAhead : (ℕ → HartState) → (ℕ → Option Pending) → (ℕ → DeviceRun) → Type 0
AreAhead harts pending devs = (h : ℕ) → ((harts h).waits ≡ None) ⊎ IsAhead devs (pending h)

-- so a hart without a load that was not delivered waits for nothing
ready_by : (harts : ℕ → HartState) (devs : ℕ → DeviceRun) (h : ℕ) (load : Option Pending) → ((harts h).waits ≡ None) ⊎ IsAhead devs load → load ≡ None
    → (harts h).waits ≡ None
ready_by harts devs h load (inl e) none = e
ready_by harts devs h load (inr e) none = absurd (rw none at e)

pub ahead_ready : (harts : ℕ → HartState) (pending : ℕ → Option Pending) (devs : ℕ → DeviceRun) (h : ℕ) → AreAhead harts pending devs → pending h ≡ None
    → (harts h).waits ≡ None
ahead_ready harts pending devs h A none = ready_by harts devs h (pending h) (A h) none

-- and so does one whose load was acted on
acted_by : (harts : ℕ → HartState) (devs : ℕ → DeviceRun) (h : ℕ) (load : Option Pending) (p : Pending) → ((harts h).waits ≡ None) ⊎ IsAhead devs load
    → load ≡ Some p → p.tag < (devs p.dev).acted → (harts h).waits ≡ None
acted_by harts devs h load p (inl e) is below = e
acted_by harts devs h load p (inr e) is below = absurd (let r : IsAhead devs (Some p) = rw is at e in omega (arith, r, below))

pub ahead_acted : (harts : ℕ → HartState) (pending : ℕ → Option Pending) (devs : ℕ → DeviceRun) (h : ℕ) (p : Pending) → AreAhead harts pending devs
    → pending h ≡ Some p → p.tag < (devs p.dev).acted → (harts h).waits ≡ None
ahead_acted harts pending devs h p A is below = acted_by harts devs h (pending h) p (A h) is below

-- 2. Changes of a device, and of a hart

still : (devs : ℕ → DeviceRun) (d : ℕ) (v : DeviceRun) (load : Option Pending) → v.acted ≡ (devs d).acted → IsAhead devs load → IsAhead (update devs d v) load
still devs d v None same e = e
still devs d v (Some p) same e =
    update_elim devs d v p.dev (λ w. w.acted ≤ p.tag) (λ q. rw (same, ← q) e) (λ _. e)

ahead_dev : (harts : ℕ → HartState) (pending : ℕ → Option Pending) (devs : ℕ → DeviceRun) (d : ℕ) (v : DeviceRun) → v.acted ≡ (devs d).acted
    → AreAhead harts pending devs → AreAhead harts pending (update devs d v)
ahead_dev harts pending devs d v same A h = elim (A h) [
  | inl e ↦ inl e
  | inr e ↦ inr (still devs d v (pending h) same e)
]

-- a hart that waits for nothing now
ahead_hart : (harts : ℕ → HartState) (pending : ℕ → Option Pending) (devs : ℕ → DeviceRun) (h : ℕ) (later : HartState) → later.waits ≡ None
    → AreAhead harts pending devs → AreAhead (update harts h later) pending devs
ahead_hart harts pending devs h later none A j =
    update_elim harts h later j (λ x. (x.waits ≡ None) ⊎ IsAhead devs (pending j)) (λ _. inl none) (λ _. A j)

-- what is known of another load of a hart that waits for nothing
ahead_load : (harts : ℕ → HartState) (pending : ℕ → Option Pending) (devs : ℕ → DeviceRun) (h : ℕ) (load : Option Pending) → ((harts h).waits ≡ None) ⊎ IsAhead devs load
    → AreAhead harts pending devs → AreAhead harts (update pending h load) devs
ahead_load harts pending devs h load new A j =
    update_elim pending h load j (λ x. ((harts j).waits ≡ None) ⊎ IsAhead devs x)
    (λ q. subst (λ (m : ℕ). ((harts m).waits ≡ None) ⊎ IsAhead devs load) (sym q) new) (λ _. A j)

-- 3. Events

-- an event that shows no load leaves no hart that waits
not_held : (o : Outcome Reach) → HeldShows o → WaitsSo o → (IsLoadShown o.2.shown → ⊥) → o.1.waits ≡ None
not_held (did.Held, hart, p) shows waits quiet = absurd (quiet shows)
not_held (did.Retired, hart, p) shows waits quiet = waits
not_held (did.Trapped cause, hart, p) shows waits quiet = waits
not_held (did.Full, hart, p) shows waits quiet = waits

ahead_issued : (s : State) (h : ℕ) (later : HartState) (seen : Shown) → ((d : ℕ) → (s.devs d).acted ≤ length (s.devs d).made)
    → ((IsLoadShown seen → ⊥) → later.waits ≡ None) → AreAhead s.harts s.pending s.devs
    → let t : State = issued h seen (record s { harts = update s.harts h later }) in AreAhead t.harts t.pending t.devs
ahead_issued s h later shown.Nothing within quiet A = ahead_hart s.harts s.pending s.devs h later (quiet (λ l. l)) A
ahead_issued s h later (shown.Byte byte) within quiet A = ahead_hart s.harts s.pending s.devs h later (quiet (λ l. l)) A
ahead_issued s h later (shown.Finish finish) within quiet A = ahead_hart s.harts s.pending s.devs h later (quiet (λ l. l)) A
ahead_issued s h later (shown.Access d (access.Store width off value)) within quiet A =
    let none : later.waits ≡ None = quiet (λ l. l) in
    let v : DeviceRun = with_item (s.devs d) (record { item = item.Store width off value; maker = Maker.Hart h }) in
    let here : (update s.harts h later h).waits ≡ None = rw (update_same s.harts h later) none in
    ahead_load (update s.harts h later) s.pending (update s.devs d v) h None (inl here)
    (ahead_dev (update s.harts h later) s.pending s.devs d v refl (ahead_hart s.harts s.pending s.devs h later none A))
ahead_issued s h later (shown.Access d (access.Load width off)) within quiet A = λ j. elim (eqb_tells j h) [
  | inl e ↦ rw e.0 (inr (rw (update_same s.devs d v) (within d)))
  | inr e ↦ rw e.0 (ahead_dev s.harts s.pending s.devs d v refl A j)
]
  where
    v : DeviceRun
    v = with_item (s.devs d) (record { item = item.Load width off; maker = Maker.Hart h })

ahead_event : (setup : Setup) (s : State) (h : ℕ) → Sound setup s → s.pending h ≡ None → AreAhead s.harts s.pending s.devs
    → let t : State = done setup s (made (entry.Hart h)) in AreAhead t.harts t.pending t.devs
ahead_event setup s h S ready A =
    let p : Reach = record { local = s.local; closed = all_open; shown = shown.Nothing } in
    let none : (s.harts h).waits ≡ None = ahead_ready s.harts s.pending s.devs h A ready in
    let shows : HeldShows (event_of s h) = stepped_shows (s.harts h) p (lines_of s.local h) (λ l. l) in
    let waits : WaitsSo (event_of s h) = stepped_waits local_meaning (s.harts h) p (lines_of s.local h) none in
    by_shown (event_of s h).2.shown (not_held (event_of s h) shows waits)
  where
    by_shown : (seen : Shown) → ((IsLoadShown seen → ⊥) → (event_of s h).1.waits ≡ None)
        → let t : State = issued h seen (after_event setup s h) in AreAhead t.harts t.pending t.devs
    by_shown shown.Nothing quiet = ahead_issued s h (event_of s h).1 shown.Nothing S.within quiet A
    by_shown (shown.Byte byte) quiet = ahead_issued s h (event_of s h).1 (shown.Byte byte) S.within quiet A
    by_shown (shown.Finish finish) quiet = ahead_issued s h (event_of s h).1 (shown.Finish finish) S.within quiet A
    by_shown (shown.Access d how) quiet = ahead_issued s h (event_of s h).1 (shown.Access d how) S.within quiet A

-- 4. A device acts

-- a load of this device is the one on which it acts, or still ahead
on_act : (devs : ℕ → DeviceRun) (d : ℕ) (v : DeviceRun) (p : Pending) → v.acted ≡ (devs d).acted + 1 → (devs p.dev).acted ≤ p.tag
    → ((p.dev ≡ d) × (p.tag ≡ (devs d).acted)) ⊎ IsAhead (update devs d v) (Some p)
on_act devs d v p more le = elim (eqb_tells p.dev d) [
  | inl e ↦ elim (eqb_tells p.tag (devs d).acted) [
    | inl t ↦ inl (e.1, t.1)
    | inr t ↦ inr (rw (e.1, update_same devs d v, more) (let r : (devs d).acted ≤ p.tag = rw e.1 at le in omega (arith, r, t.1)))
  ]
  | inr e ↦ inr (rw (update_other devs d v p.dev e.1) le)
]

-- the harts after the value of a load reached its hart, if there is one
abbrev pub reached_harts : (ℕ → HartState) → Maker → Item → ℕ → ℕ → HartState
reached_harts harts (Maker.Hart k) (item.Load width off) value = update harts k (finished (harts k) value)
reached_harts harts maker i value = harts

ahead_took : (setup : Setup) (s : State) (d : ℕ) (m : Made) (a : Acted) → slice_get (s.devs d).made (s.devs d).acted ≡ Some m → Sound setup s
    → AreAhead s.harts s.pending s.devs → let t : State = took_as s d m a in AreAhead t.harts t.pending t.devs
ahead_took setup s d m a at S A = by_item m.item m.maker at
  where
    other : (i : Item) (maker : Maker) → slice_get (s.devs d).made (s.devs d).acted ≡ Some (record { item = i; maker = maker })
        → ((k : ℕ) → maker ≡ Maker.Hart k → IsLoad i → ⊥)
        → AreAhead s.harts s.pending (update s.devs d (with_act (s.devs d) (record { item = i; maker = maker }) a))
    other i maker is none h = elim (A h) [
      | inl e ↦ inl e
      | inr e ↦ by_load (s.pending h) refl e
    ]
      where
        v : DeviceRun
        v = with_act (s.devs d) (record { item = i; maker = maker }) a

        by_load : (load : Option Pending) → s.pending h ≡ load → IsAhead s.devs load → ((s.harts h).waits ≡ None) ⊎ IsAhead (update s.devs d v) load
        by_load None e ahead = absurd ahead
        by_load (Some p) e ahead = elim (on_act s.devs d v p refl ahead) [
          | inl own ↦ absurd (let l : IsLoadOf h (slice_get (s.devs p.dev).made p.tag) = S.owner h p e in
              let r : IsLoadOf h (Some (record { item = i; maker = maker })) = rw (own.0, own.1, is) at l in none h r.0 r.1)
          | inr still_ ↦ inr still_
        ]

    load : (width : _) (off k : ℕ) → slice_get (s.devs d).made (s.devs d).acted ≡ Some (record { item = item.Load width off; maker = Maker.Hart k })
        → AreAhead (update s.harts k (finished (s.harts k) a.value)) s.pending (update s.devs d (with_act (s.devs d) (record { item = item.Load width off; maker = Maker.Hart k }) a))
    load width off k is h =
        update_elim s.harts k (finished (s.harts k) a.value) h (λ x. (x.waits ≡ None) ⊎ IsAhead (update s.devs d v) (s.pending h))
        (λ _. inl (finished_waits (s.harts k) a.value))
        (λ ne. elim (A h) [
          | inl e ↦ inl e
          | inr e ↦ by_load ne (s.pending h) refl e
        ])
      where
        v : DeviceRun
        v = with_act (s.devs d) (record { item = item.Load width off; maker = Maker.Hart k }) a

        by_load : h ≢ k → (load : Option Pending) → s.pending h ≡ load → IsAhead s.devs load → ((s.harts h).waits ≡ None) ⊎ IsAhead (update s.devs d v) load
        by_load ne None e ahead = absurd ahead
        by_load ne (Some p) e ahead = elim (on_act s.devs d v p refl ahead) [
          | inl own ↦ absurd (let l : IsLoadOf h (slice_get (s.devs p.dev).made p.tag) = S.owner h p e in
              let r : IsLoadOf h (Some (record { item = item.Load width off; maker = Maker.Hart k })) = rw (own.0, own.1, is) at l in
              let same : h ≡ k = cc in ne same)
          | inr still_ ↦ inr still_
        ]

    by_item : (i : Item) (maker : Maker) → slice_get (s.devs d).made (s.devs d).acted ≡ Some (record { item = i; maker = maker })
        → let t : State = took_as s d (record { item = i; maker = maker }) a in AreAhead t.harts t.pending t.devs
    by_item (item.Load width off) (Maker.Hart k) is = load width off k is
    by_item (item.Load width off) (Maker.Line c) is = other (item.Load width off) (Maker.Line c) is (λ k e l. cc)
    by_item (item.Store width off value) maker is = other (item.Store width off value) maker is (λ k e l. l)
    by_item (item.Target pages) maker is = other (item.Target pages) maker is (λ k e l. l)
    by_item item.Stats maker is = other item.Stats maker is (λ k e l. l)
    by_item (item.Resize sectors) maker is = other (item.Resize sectors) maker is (λ k e l. l)

-- 5. Other moves of devices

ahead_served : (setup : Setup) (s : State) (d : ℕ) (n : Next DeviceState) → AreAhead s.harts s.pending s.devs
    → let t : State = served setup s d n in AreAhead t.harts t.pending t.devs
ahead_served setup s d (Rests state) A = A
ahead_served setup s d (Loses state) A = A
ahead_served setup s d (Asks action) A =
    ahead_dev s.harts s.pending s.devs d (with_phase (s.devs d) (Phase.Served (direct (device_in setup.devices d) d s.local s.withdrawn action).heard)) refl A

ahead_reply : (setup : Setup) (s : State) (d : ℕ) (ws : List Due) → (s.devs d).due ≡ ws → Sound setup s → AreAhead s.harts s.pending s.devs
    → let t : State = put_dev (noted s d ws) d (with_reply (s.devs d) ws) in AreAhead t.harts t.pending t.devs
ahead_reply setup s d [] is S A = ahead_dev s.harts s.pending s.devs d (s.devs d) refl A
ahead_reply setup s d (w ∷ ws) is S A = by_maker w.maker is
  where
    by_maker : (maker : Maker) → (s.devs d).due ≡ record { tag = w.tag; maker = maker; answer = w.answer } ∷ ws
        → let t : State = put_dev (noted s d (record { tag = w.tag; maker = maker; answer = w.answer } ∷ ws)) d (with_reply (s.devs d) (record { tag = w.tag; maker = maker; answer = w.answer } ∷ ws)) in AreAhead t.harts t.pending t.devs
    by_maker (Maker.Line c) e =
        ahead_dev s.harts s.pending s.devs d (with_reply (s.devs d) (record { tag = w.tag; maker = Maker.Line c; answer = w.answer } ∷ ws)) refl A
    by_maker (Maker.Hart h) e =
        let due : Due = record { tag = w.tag; maker = Maker.Hart h; answer = w.answer } in
        let l = rw e at (S.due d) in
        let none : (s.harts h).waits ≡ None = ahead_acted s.harts s.pending s.devs h (load_at d w.tag false) A l.1 l.0 in
        ahead_dev s.harts (update s.pending h (Some (load_at d w.tag true))) s.devs d (with_reply (s.devs d) (due ∷ ws)) refl
        (ahead_load s.harts s.pending s.devs h (Some (load_at d w.tag true)) (inl none) A)

ahead_landed : (setup : Setup) (s : State) (d : ℕ) (ws : List Due) → (s.devs d).replied ≡ ws → Sound setup s → AreAhead s.harts s.pending s.devs
    → let t : State = landed s d ws in AreAhead t.harts t.pending t.devs
ahead_landed setup s d [] is S A = A
ahead_landed setup s d (w ∷ ws) is S A = by_maker w.maker is
  where
    by_maker : (maker : Maker) → (s.devs d).replied ≡ record { tag = w.tag; maker = maker; answer = w.answer } ∷ ws
        → let t : State = landed s d (record { tag = w.tag; maker = maker; answer = w.answer } ∷ ws) in AreAhead t.harts t.pending t.devs
    by_maker (Maker.Line c) e = ahead_dev s.harts s.pending s.devs d (record (s.devs d) { replied = ws }) refl A
    by_maker (Maker.Hart h) e =
        let l = rw e at (S.replied d) in
        let none : (s.harts h).waits ≡ None = ahead_acted s.harts s.pending s.devs h (load_at d w.tag true) A l.1 l.0 in
        ahead_dev s.harts (update s.pending h None) s.devs d (record (s.devs d) { replied = ws }) refl
        (ahead_load s.harts s.pending s.devs h None (inl none) A)

-- 6. All moves

pub ahead_done : (setup : Setup) (s : State) (move : Move) → Can setup s move → Sound setup s → AreAhead s.harts s.pending s.devs
    → let t : State = done setup s move in AreAhead t.harts t.pending t.devs
ahead_done setup s (made (entry.Hart h)) can S A = ahead_event setup s h S can.ready A
ahead_done setup s (made (entry.Take d)) can S A =
    let x = some_at (s.devs d).made (s.devs d).acted can.2.more in
    rw x.1 (ahead_took setup s d x.0 (act_on (s.devs d) x.0) x.1 S A)
ahead_done setup s (made (entry.Send d)) can S A = ahead_dev s.harts s.pending s.devs d (with_phase (s.devs d) Phase.Sent) refl A
ahead_done setup s (made (entry.ServeMem d)) can S A = ahead_served setup s d (next_of (s.devs d)) A
ahead_done setup s (made (entry.ServeIrq d)) can S A = ahead_served setup s d (next_of (s.devs d)) A
ahead_done setup s (made (entry.Got d)) can S A = ahead_dev s.harts s.pending s.devs d (with_got (s.devs d)) refl A
ahead_done setup s (made (entry.Reply d)) can S A = ahead_reply setup s d (s.devs d).due refl S A
ahead_done setup s (made (entry.Deliver d)) can S A = ahead_landed setup s d (s.devs d).replied refl S A
ahead_done setup s (made (entry.Intend d)) can S A = ahead_dev s.harts s.pending s.devs d (with_phase (s.devs d) Phase.Intended) refl A
ahead_done setup s (made (entry.Did d heard)) can S A = ahead_dev s.harts s.pending s.devs d (with_heard (s.devs d) heard) refl A
ahead_done setup s (made (entry.Tick n)) can S A = A
ahead_done setup s (ended cause) can S A = A

pub ahead_first : (machine : Machine) (image : List ℕ) → let s : State = first_state machine image in AreAhead s.harts s.pending s.devs
ahead_first machine image h = inl refl
