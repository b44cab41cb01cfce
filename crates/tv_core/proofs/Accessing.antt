-- What a core stands for where a burst showed an access to a device.
use Rattle.std.proofs.Common.{◌≡◌, ◌≢◌, ℕ, ◌+◌, ◌<◌, ◌≤◌, ◌++◌, inl, inr, List, length, length-set, drop, get_or, set, Bool, true, false, Option, Some, None, refl, ap, sym, ◌∙◌, subst, arith}
use Rattle.std.specs.Option.{is_some}
use Rattle.std.specs.Prelude.{IsSome}
use Rattle.std.proofs.lemmas.Bool.Decides.{eqb_tells}
use Rattle.std.proofs.lemmas.List.{get_or-set_other, get_or-set_same, length-drop}
use Rattle.tv_base.specs.declared.Access.TheVariants as access
use Rattle.tv_base.specs.declared.Width.{Width}
use Rattle.tv_base.specs.declared.limits.TheConstants.{HARTS}
use Rattle.tv_guest.specs.GuestState.{GuestState}
use Rattle.tv_hart.specs.HartState.{HartState}
use Rattle.tv_proxy.specs.Messages.{item_of as item_by}
use Rattle.tv_side.specs.Sides.{SideState, with_access}
use Rattle.tv_spec.specs.declared.Maker.{Maker}
use Rattle.tv_spec.specs.declared.Mode.{Mode}
use Rattle.tv_spec.specs.declared.Pending.{Pending}
use Rattle.tv_spec.specs.declared.Shown.{Shown}
use Rattle.tv_spec.specs.declared.Shown.TheVariants as shown
use Rattle.tv_spec.specs.Devices.{item_of, with_item}
use Rattle.tv_spec.specs.Room.{owed}
use Rattle.tv_spec.specs.Sound.{IsSound, load_at}
use Rattle.tv_spec.specs.State.{DeviceRun, State}
use Rattle.tv_spec.specs.Step.{IsOpen, issued}
use Rattle.tv_spec.specs.Update.{update}
use Rattle.tv_spec.proofs.Memory.{IsToDevice}
use Rattle.tv_spec.proofs.Updates.{both_kept, update_elim, update_same}
use Rattle.tv_core.specs.Bursts.{IssuesSo, waits_by}
use Rattle.tv_core.specs.Stands.{AwaitsAt, HartStands, Stands, StandsFor, tag_at}
use Rattle.tv_core.proofs.Behind.{side_mode, stands_quiet}
use Rattle.tv_core.proofs.Gates.{IsShownInPlace}
use Rattle.tv_core.proofs.Halting.{owed_by, owed_shown}
use Rattle.tv_core.proofs.Issuing.{side_issued}
use Rattle.tv_core.proofs.Keeping.{awaits_same, hart_kept, same_place}
use Rattle.tv_core.proofs.Replying.{tag_mine, tag_others}

-- 1. Any access

-- after events of a hart that is so now, the last of which made an item at a device
abbrev pub with_issued : State → GuestState → ℕ → ℕ → HartState → Bool → Option Pending → DeviceRun → State
with_issued s next hart d later ticked load v = record s {
  harts = update s.harts hart later;
  pending = update s.pending hart load;
  devs = update s.devs d v;
  local = next.local;
  mode = next.mode;
  events = next.events;
  ticked = ticked;
}

-- the hart stands for that state, and so do the side of the device and the flags
pub record IsIssued (tube hart d : ℕ) (now : Mode) (later : HartState) (load : Option Pending) (s : State) (v : DeviceRun) (side : SideState) (flags : List Bool) : Type 0 where
  pub hart_stands : HartStands later later load (update s.devs d v)
  pub acted : v.acted ≡ (s.devs d).acted
  pub answers : v.replied ++ v.due ≡ (s.devs d).replied ++ (s.devs d).due
  pub stands : StandsFor tube now v side
  pub waits : (h : ℕ) → h < HARTS → get_or side.proxy.harts h None ≡ tag_at d (update s.pending hart load h)
  pub others : (j : ℕ) → j ≢ d → tag_at j load ≡ None
  pub flags_are : length flags ≡ HARTS
  pub flag : (h : ℕ) → h < HARTS → get_or flags h false ≡ is_some (update s.pending hart load h)

issued_stands : (tube : ℕ) (guest next : GuestState) (withdrawn : List Bool) (sides : List SideState) (waits flags : List Bool) (reserved now : ℕ) (s : State)
    (hart d : ℕ) (later : HartState) (ticked : Bool) (load : Option Pending) (v : DeviceRun) (side : SideState)
    → Stands tube guest withdrawn sides waits reserved s → IsOpen s.mode → hart < length guest.harts → s.pending hart ≡ None → d < length sides
    → next.harts ≡ set guest.harts hart later → IsIssued tube hart d next.mode later load s v side flags → now ≡ owed (with_issued s next hart d later ticked load v)
    → Stands tube next withdrawn (set sides d side) flags now (with_issued s next hart d later ticked load v)
issued_stands tube guest next withdrawn sides waits flags reserved now s hart d later ticked load v side T is_open exists free within harts_are I room = record {
  local_is = refl;
  withdrawn_is = T.withdrawn_is;
  mode_is = refl;
  events_are = refl;
  each_hart = λ h any lt.
      let inside : h < length guest.harts = (let q = rw harts_are at lt in rw length-set at q) in
      rw harts_are (elim (eqb_tells h hart) [
        | inl e ↦ rw (e.0, e.1, get_or-set_same guest.harts hart later any exists) I.hart_stands
        | inr e ↦ rw (e.0, get_or-set_other guest.harts hart h later any e.1)
            (hart_kept (get_or guest.harts h any) (s.harts h) (s.pending h) (s.pending h) s.devs (update s.devs d v) (same_place (s.pending h))
            (λ q is w. update_elim s.devs d v q.dev (λ x. AwaitsAt (get_or guest.harts h any) (s.harts h) q.tag x)
            (λ r. awaits_same (get_or guest.harts h any) (s.harts h) q.tag (s.devs d) v I.acted I.answers
            (subst (λ (k : ℕ). AwaitsAt (get_or guest.harts h any) (s.harts h) q.tag (s.devs k)) r w))
            (λ _. w))
            (T.each_hart h any inside))
      ]);
  each_side = λ j any lt. both_kept (λ (i : ℕ) (x : DeviceRun) (y : SideState). StandsFor tube next.mode x y) s.devs sides d v side (length sides) refl I.stands
      (λ i any2 lt2 ne. side_mode tube s.mode next.mode (s.devs i) (get_or sides i any2) is_open (T.each_side i any2 lt2)) j any (let r : j < length sides = rw length-set at lt in r);
  each_wait = λ j any h lt hn.
      let inside : j < length sides = (let r : j < length sides = rw length-set at lt in r) in
      both_kept (λ (i : ℕ) (_ : ℕ) (x : SideState). get_or x.proxy.harts h None ≡ tag_at i (update s.pending hart load h)) (λ i. i) sides d d side (length sides) refl
      (I.waits h hn)
      (λ i any2 lt2 ne. update_elim s.pending hart load h (λ o. get_or (get_or sides i any2).proxy.harts h None ≡ tag_at i o)
      (λ e. T.each_wait i any2 h lt2 hn ∙ rw (e, free) (sym (I.others i ne)))
      (λ _. T.each_wait i any2 h lt2 hn))
      j any inside;
  flags = I.flags_are;
  each_flag = I.flag;
  reserved_is = room;
}

-- 2. A load, for which the hart waits, and a store

items_left : (v : DeviceRun) → v.acted ≤ length v.made → length (drop v.acted v.made) + v.acted ≡ length v.made
items_left v within = let r = length-drop v.acted v.made in omega (arith, r, within)

load_issued : (tube : ℕ) (guest : GuestState) (withdrawn : List Bool) (sides : List SideState) (waits : List Bool) (reserved n : ℕ) (s : State) (hart d : ℕ) (now : Mode)
    (later : HartState) (width : Width) (off : ℕ) (none : SideState)
    → Stands tube guest withdrawn sides waits reserved s → IsSound n s.pending s.devs → IsOpen s.mode → hart < HARTS → d < length sides
    → item_by (access.Load width off) ≡ item_of (access.Load width off) → IsSome later.waits
    → IsIssued tube hart d now later (Some (load_at d (length (s.devs d).made) false)) s
    (with_item (s.devs d) (record { item = item_of (access.Load width off); maker = Maker.Hart hart }))
    (with_access (get_or sides d none) hart (access.Load width off)) (set waits hart true)
load_issued tube guest withdrawn sides waits reserved n s hart d now later width off none T S is_open below within same held =
    let v : DeviceRun = with_item (s.devs d) (record { item = item_of (access.Load width off); maker = Maker.Hart hart }) in
    let tag : ℕ = length (s.devs d).made in
    let old : SideState = get_or sides d none in
    let R = T.each_side d none within in
    record {
      hart_stands = (held, subst (λ (x : DeviceRun). AwaitsAt later later tag x) (sym (update_same s.devs d v)) (inl (S.within d, refl)));
      acted = refl;
      answers = refl;
      stands = side_issued tube now (s.devs d) old hart (access.Load width off) same (side_mode tube s.mode now (s.devs d) old is_open R) (S.within d) (items_left (s.devs d) (S.within d));
      waits = λ h lt. update_elim s.pending hart (Some (load_at d tag false)) h (λ o. get_or (set old.proxy.harts hart (Some old.proxy.made)) h None ≡ tag_at d o)
          (λ e. rw (e, get_or-set_same old.proxy.harts hart (Some old.proxy.made) None (rw R.harts below)) (ap (λ (k : ℕ). Some k) R.made ∙ sym (tag_mine d tag false)))
          (λ ne. rw (get_or-set_other old.proxy.harts hart h (Some old.proxy.made) None ne) (T.each_wait d none h within lt));
      others = λ j ne. tag_others d j tag false ne;
      flags_are = rw length-set T.flags;
      flag = λ h lt. update_elim s.pending hart (Some (load_at d tag false)) h (λ o. get_or (set waits hart true) h false ≡ is_some o)
          (λ e. rw (e, get_or-set_same waits hart true false (rw T.flags below)) refl)
          (λ ne. rw (get_or-set_other waits hart h true false ne) (T.each_flag h lt));
    }

store_issued : (tube : ℕ) (guest : GuestState) (withdrawn : List Bool) (sides : List SideState) (waits : List Bool) (reserved n : ℕ) (s : State) (hart d : ℕ) (now : Mode)
    (later : HartState) (width : Width) (off value : ℕ) (none : SideState)
    → Stands tube guest withdrawn sides waits reserved s → IsSound n s.pending s.devs → IsOpen s.mode → s.pending hart ≡ None → d < length sides
    → item_by (access.Store width off value) ≡ item_of (access.Store width off value) → later.waits ≡ None
    → IsIssued tube hart d now later None s
    (with_item (s.devs d) (record { item = item_of (access.Store width off value); maker = Maker.Hart hart }))
    (with_access (get_or sides d none) hart (access.Store width off value)) waits
store_issued tube guest withdrawn sides waits reserved n s hart d now later width off value none T S is_open free within same ready =
    let old : SideState = get_or sides d none in
    record {
      hart_stands = (refl, ready);
      acted = refl;
      answers = refl;
      stands = side_issued tube now (s.devs d) old hart (access.Store width off value) same (side_mode tube s.mode now (s.devs d) old is_open (T.each_side d none within)) (S.within d)
          (items_left (s.devs d) (S.within d));
      waits = λ h lt. update_elim s.pending hart None h (λ o. get_or old.proxy.harts h None ≡ tag_at d o)
          (λ e. T.each_wait d none h within lt ∙ rw (e, free) refl)
          (λ _. T.each_wait d none h within lt);
      others = λ j ne. refl;
      flags_are = T.flags;
      flag = λ h lt. update_elim s.pending hart None h (λ o. get_or waits h false ≡ is_some o)
          (λ e. T.each_flag h lt ∙ rw (e, free) refl)
          (λ _. T.each_flag h lt);
    }

-- 3. Whatever was shown

-- a hart that issued a load waits, and no other does
abbrev pub WaitsFor : Shown → HartState → Type 0
WaitsFor (shown.Access d (access.Load width off)) later = IsSome later.waits
WaitsFor _ later = later.waits ≡ None

-- what a core stands for behind events, by what the last one showed
pub shown_stands : (tube n : ℕ) (guest next : GuestState) (withdrawn : List Bool) (sides sides2 : List SideState) (waits : List Bool) (reserved now : ℕ) (s : State)
    (hart : ℕ) (later : HartState) (ticked : Bool) (what : Shown) (none : SideState)
    → Stands tube guest withdrawn sides waits reserved s → IsSound n s.pending s.devs → IsOpen s.mode → hart < length guest.harts → hart < HARTS → s.pending hart ≡ None
    → next.harts ≡ set guest.harts hart later → IsShownInPlace what → IsToDevice (length sides) what → WaitsFor what later → IssuesSo hart what sides sides2 → now ≡ reserved + owed_by what
    → Stands tube next withdrawn sides2 (waits_by hart what waits) now
    (issued hart what (record s { harts = update s.harts hart later; local = next.local; mode = next.mode; events = next.events; ticked = ticked }))
shown_stands tube n guest next withdrawn sides sides2 waits reserved now s hart later ticked what none T S is_open exists below free harts_are place there waits_for issues room =
    by_shown what place there waits_for issues (room ∙ ap (λ (k : ℕ). k + owed_by what) T.reserved_is ∙ sym (owed_shown base hart what below free))
  where
    base : State
    base = record s { harts = update s.harts hart later; local = next.local; mode = next.mode; events = next.events; ticked = ticked }

    quiet : later.waits ≡ None → sides2 ≡ sides → now ≡ owed base → Stands tube next withdrawn sides2 waits now base
    quiet ready same is =
        let reserved_is : now ≡ reserved = is ∙ sym T.reserved_is in
        rw (same, reserved_is) (stands_quiet tube guest next withdrawn sides waits reserved s hart later ticked T is_open exists free ready harts_are)

    by_shown : (w : Shown) → IsShownInPlace w → IsToDevice (length sides) w → WaitsFor w later → IssuesSo hart w sides sides2 → now ≡ owed (issued hart w base)
        → Stands tube next withdrawn sides2 (waits_by hart w waits) now (issued hart w base)
    by_shown shown.Nothing in_place at_device ready new is = quiet ready new is
    by_shown (shown.Byte byte) in_place at_device ready new is = quiet ready new is
    by_shown (shown.Finish finish) in_place at_device ready new is = quiet ready new is
    by_shown (shown.Access d (access.Load width off)) in_place at_device held new is =
        let side : SideState = with_access (get_or sides d none) hart (access.Load width off) in
        let v : DeviceRun = with_item (s.devs d) (record { item = item_of (access.Load width off); maker = Maker.Hart hart }) in
        rw (new none) (
        issued_stands tube guest next withdrawn sides waits (set waits hart true) reserved now s hart d later ticked (Some (load_at d (length (s.devs d).made) false)) v side
        T is_open exists free at_device harts_are (load_issued tube guest withdrawn sides waits reserved n s hart d next.mode later width off none T S is_open below at_device in_place.1 held) is
        )
    by_shown (shown.Access d (access.Store width off value)) in_place at_device ready new is =
        let side : SideState = with_access (get_or sides d none) hart (access.Store width off value) in
        let v : DeviceRun = with_item (s.devs d) (record { item = item_of (access.Store width off value); maker = Maker.Hart hart }) in
        rw (new none) (
        issued_stands tube guest next withdrawn sides waits waits reserved now s hart d later ticked None v side
        T is_open exists free at_device harts_are (store_issued tube guest withdrawn sides waits reserved n s hart d next.mode later width off value none T S is_open free at_device in_place.1 ready) is
        )
