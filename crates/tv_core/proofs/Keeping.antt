-- What a move of one device keeps of all that a core stands for, where the device's side stands for it.
use Rattle.std.proofs.Common.{◌≡◌, ◌≢◌, ℕ, ◌<◌, inl, inr, Bool, List, ◌++◌, length, get_or, set, Option, Some, None, refl, sym, ◌∙◌, subst, length-set}
use Rattle.std.specs.Option.{is_some}
use Rattle.tv_base.specs.declared.limits.TheConstants.{HARTS}
use Rattle.tv_guest.specs.GuestState.{GuestState}
use Rattle.tv_hart.specs.HartState.{HartState}
use Rattle.tv_side.specs.Sides.{SideState}
use Rattle.tv_spec.specs.Room.{owed}
use Rattle.tv_spec.specs.declared.Pending.{Pending}
use Rattle.tv_spec.specs.State.{State, DeviceRun}
use Rattle.tv_spec.specs.Update.{update}
use Rattle.tv_spec.proofs.Updates.{update_elim, both_kept}
use Rattle.tv_core.specs.Stands.{StandsFor, AwaitsAt, HartStands, tag_at, Stands}

-- 1. Harts

-- a hart waits for the same load, or for none as before
abbrev pub SamePlace : Option Pending → Option Pending → Type 0
SamePlace None None = Unit {0}
SamePlace None (Some q) = ⊥
SamePlace (Some p) None = ⊥
SamePlace (Some p) (Some q) = (q.dev ≡ p.dev) × (q.tag ≡ p.tag)

pub same_place : (o : Option Pending) → SamePlace o o
same_place None = tt
same_place (Some p) = (refl, refl)

pub tag_same : (d : ℕ) (o o2 : Option Pending) → SamePlace o o2 → tag_at d o2 ≡ tag_at d o
tag_same d None None same = refl
tag_same d None (Some q) same = absurd same
tag_same d (Some p) None same = absurd same
tag_same d (Some p) (Some q) same = rw (same.0, same.1) refl

pub flag_same : (o o2 : Option Pending) → SamePlace o o2 → is_some o2 ≡ is_some o
flag_same None None same = refl
flag_same None (Some q) same = absurd same
flag_same (Some p) None same = absurd same
flag_same (Some p) (Some q) same = refl

pub hart_kept : (kept now : HartState) (o o2 : Option Pending) (f g : ℕ → DeviceRun) → SamePlace o o2
    → ((p : Pending) → o ≡ Some p → AwaitsAt kept now p.tag (f p.dev) → AwaitsAt kept now p.tag (g p.dev))
    → HartStands kept now o f → HartStands kept now o2 g
hart_kept kept now None None f g same k h = h
hart_kept kept now None (Some q) f g same k h = absurd same
hart_kept kept now (Some p) None f g same k h = absurd same
hart_kept kept now (Some p) (Some q) f g same k h = (h.0, rw (same.0, same.1) (k p refl h.1))

-- only the number of items that acted and the answers on their way matter to a hart
pub awaits_same : (kept now : HartState) (tag : ℕ) (v w : DeviceRun) → w.acted ≡ v.acted → w.replied ++ w.due ≡ v.replied ++ v.due
    → AwaitsAt kept now tag v → AwaitsAt kept now tag w
awaits_same kept now tag v w a l h =
    elim h [
      | inl e ↦ inl (rw a e.0, e.1)
      | inr e ↦ inr (e.0, record { acted = rw a e.1.acted; has = rw l e.1.has; finish = e.1.finish })
    ]

-- 2. Sides

pub waits_kept : (sides : List SideState) (d : ℕ) (p none : SideState) (pending : ℕ → Option Pending) (n : ℕ) → n ≡ length sides → d < n
    → p.proxy.harts ≡ (get_or sides d none).proxy.harts
    → ((j : ℕ) (any : SideState) (h : ℕ) → j < n → h < HARTS → get_or (get_or sides j any).proxy.harts h None ≡ tag_at j (pending h))
    → (j : ℕ) (any : SideState) (h : ℕ) → j < n → h < HARTS → get_or (get_or (set sides d p) j any).proxy.harts h None ≡ tag_at j (pending h)
waits_kept sides d p none pending n is within e old j any h jn hn =
    both_kept (λ (k : ℕ) (_ : ℕ) (x : SideState). get_or x.proxy.harts h None ≡ tag_at k (pending h)) (λ k. k) sides d d p n is
    (rw e (old d none h within hn))
    (λ k any2 lt _. old k any2 h lt hn)
    j any jn

-- 3. A move of a device that leaves its items, how many of them acted, and the answers on their way

pub record IsDeviceMove (later : GuestState) (guest : GuestState) (pages : List Bool) (s t : State) (d : ℕ) (v : DeviceRun) : Type 0 where
  pub guest_harts : later.harts ≡ guest.harts
  pub local_is : t.local ≡ later.local
  pub pages_are : t.withdrawn ≡ pages
  pub mode_is : t.mode ≡ later.mode
  pub events_are : t.events ≡ later.events
  pub harts_are : t.harts ≡ s.harts
  pub devices_are : t.devs ≡ update s.devs d v
  pub places : (h : ℕ) → SamePlace (s.pending h) (t.pending h)

pub stands_dev : (tube : ℕ) (guest later : GuestState) (withdrawn pages : List Bool) (sides : List SideState) (waits : List Bool) (reserved now : ℕ) (s t : State)
    (d : ℕ) (v : DeviceRun) (p none : SideState)
    → Stands tube guest withdrawn sides waits reserved s → d < length sides → IsDeviceMove later guest pages s t d v
    → v.acted ≡ (s.devs d).acted → v.replied ++ v.due ≡ (s.devs d).replied ++ (s.devs d).due
    → p.proxy.harts ≡ (get_or sides d none).proxy.harts
    → ((j : ℕ) (any : SideState) → j < length sides → j ≢ d → StandsFor tube t.mode (s.devs j) (get_or sides j any))
    → StandsFor tube t.mode v p → now ≡ owed t
    → Stands tube later pages (set sides d p) waits now t
stands_dev tube guest later withdrawn pages sides waits reserved now s t d v p none T within m a l e others new room =
    record {
      local_is = m.local_is;
      withdrawn_is = m.pages_are;
      mode_is = m.mode_is;
      events_are = m.events_are;
      each_hart = λ h any lt. rw (m.guest_harts, m.harts_are, m.devices_are)
          (hart_kept (get_or guest.harts h any) (s.harts h) (s.pending h) (t.pending h) s.devs (update s.devs d v) (m.places h)
          (λ q is w. update_elim s.devs d v q.dev (λ x. AwaitsAt (get_or guest.harts h any) (s.harts h) q.tag x)
          (λ r. awaits_same (get_or guest.harts h any) (s.harts h) q.tag (s.devs d) v a l
          (subst (λ (k : ℕ). AwaitsAt (get_or guest.harts h any) (s.harts h) q.tag (s.devs k)) r w))
          (λ _. w))
          (T.each_hart h any (let r : h < length guest.harts = rw m.guest_harts at lt in r)));
      each_side = λ j any lt. rw m.devices_are
          (both_kept (λ (k : ℕ) (x : DeviceRun) (y : SideState). StandsFor tube t.mode x y) s.devs sides d v p (length sides) refl new
          others j any (let r : j < length sides = rw length-set at lt in r));
      each_wait = λ j any h lt hn. waits_kept sides d p none s.pending (length sides) refl within e T.each_wait j any h (let r : j < length sides = rw length-set at lt in r) hn
          ∙ sym (tag_same j (s.pending h) (t.pending h) (m.places h));
      flags = T.flags;
      each_flag = λ h lt. T.each_flag h lt ∙ sym (flag_same (s.pending h) (t.pending h) (m.places h));
      reserved_is = room;
    }
