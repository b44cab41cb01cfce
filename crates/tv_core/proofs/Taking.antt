-- A device acts on its next item: what that does to the harts, and to the device's side.
use Rattle.std.proofs.Common.{◌≡◌, ◌≢◌, ℕ, ◌+◌, ◌<◌, inl, inr, Bool, List, [], ◌∷◌, ◌++◌, false, length, drop, get_or, set, Option, Some, None, refl, ap, sym, ◌∙◌, subst, arith, append_assoc, length-set}
use Rattle.std.specs.List.{slice_get}
use Rattle.tv_base.specs.declared.Width.{Width}
use Rattle.tv_guest.specs.GuestState.{GuestState}
use Rattle.tv_hart.specs.Hart.{finished}
use Rattle.tv_hart.specs.HartState.{HartState}
use Rattle.tv_items.specs.declared.item.Item.{Item}
use Rattle.tv_items.specs.declared.item.Item.TheVariants as item
use Rattle.tv_plan.specs.Devices.{Acted}
use Rattle.tv_side.specs.Sides.{SideState, with_first_item}
use Rattle.tv_spec.specs.declared.Mode.{Mode}
use Rattle.tv_spec.specs.Devices.{act_on, answers_of, due_for, with_act}
use Rattle.tv_spec.specs.Sound.{IsSound, IsLoadOf, load_at}
use Rattle.tv_spec.specs.declared.Made.{Made}
use Rattle.tv_spec.specs.declared.Maker.{Maker}
use Rattle.tv_spec.specs.declared.Answer.{Answer}
use Rattle.tv_spec.specs.declared.Due.{Due}
use Rattle.tv_spec.specs.declared.Pending.{Pending}
use Rattle.tv_spec.specs.declared.Phase.{Phase}
use Rattle.tv_spec.specs.State.{State, DeviceRun}
use Rattle.tv_spec.specs.Step.{reached, took_as}
use Rattle.tv_spec.specs.Update.{update}
use Rattle.tv_spec.proofs.Owed.{owed_took, pending_of_reached}
use Rattle.tv_spec.proofs.Rest.{beside_reached}
use Rattle.tv_spec.proofs.Serving.{devs_of_reached}
use Rattle.tv_spec.proofs.Updates.{both_kept, drop_at, update_elim, update_same}
use Rattle.tv_core.specs.Stands.{AreIdle, AwaitsAt, between_of, HartStands, HasValue, Stands, StandsFor, tagged_from}
use Rattle.tv_core.proofs.Keeping.{hart_kept, same_place, waits_kept}

-- 1. Harts

has_more : (tag value : ℕ) (ws more : List Due) → HasValue tag value ws → HasValue tag value (ws ++ more)
has_more tag value [] more h = absurd h
has_more tag value (w ∷ ws) more h = elim h [ inl e ↦ inl e | inr e ↦ inr (has_more tag value ws more e) ]

has_last : (tag value : ℕ) (ws : List Due) (w : Due) → w.tag ≡ tag → w.answer ≡ Answer.Value value → HasValue tag value (ws ++ w ∷ [])
has_last tag value [] w a b = inl (a, b)
has_last tag value (x ∷ ws) w a b = inr (has_last tag value ws w a b)

awaits_took : (kept now : HartState) (tag : ℕ) (v : DeviceRun) (m : Made) (a : Acted) → tag ≢ v.acted → AwaitsAt kept now tag v → AwaitsAt kept now tag (with_act v m a)
awaits_took kept now tag v m a ne h =
    elim h [
      | inl e ↦ inl (omega arith, e.1)
      | inr e ↦ inr (
        e.0,
        record {
          acted = let b : tag < v.acted = e.1.acted in omega arith;
          has = rw (← append_assoc) (has_more tag e.0 (v.replied ++ v.due) (due_for v.acted m.maker (answers_of m.item a)) e.1.has);
          finish = e.1.finish;
        },
      )
    ]

-- a hart that did not make the item at this place does not wait for it
tag_other : (n : ℕ) (s : State) (d : ℕ) (m : Made) (h : ℕ) (q : Pending) → IsSound n s.pending s.devs → slice_get (s.devs d).made (s.devs d).acted ≡ Some m
    → (IsLoadOf h (Some m) → ⊥) → s.pending h ≡ Some q → q.dev ≡ d → q.tag ≢ (s.devs d).acted
tag_other n s d m h q S at free is dev =
    λ e. free (let o : IsLoadOf h (slice_get (s.devs q.dev).made q.tag) = S.owner h q is in let r = rw (dev, e, at) at o in r)

hart_apart : (n : ℕ) (s : State) (d : ℕ) (m : Made) (a : Acted) (h : ℕ) (kept : HartState) → IsSound n s.pending s.devs
    → slice_get (s.devs d).made (s.devs d).acted ≡ Some m → (IsLoadOf h (Some m) → ⊥)
    → HartStands kept (s.harts h) (s.pending h) s.devs → HartStands kept (s.harts h) (s.pending h) (update s.devs d (with_act (s.devs d) m a))
hart_apart n s d m a h kept S at free =
    hart_kept kept (s.harts h) (s.pending h) (s.pending h) s.devs (update s.devs d (with_act (s.devs d) m a)) (same_place (s.pending h))
    (λ q is w. update_elim s.devs d (with_act (s.devs d) m a) q.dev (λ x. AwaitsAt kept (s.harts h) q.tag x)
    (λ r. awaits_took kept (s.harts h) q.tag (s.devs d) m a (tag_other n s d m h q S at free is r)
    (subst (λ (k : ℕ). AwaitsAt kept (s.harts h) q.tag (s.devs k)) r w))
    (λ _. w))

-- the maker's hart: its value reached it in the state, and is on its way in the core
hart_reached : (kept now : HartState) (o : Option Pending) (devs : ℕ → DeviceRun) (d k : ℕ) (width : Width) (off : ℕ) (a : Acted)
    → o ≡ Some (load_at d (devs d).acted false) → HartStands kept now o devs
    → HartStands kept (finished now a.value) o (update devs d (with_act (devs d) (record { item = item.Load width off; maker = Maker.Hart k }) a))
hart_reached kept now None devs d k width off a is h = cc
hart_reached kept now (Some q) devs d k width off a is h =
    let same : q ≡ load_at d (devs d).acted false = cc in
    rw same (
      h.0,
      elim (rw same at h.1) [
        | inl e ↦ rw (update_same devs d (with_act (devs d) (record { item = item.Load width off; maker = Maker.Hart k }) a))
            (inr (
              a.value,
              record {
                acted = omega arith;
                has = rw (← append_assoc) (has_last (devs d).acted a.value ((devs d).replied ++ (devs d).due) (record { tag = (devs d).acted; maker = Maker.Hart k; answer = Answer.Value a.value }) refl refl);
                finish = rw e.1 refl;
              },
            ))
        | inr e ↦ let b : (devs d).acted < (devs d).acted = e.1.acted in absurd (omega arith)
      ],
    )

-- harts, by the item and who made it
pub harts_took : (n : ℕ) (s : State) (d : ℕ) (i : Item) (maker : Maker) (a : Acted) (h : ℕ) (kept : HartState) → IsSound n s.pending s.devs
    → slice_get (s.devs d).made (s.devs d).acted ≡ Some (record { item = i; maker = maker })
    → HartStands kept (s.harts h) (s.pending h) s.devs
    → HartStands kept ((took_as s d (record { item = i; maker = maker }) a).harts h) ((took_as s d (record { item = i; maker = maker }) a).pending h) (took_as s d (record { item = i; maker = maker }) a).devs
harts_took n s d (item.Load width off) (Maker.Line c) a h kept S at T = hart_apart n s d (record { item = item.Load width off; maker = Maker.Line c }) a h kept S at (λ l. let e : Maker.Line c ≡ Maker.Hart h = l.0 in cc) T
harts_took n s d (item.Load width off) (Maker.Hart k) a h kept S at T =
    update_elim s.harts k (finished (s.harts k) a.value) h
    (λ x. HartStands kept x (s.pending h) (update s.devs d (with_act (s.devs d) (record { item = item.Load width off; maker = Maker.Hart k }) a)))
    (λ r. rw r (hart_reached kept (s.harts k) (s.pending k) s.devs d k width off a (S.unacted d (s.devs d).acted k (omega arith) (rw at (refl, tt)))
    (subst (λ (j : ℕ). HartStands kept (s.harts j) (s.pending j) s.devs) r T)))
    (λ ne. hart_apart n s d (record { item = item.Load width off; maker = Maker.Hart k }) a h kept S at
    (λ l. let e : Maker.Hart k ≡ Maker.Hart h = l.0 in let f : h ≡ k = cc in absurd (ne f)) T)
harts_took n s d (item.Store width off value) maker a h kept S at T = hart_apart n s d (record { item = item.Store width off value; maker = maker }) a h kept S at (λ l. l.1) T
harts_took n s d (item.Target pages) maker a h kept S at T = hart_apart n s d (record { item = item.Target pages; maker = maker }) a h kept S at (λ l. l.1) T
harts_took n s d item.Stats maker a h kept S at T = hart_apart n s d (record { item = item.Stats; maker = maker }) a h kept S at (λ l. l.1) T
harts_took n s d (item.Resize sectors) maker a h kept S at T = hart_apart n s d (record { item = item.Resize sectors; maker = maker }) a h kept S at (λ l. l.1) T

-- 2. The device's side

-- the first of the items that the device did not act on leaves the command tube
pub side_took : (tube : ℕ) (now : Mode) (v : DeviceRun) (m : Made) (a : Acted) (old p : SideState) (tagged : ℕ × Item)
    → StandsFor tube now v old → v.phase ≡ Phase.Quiet → slice_get v.made v.acted ≡ Some m → old ≡ with_first_item tagged p
    → StandsFor tube now (with_act v m a) p × (tagged ≡ (v.acted, m.item)) × (p.proxy.harts ≡ old.proxy.harts)
side_took tube now v m a old p tagged R quiet at is =
    let S : StandsFor tube now v (with_first_item tagged p) = subst (λ (x : SideState). StandsFor tube now v x) is R in
    let items : ◌≡◌ {A = List (ℕ × Item)} (tagged ∷ p.items) ((v.acted, m.item) ∷ tagged_from (v.acted + 1) (drop (v.acted + 1) v.made)) =
    S.commands ∙ ap (tagged_from v.acted) (drop_at v.made v.acted m at) in
    let idle : AreIdle (between_of p) × (p.intended ≡ false) = (let t = S.transit in let r = rw quiet at t in r) in (
      record {
        tube_is = S.tube_is;
        made = S.made;
        harts = S.harts;
        commands = cc;
        replies = S.replies;
        transit = idle;
        told = S.told;
      },
      cc,
      ap (λ (x : SideState). x.proxy.harts) (sym is),
    )

-- 3. All

pub took_stands : (tube n : ℕ) (guest : GuestState) (withdrawn : List Bool) (sides : List SideState) (waits : List Bool) (reserved : ℕ) (s : State) (d : ℕ) (m : Made) (p none : SideState)
    → Stands tube guest withdrawn sides waits reserved s → IsSound n s.pending s.devs → d < length sides
    → slice_get (s.devs d).made (s.devs d).acted ≡ Some m → (s.devs d).phase ≡ Phase.Quiet
    → StandsFor tube s.mode (with_act (s.devs d) m (act_on (s.devs d) m)) p → p.proxy.harts ≡ (get_or sides d none).proxy.harts
    → Stands tube guest withdrawn (set sides d p) waits reserved (record (took_as s d m (act_on (s.devs d) m)) { ticked = false })
took_stands tube n guest withdrawn sides waits reserved s d m p none T S within at quiet new e =
    let a : Acted = act_on (s.devs d) m in
    let ws : List Due = due_for (s.devs d).acted m.maker (answers_of m.item a) in
    let beside = beside_reached s ws in
    let pending : (reached s ws).pending ≡ s.pending = pending_of_reached s ws in
    let devs : (reached s ws).devs ≡ s.devs = devs_of_reached s ws in
    record {
      local_is = beside.local_is ∙ T.local_is;
      withdrawn_is = beside.withdrawn_is ∙ T.withdrawn_is;
      mode_is = beside.mode_is ∙ T.mode_is;
      events_are = beside.events_are ∙ T.events_are;
      each_hart = λ h any lt. harts_took n s d m.item m.maker a h (get_or guest.harts h any) S at (T.each_hart h any lt);
      each_side = λ j any lt. rw (devs, beside.mode_is)
          (both_kept (λ (k : ℕ) (x : DeviceRun) (y : SideState). StandsFor tube s.mode x y) s.devs sides d (with_act (s.devs d) m a) p (length sides) refl new
          (λ i any2 lt2 ne. T.each_side i any2 lt2) j any (let r : j < length sides = rw length-set at lt in r));
      each_wait = λ j any h lt hn. rw pending
          (waits_kept sides d p none s.pending (length sides) refl within e T.each_wait j any h (let r : j < length sides = rw length-set at lt in r) hn);
      flags = T.flags;
      each_flag = λ h lt. rw pending (T.each_flag h lt);
      reserved_is = T.reserved_is ∙ sym (owed_took s d m a quiet);
    }
