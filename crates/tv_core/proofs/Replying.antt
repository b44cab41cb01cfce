-- An answer gets its Reply, and the oldest Reply lands.
use Rattle.std.proofs.Common.{◌≡◌, ◌≢◌, ℕ, ◌<◌, ◌≤◌, inl, inr, Bool, true, false, List, [], ◌∷◌, ◌++◌, length, map, get_or, set, Option, Some, None, refl, ap, sym, ◌∙◌, subst, arith, append_assoc, length-set}
use Rattle.std.specs.List.{slice_get}
use Rattle.std.specs.Option.{is_some}
use Rattle.std.specs.Prelude.{IsSome}
use Rattle.std.proofs.lemmas.Bool.Decides.{eqb_tells}
use Rattle.std.proofs.lemmas.List.{get_or-set_same, get_or-set_other}
use Rattle.tv_base.specs.declared.limits.TheConstants.{HARTS}
use Rattle.tv_guest.specs.GuestState.{GuestState}
use Rattle.tv_hart.specs.declared.loads.Waiting.{Waiting}
use Rattle.tv_hart.specs.Hart.{finished, finished_by, first_hart}
use Rattle.tv_hart.specs.HartState.{HartState}
use Rattle.tv_side.specs.Sides.{SideState, with_reply as with_message}
use Rattle.tv_spec.specs.declared.Mode.{Mode}
use Rattle.tv_spec.specs.Devices.{with_reply}
use Rattle.tv_spec.specs.Room.{owed}
use Rattle.tv_spec.specs.Sound.{AreAwaited, AreDistinct, IsLoadOf, IsSound, NoTag, load_at}
use Rattle.tv_spec.specs.declared.Made.{Made}
use Rattle.tv_spec.specs.declared.Maker.{Maker}
use Rattle.tv_spec.specs.declared.Answer.{Answer}
use Rattle.tv_spec.specs.declared.Due.{Due}
use Rattle.tv_spec.specs.declared.Pending.{Pending}
use Rattle.tv_spec.specs.State.{State, DeviceRun}
use Rattle.tv_spec.specs.Step.{noted, put_dev}
use Rattle.tv_spec.specs.Update.{update}
use Rattle.tv_spec.proofs.Updates.{both_kept, update_elim}
use Rattle.tv_wire.specs.declared.Msg.{Msg}
use Rattle.tv_core.specs.Stands.{AwaitsAt, HartStands, HasValue, Stands, StandsFor, due_message, tag_at}
use Rattle.tv_core.proofs.Keeping.{SamePlace, same_place, stands_dev}

-- 1. A Reply

map_more : (ws : List Due) (w : Due) → map due_message (ws ++ w ∷ []) ≡ map due_message ws ++ due_message w ∷ []
map_more [] w = refl
map_more (x ∷ ws) w = ap (λ (ms : List Msg). due_message x ∷ ms) (map_more ws w)

side_replied : (tube : ℕ) (now : Mode) (v : DeviceRun) (w : Due) (ws : List Due) (old : SideState) → StandsFor tube now v old
    → StandsFor tube now (with_reply v (w ∷ ws)) (with_message old (due_message w))
side_replied tube now v w ws old R = record {
  tube_is = R.tube_is;
  made = R.made;
  harts = R.harts;
  commands = R.commands;
  replies = rw (R.replies, map_more v.replied w) refl;
  transit = R.transit;
  told = R.told;
}

pub replied_stands : (tube : ℕ) (guest : GuestState) (withdrawn : List Bool) (sides : List SideState) (waits : List Bool) (reserved now : ℕ) (s : State)
    (d k tag : ℕ) (answer : Answer) (ws : List Due) (none : SideState)
    → Stands tube guest withdrawn sides waits reserved s → d < length sides
    → (s.devs d).due ≡ record { tag = tag; maker = Maker.Hart k; answer = answer } ∷ ws
    → s.pending k ≡ Some (load_at d tag false)
    → now ≡ owed (record (put_dev (noted s d (s.devs d).due) d (with_reply (s.devs d) (s.devs d).due)) { ticked = false })
    → Stands tube guest withdrawn (set sides d (with_message (get_or sides d none) (due_message (record { tag = tag; maker = Maker.Hart k; answer = answer })))) waits now
    (record (put_dev (noted s d (s.devs d).due) d (with_reply (s.devs d) (s.devs d).due)) { ticked = false })
replied_stands tube guest withdrawn sides waits reserved now s d k tag answer ws none T within due waiting room =
    let w : Due = record { tag = tag; maker = Maker.Hart k; answer = answer } in
    let t : State = record (put_dev (noted s d (w ∷ ws)) d (with_reply (s.devs d) (w ∷ ws))) { ticked = false } in
    let room_is : now ≡ owed t = (let r = rw due at room in r) in
    rw due (stands_dev tube guest guest withdrawn withdrawn sides waits reserved now s t d (with_reply (s.devs d) (w ∷ ws)) (with_message (get_or sides d none) (due_message w)) none
    T within
    (record {
      guest_harts = refl;
      local_is = T.local_is;
      pages_are = T.withdrawn_is;
      mode_is = T.mode_is;
      events_are = T.events_are;
      harts_are = refl;
      devices_are = refl;
      places = λ h. update_elim s.pending k (Some (load_at d tag true)) h (λ o. SamePlace (s.pending h) o)
          (λ e. rw (e, waiting) (refl, refl))
          (λ _. same_place (s.pending h));
    })
    refl
    (rw due (append_assoc (s.devs d).replied (w ∷ []) ws))
    refl
    (λ j any lt ne. T.each_side j any lt)
    (side_replied tube s.mode (s.devs d) w ws (get_or sides d none) (T.each_side d none within))
    room_is)

-- 2. A Reply that lands

finished_free : (hart : HartState) (o : Option Waiting) (value : ℕ) → IsSome o → (finished_by hart o value).waits ≡ None
finished_free hart None value some = cc
finished_free hart (Some load) value some = refl

no_value : (tag value : ℕ) (ws : List Due) → NoTag tag ws → HasValue tag value ws → ⊥
no_value tag value [] none has = has
no_value tag value (w ∷ ws) none has = elim has [ inl e ↦ none.0 e.0 | inr e ↦ no_value tag value ws none.1 e ]

-- the value of the first answer
value_first : (tag value n : ℕ) (w : Due) (ws : List Due) → w.tag ≡ tag → w.answer ≡ Answer.Value n → NoTag tag ws → HasValue tag value (w ∷ ws) → value ≡ n
value_first tag value n w ws tag_is answer_is none has = elim has [
  | inl e ↦ (let same : Answer.Value value ≡ Answer.Value n = sym e.1 ∙ answer_is in cc)
  | inr e ↦ absurd (no_value tag value ws none e)
]

-- another answer stays where the first one leaves
value_behind : (tag value : ℕ) (w : Due) (ws : List Due) → w.tag ≢ tag → HasValue tag value (w ∷ ws) → HasValue tag value ws
value_behind tag value w ws apart has = elim has [ inl e ↦ absurd (apart e.0) | inr e ↦ e ]

-- the hart that waited goes on with the value
landed_hart : (kept now : HartState) (v : DeviceRun) (k d n : ℕ) (w : Due) (ws : List Due) (devs : ℕ → DeviceRun)
    → HartStands kept now (Some (load_at d w.tag true)) devs → (devs d) ≡ v → v.replied ≡ w ∷ ws → w.tag < v.acted → w.answer ≡ Answer.Value n
    → NoTag w.tag (ws ++ v.due)
    → (now ≡ finished kept n) × ((finished kept n).waits ≡ None)
landed_hart kept now v k d n w ws devs h is replied acted answer_is none =
    let at : AwaitsAt kept now w.tag v = subst (λ (x : DeviceRun). AwaitsAt kept now w.tag x) is h.1 in (
      (elim at [
        | inl e ↦ let late : v.acted ≤ w.tag = e.0 in absurd (omega arith)
        | inr e ↦ let has : HasValue w.tag e.0 (w ∷ (ws ++ v.due)) = (let r = e.1.has in let q = rw replied at r in q) in
            e.1.finish ∙ ap (finished kept) (value_first w.tag e.0 n w (ws ++ v.due) refl answer_is none has)
      ]),
      finished_free kept kept.waits n h.0,
    )

-- another hart waits as before
landed_other : (kept now : HartState) (o : Option Pending) (devs : ℕ → DeviceRun) (d : ℕ) (w : Due) (ws : List Due)
    → (devs d).replied ≡ w ∷ ws → ((q : Pending) → o ≡ Some q → q.dev ≡ d → w.tag ≢ q.tag)
    → HartStands kept now o devs → HartStands kept now o (update devs d (record (devs d) { replied = ws }))
landed_other kept now None devs d w ws replied apart h = h
landed_other kept now (Some q) devs d w ws replied apart h = (
  h.0,
  update_elim devs d (record (devs d) { replied = ws }) q.dev (λ x. AwaitsAt kept now q.tag x)
      (λ same. elim (subst (λ (j : ℕ). AwaitsAt kept now q.tag (devs j)) same h.1) [
        | inl e ↦ inl e
        | inr e ↦ inr (
          e.0,
          record {
            acted = e.1.acted;
            has = value_behind q.tag e.0 w (ws ++ (devs d).due) (apart q refl same) (let r = e.1.has in let p = rw replied at r in p);
            finish = e.1.finish;
          },
        )
      ])
      (λ _. h.1),
)

-- what a landed value leaves of a device's side
pub record IsLanded (tube k : ℕ) (now : Mode) (v : DeviceRun) (ws : List Due) (old p : SideState) : Type 0 where
  pub side : StandsFor tube now (record v { replied = ws }) p
  pub harts : p.proxy.harts ≡ set old.proxy.harts k None

pub tag_mine : (d tag : ℕ) (flag : Bool) → tag_at d (Some (load_at d tag flag)) ≡ Some tag
tag_mine d tag flag = elim (eqb_tells d d) [ inl e ↦ rw e.0 refl | inr e ↦ absurd (e.1 refl) ]

pub tag_others : (d j tag : ℕ) (flag : Bool) → j ≢ d → tag_at j (Some (load_at d tag flag)) ≡ None
tag_others d j tag flag ne = elim (eqb_tells d j) [ inl e ↦ absurd (ne (sym e.1)) | inr e ↦ rw e.0 refl ]

-- a hart that makes the item at a place alone waits for it
pub maker_alone : (n : ℕ) (s : State) (d h k tag : ℕ) (q : Pending) (flag : Bool) → IsSound n s.pending s.devs → s.pending k ≡ Some (load_at d tag flag)
    → s.pending h ≡ Some q → q.dev ≡ d → q.tag ≡ tag → h ≡ k
maker_alone n s d h k tag q flag S here there dev same =
    let mine : IsLoadOf k (slice_get (s.devs d).made tag) = S.owner k (load_at d tag flag) here in
    let other : IsLoadOf h (slice_get (s.devs q.dev).made q.tag) = S.owner h q there in
    let both : IsLoadOf h (slice_get (s.devs d).made tag) = (let r = rw (dev, same) at other in r) in
    one_maker (slice_get (s.devs d).made tag) mine both
  where
    one_maker : (o : Option Made) → IsLoadOf k o → IsLoadOf h o → h ≡ k
    one_maker None a b = absurd a
    one_maker (Some m) a b = let e : Maker.Hart h ≡ Maker.Hart k = sym b.0 ∙ a.0 in cc

pub landed_stands : (tube n : ℕ) (guest : GuestState) (withdrawn : List Bool) (sides : List SideState) (waits : List Bool) (reserved now : ℕ) (s t : State)
    (d k value : ℕ) (w : Due) (ws : List Due) (p none : SideState)
    → Stands tube guest withdrawn sides waits reserved s → IsSound n s.pending s.devs → d < length sides → k < HARTS → k < length guest.harts
    → (s.devs d).replied ≡ w ∷ ws → w.answer ≡ Answer.Value value → s.pending k ≡ Some (load_at d w.tag true)
    → IsLanded tube k s.mode (s.devs d) ws (get_or sides d none) p
    → t ≡ record (put_dev (record s { pending = update s.pending k None }) d (record (s.devs d) { replied = ws })) { ticked = false }
    → now ≡ owed t
    → Stands tube (record guest { harts = set guest.harts k (finished (get_or guest.harts k (first_hart k)) value) }) withdrawn (set sides d p) (set waits k false) now t
landed_stands tube n guest withdrawn sides waits reserved now s t d k value w ws p none T S within below exists replied answer_is waiting L is room =
    let v : DeviceRun = record (s.devs d) { replied = ws } in
    let here : HartState = get_or guest.harts k (first_hart k) in
    let distinct : AreDistinct (w ∷ (ws ++ (s.devs d).due)) = (let r = S.distinct d in let q = rw replied at r in q) in
    let awaited : AreAwaited s.pending d (s.devs d).acted true (w ∷ ws) = (let r = S.replied d in let q = rw replied at r in q) in
    let stood : HartStands here (s.harts k) (Some (load_at d w.tag true)) s.devs =
    (let r = T.each_hart k (first_hart k) exists in let q = rw waiting at r in q) in
    rw is record {
      local_is = T.local_is;
      withdrawn_is = T.withdrawn_is;
      mode_is = T.mode_is;
      events_are = T.events_are;
      each_hart = λ h any lt. update_elim s.pending k None h (λ o. HartStands (get_or (set guest.harts k (finished here value)) h any) (s.harts h) o (update s.devs d v))
          (λ e. rw (e, get_or-set_same guest.harts k (finished here value) any exists)
          (landed_hart here (s.harts k) (s.devs d) k d value w ws s.devs stood refl replied awaited.0 answer_is distinct.0))
          (λ ne. rw (get_or-set_other guest.harts k h (finished here value) any ne)
          (landed_other (get_or guest.harts h any) (s.harts h) (s.pending h) s.devs d w ws replied
          (λ q there dev same. ne (maker_alone n s d h k w.tag q true S waiting there dev (sym same)))
          (T.each_hart h any (let r : h < length guest.harts = rw length-set at lt in r))));
      each_side = λ j any lt. both_kept (λ (i : ℕ) (x : DeviceRun) (y : SideState). StandsFor tube s.mode x y) s.devs sides d v p (length sides) refl L.side
          (λ i any2 lt2 ne. T.each_side i any2 lt2) j any (let r : j < length sides = rw length-set at lt in r);
      each_wait = λ j any h lt hn.
          let inside : j < length sides = (let r : j < length sides = rw length-set at lt in r) in
          both_kept (λ (i : ℕ) (_ : ℕ) (x : SideState). get_or x.proxy.harts h None ≡ tag_at i (update s.pending k None h)) (λ i. i) sides d d p (length sides) refl
          (rw L.harts (update_elim s.pending k None h (λ o. get_or (set (get_or sides d none).proxy.harts k None) h None ≡ tag_at d o)
          (λ e. rw (e, get_or-set_same (get_or sides d none).proxy.harts k None None (rw (T.each_side d none within).harts below)) refl)
          (λ ne. rw (get_or-set_other (get_or sides d none).proxy.harts k h None None ne) (T.each_wait d none h within hn))))
          (λ i any2 lt2 ne. update_elim s.pending k None h (λ o. get_or (get_or sides i any2).proxy.harts h None ≡ tag_at i o)
          (λ e. T.each_wait i any2 h lt2 hn ∙ rw (e, waiting) (tag_others d i w.tag true ne))
          (λ _. T.each_wait i any2 h lt2 hn))
          j any inside;
      flags = rw length-set T.flags;
      each_flag = λ h lt. update_elim s.pending k None h (λ o. get_or (set waits k false) h false ≡ is_some o)
          (λ e. rw (e, get_or-set_same waits k false false (rw T.flags below)) refl)
          (λ ne. rw (get_or-set_other waits k h false false ne) (T.each_flag h lt));
      reserved_is = (let r = rw is at room in r);
    }
