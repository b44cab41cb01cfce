-- Each move keeps what a state of a legal run has.
use Rattle.std.proofs.Common.{◌≡◌, ◌≢◌, ℕ, suc, zero, ◌+◌, ◌<◌, ◌≤◌, ◌⊎◌, inl, inr, Bool, true, false, List, [], ◌∷◌, ◌++◌, length, Option, Some, None, refl, ap, sym, ◌∙◌, subst, arith, append_assoc, append-nil, length-append}
use Rattle.std.specs.List.{slice_get}
use Rattle.std.proofs.lemmas.Option.{slice_get_within}
use Rattle.tv_base.specs.declared.Access.TheVariants as access
use Rattle.tv_items.specs.declared.item.Item.{Item}
use Rattle.tv_items.specs.declared.item.Item.TheVariants as item
use Rattle.tv_plan.specs.Devices.{DeviceState, Acted}
use Rattle.tv_script.specs.Services.{Next, Asks, Rests, Loses}
use Rattle.tv_journal.specs.declared.Entry.TheVariants as entry
use Rattle.tv_spec.specs.declared.Shown.{Shown}
use Rattle.tv_spec.specs.declared.Shown.TheVariants as shown
use Rattle.tv_spec.specs.Devices.{with_item, with_act, with_reply, with_phase, with_got, with_heard, next_of, act_on, answers_of, due_for}
use Rattle.tv_machine.specs.declared.machine.Machine.{Machine}
use Rattle.tv_spec.specs.Direct.{direct}
use Rattle.tv_spec.specs.Legal.{after, IsLegal}
use Rattle.tv_spec.specs.Setup.{Setup, setup_of}
use Rattle.tv_spec.specs.Sound.{IsLoad, IsLoadOf, NoTag, AreDistinct, load_at, Awaits, AreAwaited, IsSound, Sound}
use Rattle.tv_spec.specs.declared.Made.{Made}
use Rattle.tv_spec.specs.declared.Maker.{Maker}
use Rattle.tv_spec.specs.declared.Answer.{Answer}
use Rattle.tv_spec.specs.declared.Due.{Due}
use Rattle.tv_spec.specs.declared.Phase.{Phase}
use Rattle.tv_spec.specs.declared.Pending.{Pending}
use Rattle.tv_spec.specs.State.{State, DeviceRun, first_state, device_in}
use Rattle.tv_spec.specs.Step.{Move, made, ended, Can, done, after_event, event_of, issued, reached, took_as, served, noted, landed, put_dev}
use Rattle.tv_spec.specs.Update.{update}
use Rattle.tv_spec.proofs.Updates.{update_elim, update_same, some_at}

-- Items

pub load_front : (xs ys : List Made) (k h : ℕ) → IsLoadOf h (slice_get xs k) → IsLoadOf h (slice_get (xs ++ ys) k)
load_front [] ys k h l = absurd l
load_front (y ∷ xs) ys zero h l = l
load_front (y ∷ xs) ys (suc k) h l = load_front xs ys k h l

pub load_back : (xs : List Made) (m : Made) (k h : ℕ) → IsLoadOf h (slice_get (xs ++ m ∷ []) k)
    → IsLoadOf h (slice_get xs k) ⊎ ((k ≡ length xs) × IsLoadOf h (Some m))
load_back [] m zero h l = inr (refl, l)
load_back [] m (suc k) h l = absurd l
load_back (x ∷ xs) m zero h l = inl l
load_back (x ∷ xs) m (suc k) h l = elim (load_back xs m k h l) [ inl e ↦ inl e | inr e ↦ inr (ap suc e.0, e.1) ]

pub load_seam : (xs : List Made) (m : Made) (h : ℕ) → IsLoadOf h (Some m) → IsLoadOf h (slice_get (xs ++ m ∷ []) (length xs))
load_seam [] m h l = l
load_seam (x ∷ xs) m h l = load_seam xs m h l

pub same_load : (p q : Pending) → Some p ≡ Some q → (q.dev ≡ p.dev) × (q.tag ≡ p.tag) × (q.replied ≡ p.replied)
same_load p q e =
    let r : q ≡ p = cc in
    (ap (λ (x : Pending). x.dev) r, ap (λ (x : Pending). x.tag) r, ap (λ (x : Pending). x.replied) r)

within_more : (xs : List Made) (x : Made) (n : ℕ) → n ≤ length xs → n ≤ length (xs ++ x ∷ [])
within_more xs x n h = rw length-append (omega arith)

-- Answers

awaited_more : (pending : ℕ → Option Pending) (d limit more : ℕ) (replied : Bool) (ws : List Due) → limit ≤ more
    → AreAwaited pending d limit replied ws → AreAwaited pending d more replied ws
awaited_more pending d limit more replied [] h l = tt
awaited_more pending d limit more replied (w ∷ ws) h l = (omega arith, l.1, awaited_more pending d limit more replied ws h l.2)

awaited_new : (pending : ℕ → Option Pending) (d limit : ℕ) (replied : Bool) (ws : List Due) (w : Due) → w.tag < limit
    → Awaits pending d w.tag replied w.maker → AreAwaited pending d limit replied ws → AreAwaited pending d limit replied (ws ++ w ∷ [])
awaited_new pending d limit replied [] w h a l = (h, a, tt)
awaited_new pending d limit replied (x ∷ ws) w h a l = (l.0, l.1, awaited_new pending d limit replied ws w h a l.2)

-- a change at a hart that waits for none of these answers
awaits_free : (pending : ℕ → Option Pending) (k : ℕ) (v : Option Pending) (d tag : ℕ) (replied : Bool) (maker : Maker)
    → (pending k ≡ Some (load_at d tag replied) → ⊥) → Awaits pending d tag replied maker → Awaits (update pending k v) d tag replied maker
awaits_free pending k v d tag replied (Maker.Line c) free a = tt
awaits_free pending k v d tag replied (Maker.Hart h) free a =
    update_elim pending k v h (λ x. x ≡ Some (load_at d tag replied))
    (λ q. absurd (free (subst (λ (m : ℕ). pending m ≡ Some (load_at d tag replied)) q a)))
    (λ _. a)

-- each of these answers is one that this hart does not wait for
abbrev pub IsFree : (ℕ → Option Pending) → ℕ → ℕ → Bool → List Due → Type 0
IsFree pending k d replied [] = Unit {0}
IsFree pending k d replied (w ∷ ws) = (pending k ≡ Some (load_at d w.tag replied) → ⊥) × IsFree pending k d replied ws

awaited_free : (pending : ℕ → Option Pending) (k : ℕ) (v : Option Pending) (d limit : ℕ) (replied : Bool) (ws : List Due)
    → IsFree pending k d replied ws → AreAwaited pending d limit replied ws → AreAwaited (update pending k v) d limit replied ws
awaited_free pending k v d limit replied [] free l = tt
awaited_free pending k v d limit replied (w ∷ ws) free l =
    (l.0, awaits_free pending k v d w.tag replied w.maker free.0 l.1, awaited_free pending k v d limit replied ws free.1 l.2)

-- a hart that waits for nothing
free_none : (pending : ℕ → Option Pending) (k d : ℕ) (replied : Bool) (ws : List Due) → pending k ≡ None → IsFree pending k d replied ws
free_none pending k d replied [] n = tt
free_none pending k d replied (w ∷ ws) n = ((λ e. cc), free_none pending k d replied ws n)

-- a hart that waits for an answer with the other flag, or of another device
free_flag : (pending : ℕ → Option Pending) (k e t : ℕ) (flag : Bool) (d : ℕ) (replied : Bool) (ws : List Due)
    → pending k ≡ Some (load_at e t flag) → flag ≢ replied → IsFree pending k d replied ws
free_flag pending k e t flag d replied [] p ne = tt
free_flag pending k e t flag d replied (w ∷ ws) p ne = (
  (λ q. let b : Some (load_at e t flag) ≡ Some (load_at d w.tag replied) = sym p ∙ q in ne (sym (same_load _ _ b).2)),
  free_flag pending k e t flag d replied ws p ne,
)

free_dev : (pending : ℕ → Option Pending) (k e t : ℕ) (flag : Bool) (d : ℕ) (replied : Bool) (ws : List Due)
    → pending k ≡ Some (load_at e t flag) → d ≢ e → IsFree pending k d replied ws
free_dev pending k e t flag d replied [] p ne = tt
free_dev pending k e t flag d replied (w ∷ ws) p ne = (
  (λ q. let b : Some (load_at e t flag) ≡ Some (load_at d w.tag replied) = sym p ∙ q in ne (same_load _ _ b).0),
  free_dev pending k e t flag d replied ws p ne,
)

-- or for one with a tag that is not there
free_tag : (pending : ℕ → Option Pending) (k t : ℕ) (flag : Bool) (d : ℕ) (replied : Bool) (ws : List Due)
    → pending k ≡ Some (load_at d t flag) → NoTag t ws → IsFree pending k d replied ws
free_tag pending k t flag d replied [] p no_ = tt
free_tag pending k t flag d replied (w ∷ ws) p no_ = (
  (λ q. let b : Some (load_at d t flag) ≡ Some (load_at d w.tag replied) = sym p ∙ q in no_.0 (same_load _ _ b).1),
  free_tag pending k t flag d replied ws p no_.1,
)

-- Tags

tag_front : (t : ℕ) (xs ys : List Due) → NoTag t (xs ++ ys) → NoTag t xs
tag_front t [] ys n = tt
tag_front t (x ∷ xs) ys n = (n.0, tag_front t xs ys n.1)

distinct_back : (xs ys : List Due) → AreDistinct (xs ++ ys) → AreDistinct ys
distinct_back [] ys d = d
distinct_back (x ∷ xs) ys d = distinct_back xs ys d.1

tag_new : (t : ℕ) (ws : List Due) (w : Due) → w.tag ≢ t → NoTag t ws → NoTag t (ws ++ w ∷ [])
tag_new t [] w h n = (h, tt)
tag_new t (x ∷ ws) w h n = (n.0, tag_new t ws w h n.1)

-- all tags are below a limit
abbrev pub AreBelow : ℕ → List Due → Type 0
AreBelow limit [] = Unit {0}
AreBelow limit (w ∷ ws) = (w.tag < limit) × AreBelow limit ws

below_awaited : (pending : ℕ → Option Pending) (d limit : ℕ) (replied : Bool) (ws : List Due) → AreAwaited pending d limit replied ws → AreBelow limit ws
below_awaited pending d limit replied [] l = tt
below_awaited pending d limit replied (w ∷ ws) l = (l.0, below_awaited pending d limit replied ws l.2)

below_both : (limit : ℕ) (xs ys : List Due) → AreBelow limit xs → AreBelow limit ys → AreBelow limit (xs ++ ys)
below_both limit [] ys a b = b
below_both limit (x ∷ xs) ys a b = (a.0, below_both limit xs ys a.1 b)

distinct_new : (limit : ℕ) (ws : List Due) (w : Due) → w.tag ≡ limit → AreBelow limit ws → AreDistinct ws → AreDistinct (ws ++ w ∷ [])
distinct_new limit [] w e b d = (tt, tt)
distinct_new limit (x ∷ ws) w e b d = (tag_new x.tag ws w (λ q. absurd (omega arith)) d.0, distinct_new limit ws w e b.1 d.1)

-- Moves

-- an entry of a device that leaves its items and its answers
pub sound_dev : (n : ℕ) (pending : ℕ → Option Pending) (devs : ℕ → DeviceRun) (d : ℕ) (v : DeviceRun) → IsSound n pending devs
    → v.made ≡ (devs d).made → v.acted ≡ (devs d).acted → v.due ≡ (devs d).due → v.replied ≡ (devs d).replied
    → IsSound n pending (update devs d v)
sound_dev n pending devs d v S hm ha hd hr =
    record {
      within = λ j. update_elim devs d v j (λ w. w.acted ≤ length w.made) (λ q. rw (hm, ha) (S.within d)) (λ _. S.within j);
      owner = λ h p e. update_elim devs d v p.dev (λ w. IsLoadOf h (slice_get w.made p.tag))
          (λ q. rw (hm, ← q) (S.owner h p e)) (λ _. S.owner h p e);
      unacted = λ j tag h. update_elim devs d v j (λ w. w.acted ≤ tag → IsLoadOf h (slice_get w.made tag) → pending h ≡ Some (load_at j tag false))
          (λ q. rw (hm, ha, ← q) (S.unacted j tag h)) (λ _. S.unacted j tag h);
      due = λ j. update_elim devs d v j (λ w. AreAwaited pending j w.acted false w.due) (λ q. rw (ha, hd, ← q) (S.due j)) (λ _. S.due j);
      replied = λ j. update_elim devs d v j (λ w. AreAwaited pending j w.acted true w.replied) (λ q. rw (ha, hr, ← q) (S.replied j)) (λ _. S.replied j);
      distinct = λ j. update_elim devs d v j (λ w. AreDistinct (w.replied ++ w.due)) (λ q. rw (hd, hr) (S.distinct d)) (λ _. S.distinct j);
      few = S.few;
    }

-- a hart that waits for a load is not one that waits for none
beside : (pending : ℕ → Option Pending) (h : ℕ) (v : Option Pending) → pending h ≡ None → (d tag k : ℕ) → pending k ≡ Some (load_at d tag false)
    → update pending h v k ≡ Some (load_at d tag false)
beside pending h v none d tag k e =
    update_elim pending h v k (λ x. x ≡ Some (load_at d tag false))
    (λ q. let a : pending h ≡ Some (load_at d tag false) = subst (λ (m : ℕ). pending m ≡ Some (load_at d tag false)) q e in cc)
    (λ _. e)

-- a hart makes a load, and waits for it
pub sound_load : (n : ℕ) (pending : ℕ → Option Pending) (devs : ℕ → DeviceRun) (h d : ℕ) (m : Made) → IsSound n pending devs → h < n
    → pending h ≡ None → IsLoadOf h (Some m)
    → IsSound n (update pending h (Some (load_at d (length (devs d).made) false))) (update devs d (with_item (devs d) m))
sound_load n pending devs h d m S hin none is =
    let v : Option Pending = Some (load_at d (length (devs d).made) false) in
    let V : DeviceRun = with_item (devs d) m in
    record {
      within = λ j. update_elim devs d V j (λ w. w.acted ≤ length w.made) (λ q. within_more (devs d).made m (devs d).acted (S.within d)) (λ _. S.within j);
      owner = λ j p. update_elim pending h v j (λ x. x ≡ Some p → IsLoadOf j (slice_get (update devs d V p.dev).made p.tag))
          (λ r q. let at : p.dev ≡ d = (same_load _ p q).0 in
          let tag : p.tag ≡ length (devs d).made = (same_load _ p q).1 in
          rw (at, update_same devs d V, tag, r) (load_seam (devs d).made m h is))
          (λ _ q. update_elim devs d V p.dev (λ w. IsLoadOf j (slice_get w.made p.tag))
          (λ r. load_front (devs d).made (m ∷ []) p.tag j (subst (λ (k : ℕ). IsLoadOf j (slice_get (devs k).made p.tag)) r (S.owner j p q)))
          (λ _. S.owner j p q));
      unacted = λ j tag k. update_elim devs d V j (λ w. w.acted ≤ tag → IsLoadOf k (slice_get w.made tag) → update pending h v k ≡ Some (load_at j tag false))
          (λ r a b. elim (load_back (devs d).made m tag k b) [
            | inl b2 ↦ rw r (beside pending h v none d tag k (S.unacted d tag k a b2))
            | inr b2 ↦ let same : k ≡ h = cc in rw (r, b2.0, same, update_same pending h v) refl
          ])
          (λ _ a b. beside pending h v none j tag k (S.unacted j tag k a b));
      due = λ j. update_elim devs d V j (λ w. AreAwaited (update pending h v) j w.acted false w.due)
          (λ r. rw r (awaited_free pending h v d (devs d).acted false (devs d).due (free_none pending h d false (devs d).due none) (S.due d)))
          (λ _. awaited_free pending h v j (devs j).acted false (devs j).due (free_none pending h j false (devs j).due none) (S.due j));
      replied = λ j. update_elim devs d V j (λ w. AreAwaited (update pending h v) j w.acted true w.replied)
          (λ r. rw r (awaited_free pending h v d (devs d).acted true (devs d).replied (free_none pending h d true (devs d).replied none) (S.replied d)))
          (λ _. awaited_free pending h v j (devs j).acted true (devs j).replied (free_none pending h j true (devs j).replied none) (S.replied j));
      distinct = λ j. update_elim devs d V j (λ w. AreDistinct (w.replied ++ w.due)) (λ q. S.distinct d) (λ _. S.distinct j);
      few = λ j lt. update_elim pending h v j (λ x. x ≡ None) (λ r. absurd (omega arith)) (λ _. S.few j lt);
    }

-- a hart makes a store, and waits for nothing as before
pub sound_store : (n : ℕ) (pending : ℕ → Option Pending) (devs : ℕ → DeviceRun) (h d : ℕ) (m : Made) → IsSound n pending devs
    → pending h ≡ None → ((k : ℕ) → IsLoadOf k (Some m) → ⊥)
    → IsSound n (update pending h None) (update devs d (with_item (devs d) m))
sound_store n pending devs h d m S none not_load =
    let V : DeviceRun = with_item (devs d) m in
    record {
      within = λ j. update_elim devs d V j (λ w. w.acted ≤ length w.made) (λ q. within_more (devs d).made m (devs d).acted (S.within d)) (λ _. S.within j);
      owner = λ j p. update_elim pending h None j (λ x. x ≡ Some p → IsLoadOf j (slice_get (update devs d V p.dev).made p.tag))
          (λ r q. cc)
          (λ _ q. update_elim devs d V p.dev (λ w. IsLoadOf j (slice_get w.made p.tag))
          (λ r. load_front (devs d).made (m ∷ []) p.tag j (subst (λ (k : ℕ). IsLoadOf j (slice_get (devs k).made p.tag)) r (S.owner j p q)))
          (λ _. S.owner j p q));
      unacted = λ j tag k. update_elim devs d V j (λ w. w.acted ≤ tag → IsLoadOf k (slice_get w.made tag) → update pending h None k ≡ Some (load_at j tag false))
          (λ r a b. elim (load_back (devs d).made m tag k b) [
            | inl b2 ↦ rw r (beside pending h None none d tag k (S.unacted d tag k a b2))
            | inr b2 ↦ absurd (not_load k b2.1)
          ])
          (λ _ a b. beside pending h None none j tag k (S.unacted j tag k a b));
      due = λ j. update_elim devs d V j (λ w. AreAwaited (update pending h None) j w.acted false w.due)
          (λ r. rw r (awaited_free pending h None d (devs d).acted false (devs d).due (free_none pending h d false (devs d).due none) (S.due d)))
          (λ _. awaited_free pending h None j (devs j).acted false (devs j).due (free_none pending h j false (devs j).due none) (S.due j));
      replied = λ j. update_elim devs d V j (λ w. AreAwaited (update pending h None) j w.acted true w.replied)
          (λ r. rw r (awaited_free pending h None d (devs d).acted true (devs d).replied (free_none pending h d true (devs d).replied none) (S.replied d)))
          (λ _. awaited_free pending h None j (devs j).acted true (devs j).replied (free_none pending h j true (devs j).replied none) (S.replied j));
      distinct = λ j. update_elim devs d V j (λ w. AreDistinct (w.replied ++ w.due)) (λ q. S.distinct d) (λ _. S.distinct j);
      few = λ j lt. update_elim pending h None j (λ x. x ≡ None) (λ r. refl) (λ _. S.few j lt);
    }

-- a device acts
took_due : (pending : ℕ → Option Pending) (d limit : ℕ) (i : Item) (maker : Maker) (a : Acted) (ws : List Due)
    → ((h : ℕ) → maker ≡ Maker.Hart h → IsLoad i → pending h ≡ Some (load_at d limit false)) → AreAwaited pending d limit false ws
    → AreAwaited pending d (limit + 1) false (ws ++ due_for limit maker (answers_of i a))
took_due pending d limit (item.Store width off value) maker a ws p l = rw append-nil (awaited_more pending d limit (limit + 1) false ws (omega arith) l)
took_due pending d limit (item.Target pages) maker a ws p l = rw append-nil (awaited_more pending d limit (limit + 1) false ws (omega arith) l)
took_due pending d limit item.Stats maker a ws p l = rw append-nil (awaited_more pending d limit (limit + 1) false ws (omega arith) l)
took_due pending d limit (item.Resize sectors) maker a ws p l = rw append-nil (awaited_more pending d limit (limit + 1) false ws (omega arith) l)
took_due pending d limit (item.Load width off) (Maker.Line c) a ws p l =
    awaited_new pending d (limit + 1) false ws (record { tag = limit; maker = Maker.Line c; answer = Answer.Value a.value }) (omega arith) tt
    (awaited_more pending d limit (limit + 1) false ws (omega arith) l)
took_due pending d limit (item.Load width off) (Maker.Hart h) a ws p l =
    awaited_new pending d (limit + 1) false ws (record { tag = limit; maker = Maker.Hart h; answer = Answer.Value a.value }) (omega arith) (p h refl tt)
    (awaited_more pending d limit (limit + 1) false ws (omega arith) l)

took_distinct : (limit : ℕ) (i : Item) (maker : Maker) (a : Acted) (ws : List Due) → AreBelow limit ws → AreDistinct ws
    → AreDistinct (ws ++ due_for limit maker (answers_of i a))
took_distinct limit (item.Store width off value) maker a ws b d = rw append-nil d
took_distinct limit (item.Target pages) maker a ws b d = rw append-nil d
took_distinct limit item.Stats maker a ws b d = rw append-nil d
took_distinct limit (item.Resize sectors) maker a ws b d = rw append-nil d
took_distinct limit (item.Load width off) maker a ws b d =
    distinct_new limit ws (record { tag = limit; maker = maker; answer = Answer.Value a.value }) refl b d

pub sound_took : (n : ℕ) (pending : ℕ → Option Pending) (devs : ℕ → DeviceRun) (d : ℕ) (m : Made) (a : Acted) → IsSound n pending devs
    → slice_get (devs d).made (devs d).acted ≡ Some m → IsSound n pending (update devs d (with_act (devs d) m a))
sound_took n pending devs d m a S at =
    let V : DeviceRun = with_act (devs d) m a in
    let within_d : (devs d).acted < length (devs d).made = slice_get_within (devs d).made (devs d).acted m at in
    record {
      within = λ j. update_elim devs d V j (λ w. w.acted ≤ length w.made) (λ q. omega arith) (λ _. S.within j);
      owner = λ j p q. update_elim devs d V p.dev (λ w. IsLoadOf j (slice_get w.made p.tag))
          (λ r. subst (λ (k : ℕ). IsLoadOf j (slice_get (devs k).made p.tag)) r (S.owner j p q)) (λ _. S.owner j p q);
      unacted = λ j tag k. update_elim devs d V j (λ w. w.acted ≤ tag → IsLoadOf k (slice_get w.made tag) → pending k ≡ Some (load_at j tag false))
          (λ r le b. rw r (S.unacted d tag k (omega arith) b)) (λ _. S.unacted j tag k);
      due = λ j. update_elim devs d V j (λ w. AreAwaited pending j w.acted false w.due)
          (λ r. rw r (took_due pending d (devs d).acted m.item m.maker a (devs d).due
          (λ h by is. S.unacted d (devs d).acted h (omega arith) (rw at (by, is))) (S.due d)))
          (λ _. S.due j);
      replied = λ j. update_elim devs d V j (λ w. AreAwaited pending j w.acted true w.replied)
          (λ r. rw r (awaited_more pending d (devs d).acted ((devs d).acted + 1) true (devs d).replied (omega arith) (S.replied d)))
          (λ _. S.replied j);
      distinct = λ j. update_elim devs d V j (λ w. AreDistinct (w.replied ++ w.due))
          (λ r. rw (← append_assoc) (took_distinct (devs d).acted m.item m.maker a ((devs d).replied ++ (devs d).due)
          (below_both (devs d).acted (devs d).replied (devs d).due (below_awaited pending d (devs d).acted true (devs d).replied (S.replied d)) (below_awaited pending d (devs d).acted false (devs d).due (S.due d)))
          (S.distinct d)))
          (λ _. S.distinct j);
      few = S.few;
    }

-- loads that did not act are not the one that this hart waits for
elsewhere : (pending : ℕ → Option Pending) (k d t limit : ℕ) (flag : Bool) (v : Option Pending) → pending k ≡ Some (load_at d t flag) → t < limit
    → (j tag h : ℕ) → ((j ≡ d) → limit ≤ tag) → pending h ≡ Some (load_at j tag false) → update pending k v h ≡ Some (load_at j tag false)
elsewhere pending k d t limit flag v p lt j tag h le e =
    update_elim pending k v h (λ x. x ≡ Some (load_at j tag false))
    (λ q. let a : pending k ≡ Some (load_at j tag false) = subst (λ (m : ℕ). pending m ≡ Some (load_at j tag false)) q e in
    let b : Some (load_at d t flag) ≡ Some (load_at j tag false) = sym p ∙ a in
    let dev : j ≡ d = (same_load _ _ b).0 in
    let same : tag ≡ t = (same_load _ _ b).1 in
    let above : limit ≤ tag = le dev in
    absurd (omega arith))
    (λ _. e)

-- the answer of a hart's load has its Reply
pub sound_replied : (n : ℕ) (pending : ℕ → Option Pending) (devs : ℕ → DeviceRun) (d k t : ℕ) (answer : Answer) (ws : List Due) → IsSound n pending devs
    → (devs d).due ≡ record { tag = t; maker = Maker.Hart k; answer = answer } ∷ ws
    → IsSound n (update pending k (Some (load_at d t true))) (update devs d (with_reply (devs d) (record { tag = t; maker = Maker.Hart k; answer = answer } ∷ ws)))
sound_replied n pending devs d k t answer ws S is =
    let w : Due = record { tag = t; maker = Maker.Hart k; answer = answer } in
    let v : Option Pending = Some (load_at d t true) in
    let V : DeviceRun = with_reply (devs d) (w ∷ ws) in
    let l : AreAwaited pending d (devs d).acted false (w ∷ ws) = rw is at (S.due d) in
    let apart : AreDistinct (w ∷ ws) = distinct_back (devs d).replied (w ∷ ws) (let r = rw is at (S.distinct d) in r) in
    let away : true ≢ false = λ e. cc in
    let back : false ≢ true = λ e. cc in
    record {
      within = λ j. update_elim devs d V j (λ x. x.acted ≤ length x.made) (λ q. S.within d) (λ _. S.within j);
      owner = λ j p. update_elim pending k v j (λ x. x ≡ Some p → IsLoadOf j (slice_get (update devs d V p.dev).made p.tag))
          (λ r q. let at : p.dev ≡ d = (same_load _ p q).0 in
          let tag : p.tag ≡ t = (same_load _ p q).1 in
          rw (at, update_same devs d V, tag, r) (S.owner k (load_at d t false) l.1))
          (λ _ q. update_elim devs d V p.dev (λ x. IsLoadOf j (slice_get x.made p.tag))
          (λ r. subst (λ (i : ℕ). IsLoadOf j (slice_get (devs i).made p.tag)) r (S.owner j p q)) (λ _. S.owner j p q));
      unacted = λ j tag h. update_elim devs d V j (λ x. x.acted ≤ tag → IsLoadOf h (slice_get x.made tag) → update pending k v h ≡ Some (load_at j tag false))
          (λ r a b. rw r (elsewhere pending k d t (devs d).acted false v l.1 l.0 d tag h (λ _. a) (S.unacted d tag h a b)))
          (λ ne a b. elsewhere pending k d t (devs d).acted false v l.1 l.0 j tag h (λ q. absurd (ne q)) (S.unacted j tag h a b));
      due = λ j. update_elim devs d V j (λ x. AreAwaited (update pending k v) j x.acted false x.due)
          (λ r. rw r (awaited_free pending k v d (devs d).acted false ws (free_tag pending k t false d false ws l.1 apart.0) l.2))
          (λ ne. awaited_free pending k v j (devs j).acted false (devs j).due (free_dev pending k d t false j false (devs j).due l.1 ne) (S.due j));
      replied = λ j. update_elim devs d V j (λ x. AreAwaited (update pending k v) j x.acted true x.replied)
          (λ r. rw r (awaited_new (update pending k v) d (devs d).acted true (devs d).replied w l.0 (update_same pending k v)
          (awaited_free pending k v d (devs d).acted true (devs d).replied (free_flag pending k d t false d true (devs d).replied l.1 back) (S.replied d))))
          (λ _. awaited_free pending k v j (devs j).acted true (devs j).replied (free_flag pending k d t false j true (devs j).replied l.1 back) (S.replied j));
      distinct = λ j. update_elim devs d V j (λ x. AreDistinct (x.replied ++ x.due))
          (λ q. rw append_assoc (let r = rw is at (S.distinct d) in r)) (λ _. S.distinct j);
      few = λ j lt. update_elim pending k v j (λ x. x ≡ None) (λ r. let no_ : pending k ≡ None = S.few k (let m : n ≤ k = rw (← r) lt in m) in cc) (λ _. S.few j lt);
    }

-- the oldest Reply of a hart's load lands
pub sound_landed : (n : ℕ) (pending : ℕ → Option Pending) (devs : ℕ → DeviceRun) (d k t : ℕ) (answer : Answer) (ws : List Due) → IsSound n pending devs
    → (devs d).replied ≡ record { tag = t; maker = Maker.Hart k; answer = answer } ∷ ws
    → IsSound n (update pending k None) (update devs d (record (devs d) { replied = ws }))
sound_landed n pending devs d k t answer ws S is =
    let w : Due = record { tag = t; maker = Maker.Hart k; answer = answer } in
    let V : DeviceRun = record (devs d) { replied = ws } in
    let l : AreAwaited pending d (devs d).acted true (w ∷ ws) = rw is at (S.replied d) in
    let apart : AreDistinct (w ∷ (ws ++ (devs d).due)) = rw is at (S.distinct d) in
    let away : true ≢ false = λ e. cc in
    record {
      within = λ j. update_elim devs d V j (λ x. x.acted ≤ length x.made) (λ q. S.within d) (λ _. S.within j);
      owner = λ j p. update_elim pending k None j (λ x. x ≡ Some p → IsLoadOf j (slice_get (update devs d V p.dev).made p.tag))
          (λ r q. cc)
          (λ _ q. update_elim devs d V p.dev (λ x. IsLoadOf j (slice_get x.made p.tag))
          (λ r. subst (λ (i : ℕ). IsLoadOf j (slice_get (devs i).made p.tag)) r (S.owner j p q)) (λ _. S.owner j p q));
      unacted = λ j tag h. update_elim devs d V j (λ x. x.acted ≤ tag → IsLoadOf h (slice_get x.made tag) → update pending k None h ≡ Some (load_at j tag false))
          (λ r a b. rw r (elsewhere pending k d t (devs d).acted true None l.1 l.0 d tag h (λ _. a) (S.unacted d tag h a b)))
          (λ ne a b. elsewhere pending k d t (devs d).acted true None l.1 l.0 j tag h (λ q. absurd (ne q)) (S.unacted j tag h a b));
      due = λ j. update_elim devs d V j (λ x. AreAwaited (update pending k None) j x.acted false x.due)
          (λ r. rw r (awaited_free pending k None d (devs d).acted false (devs d).due (free_flag pending k d t true d false (devs d).due l.1 away) (S.due d)))
          (λ _. awaited_free pending k None j (devs j).acted false (devs j).due (free_flag pending k d t true j false (devs j).due l.1 away) (S.due j));
      replied = λ j. update_elim devs d V j (λ x. AreAwaited (update pending k None) j x.acted true x.replied)
          (λ r. rw r (awaited_free pending k None d (devs d).acted true ws (free_tag pending k t true d true ws l.1 (tag_front t ws (devs d).due apart.0)) l.2))
          (λ ne. awaited_free pending k None j (devs j).acted true (devs j).replied (free_dev pending k d t true j true (devs j).replied l.1 ne) (S.replied j));
      distinct = λ j. update_elim devs d V j (λ x. AreDistinct (x.replied ++ x.due)) (λ q. apart.1) (λ _. S.distinct j);
      few = λ j lt. update_elim pending k None j (λ x. x ≡ None) (λ r. refl) (λ _. S.few j lt);
    }

-- the same for the answer to a line, for which no hart waits
sound_replied_line : (n : ℕ) (pending : ℕ → Option Pending) (devs : ℕ → DeviceRun) (d c t : ℕ) (answer : Answer) (ws : List Due) → IsSound n pending devs
    → (devs d).due ≡ record { tag = t; maker = Maker.Line c; answer = answer } ∷ ws
    → IsSound n pending (update devs d (with_reply (devs d) (record { tag = t; maker = Maker.Line c; answer = answer } ∷ ws)))
sound_replied_line n pending devs d c t answer ws S is =
    let w : Due = record { tag = t; maker = Maker.Line c; answer = answer } in
    let V : DeviceRun = with_reply (devs d) (w ∷ ws) in
    let l : AreAwaited pending d (devs d).acted false (w ∷ ws) = rw is at (S.due d) in
    record {
      within = λ j. update_elim devs d V j (λ x. x.acted ≤ length x.made) (λ q. S.within d) (λ _. S.within j);
      owner = λ j p q. update_elim devs d V p.dev (λ x. IsLoadOf j (slice_get x.made p.tag))
          (λ r. subst (λ (i : ℕ). IsLoadOf j (slice_get (devs i).made p.tag)) r (S.owner j p q)) (λ _. S.owner j p q);
      unacted = λ j tag h. update_elim devs d V j (λ x. x.acted ≤ tag → IsLoadOf h (slice_get x.made tag) → pending h ≡ Some (load_at j tag false))
          (λ r a b. rw r (S.unacted d tag h a b)) (λ _. S.unacted j tag h);
      due = λ j. update_elim devs d V j (λ x. AreAwaited pending j x.acted false x.due) (λ r. rw r l.2) (λ _. S.due j);
      replied = λ j. update_elim devs d V j (λ x. AreAwaited pending j x.acted true x.replied)
          (λ r. rw r (awaited_new pending d (devs d).acted true (devs d).replied w l.0 tt (S.replied d))) (λ _. S.replied j);
      distinct = λ j. update_elim devs d V j (λ x. AreDistinct (x.replied ++ x.due))
          (λ q. rw append_assoc (let r = rw is at (S.distinct d) in r)) (λ _. S.distinct j);
      few = S.few;
    }

sound_landed_line : (n : ℕ) (pending : ℕ → Option Pending) (devs : ℕ → DeviceRun) (d : ℕ) (w : Due) (ws : List Due) → IsSound n pending devs
    → (devs d).replied ≡ w ∷ ws → IsSound n pending (update devs d (record (devs d) { replied = ws }))
sound_landed_line n pending devs d w ws S is =
    let V : DeviceRun = record (devs d) { replied = ws } in
    let l : AreAwaited pending d (devs d).acted true (w ∷ ws) = rw is at (S.replied d) in
    let apart : AreDistinct (w ∷ (ws ++ (devs d).due)) = rw is at (S.distinct d) in
    record {
      within = λ j. update_elim devs d V j (λ x. x.acted ≤ length x.made) (λ q. S.within d) (λ _. S.within j);
      owner = λ j p q. update_elim devs d V p.dev (λ x. IsLoadOf j (slice_get x.made p.tag))
          (λ r. subst (λ (i : ℕ). IsLoadOf j (slice_get (devs i).made p.tag)) r (S.owner j p q)) (λ _. S.owner j p q);
      unacted = λ j tag h. update_elim devs d V j (λ x. x.acted ≤ tag → IsLoadOf h (slice_get x.made tag) → pending h ≡ Some (load_at j tag false))
          (λ r a b. rw r (S.unacted d tag h a b)) (λ _. S.unacted j tag h);
      due = λ j. update_elim devs d V j (λ x. AreAwaited pending j x.acted false x.due) (λ r. rw r (S.due d)) (λ _. S.due j);
      replied = λ j. update_elim devs d V j (λ x. AreAwaited pending j x.acted true x.replied) (λ r. rw r l.2) (λ _. S.replied j);
      distinct = λ j. update_elim devs d V j (λ x. AreDistinct (x.replied ++ x.due)) (λ q. apart.1) (λ _. S.distinct j);
      few = S.few;
    }

-- All moves

sound_issued : (setup : Setup) (s : State) (h : ℕ) (seen : Shown) → h < setup.harts → s.pending h ≡ None → Sound setup s → Sound setup (issued h seen s)
sound_issued setup s h (shown.Access d (access.Load width off)) hin none S =
    sound_load setup.harts s.pending s.devs h d (record { item = item.Load width off; maker = Maker.Hart h }) S hin none (refl, tt)
sound_issued setup s h (shown.Access d (access.Store width off value)) hin none S =
    sound_store setup.harts s.pending s.devs h d (record { item = item.Store width off value; maker = Maker.Hart h }) S none (λ k l. l.1)
sound_issued setup s h shown.Nothing hin none S = S
sound_issued setup s h (shown.Byte byte) hin none S = S
sound_issued setup s h (shown.Finish finish) hin none S = S

parts_of_reached : (s : State) (ws : List Due) → ((reached s ws).pending ≡ s.pending) × ((reached s ws).devs ≡ s.devs)
parts_of_reached s [] = (refl, refl)
parts_of_reached s (w ∷ ws) = by_maker w.maker w.answer
  where
    by_maker : (maker : Maker) (answer : Answer) → ((reached s (record { tag = w.tag; maker = maker; answer = answer } ∷ ws)).pending ≡ s.pending) × ((reached s (record { tag = w.tag; maker = maker; answer = answer } ∷ ws)).devs ≡ s.devs)
    by_maker (Maker.Line c) answer = (refl, refl)
    by_maker (Maker.Hart h) (Answer.Value v) = (refl, refl)
    by_maker (Maker.Hart h) (Answer.Verdict v) = (refl, refl)

sound_took_all : (setup : Setup) (s : State) (d : ℕ) (m : Made) (a : Acted) → slice_get (s.devs d).made (s.devs d).acted ≡ Some m → Sound setup s
    → Sound setup (took_as s d m a)
sound_took_all setup s d m a at S =
    let ws : List Due = due_for (s.devs d).acted m.maker (answers_of m.item a) in
    let e = parts_of_reached s ws in
    rw (e.0, e.1) (sound_took setup.harts s.pending s.devs d m a S at)

sound_served : (setup : Setup) (s : State) (d : ℕ) (next : Next DeviceState) → Sound setup s → Sound setup (served setup s d next)
sound_served setup s d (Rests state) S = S
sound_served setup s d (Loses state) S = S
sound_served setup s d (Asks action) S =
    sound_dev setup.harts s.pending s.devs d (with_phase (s.devs d) (Phase.Served (direct (device_in setup.devices d) d s.local s.withdrawn action).heard)) S refl refl refl refl

sound_reply_all : (setup : Setup) (s : State) (d : ℕ) (ws : List Due) → (s.devs d).due ≡ ws → Sound setup s
    → Sound setup (put_dev (noted s d ws) d (with_reply (s.devs d) ws))
sound_reply_all setup s d [] is S = sound_dev setup.harts s.pending s.devs d (s.devs d) S refl refl refl refl
sound_reply_all setup s d (w ∷ ws) is S = by_maker w.maker is
  where
    by_maker : (maker : Maker) → (s.devs d).due ≡ record { tag = w.tag; maker = maker; answer = w.answer } ∷ ws
        → Sound setup (put_dev (noted s d (record { tag = w.tag; maker = maker; answer = w.answer } ∷ ws)) d (with_reply (s.devs d) (record { tag = w.tag; maker = maker; answer = w.answer } ∷ ws)))
    by_maker (Maker.Hart h) e = sound_replied setup.harts s.pending s.devs d h w.tag w.answer ws S e
    by_maker (Maker.Line c) e = sound_replied_line setup.harts s.pending s.devs d c w.tag w.answer ws S e

sound_landed_all : (setup : Setup) (s : State) (d : ℕ) (ws : List Due) → (s.devs d).replied ≡ ws → Sound setup s → Sound setup (landed s d ws)
sound_landed_all setup s d [] is S = S
sound_landed_all setup s d (w ∷ ws) is S = by_maker w.maker is
  where
    by_maker : (maker : Maker) → (s.devs d).replied ≡ record { tag = w.tag; maker = maker; answer = w.answer } ∷ ws
        → Sound setup (landed s d (record { tag = w.tag; maker = maker; answer = w.answer } ∷ ws))
    by_maker (Maker.Hart h) e = sound_landed setup.harts s.pending s.devs d h w.tag w.answer ws S e
    by_maker (Maker.Line c) e = sound_landed_line setup.harts s.pending s.devs d (record { tag = w.tag; maker = Maker.Line c; answer = w.answer }) ws S e

pub sound_done : (setup : Setup) (s : State) (move : Move) → Can setup s move → Sound setup s → Sound setup (done setup s move)
sound_done setup s (made (entry.Hart h)) c S =
    sound_issued setup (after_event setup s h) h (event_of s h).2.shown c.exists c.ready S
sound_done setup s (made (entry.Take d)) c S =
    let x = some_at (s.devs d).made (s.devs d).acted c.2.more in
    rw x.1 (sound_took_all setup s d x.0 (act_on (s.devs d) x.0) x.1 S)
sound_done setup s (made (entry.Send d)) c S = sound_dev setup.harts s.pending s.devs d (with_phase (s.devs d) Phase.Sent) S refl refl refl refl
sound_done setup s (made (entry.ServeMem d)) c S = sound_served setup s d (next_of (s.devs d)) S
sound_done setup s (made (entry.ServeIrq d)) c S = sound_served setup s d (next_of (s.devs d)) S
sound_done setup s (made (entry.Got d)) c S = sound_dev setup.harts s.pending s.devs d (with_got (s.devs d)) S refl refl refl refl
sound_done setup s (made (entry.Reply d)) c S = sound_reply_all setup s d (s.devs d).due refl S
sound_done setup s (made (entry.Deliver d)) c S = sound_landed_all setup s d (s.devs d).replied refl S
sound_done setup s (made (entry.Intend d)) c S = sound_dev setup.harts s.pending s.devs d (with_phase (s.devs d) Phase.Intended) S refl refl refl refl
sound_done setup s (made (entry.Did d heard)) c S = sound_dev setup.harts s.pending s.devs d (with_heard (s.devs d) heard) S refl refl refl refl
sound_done setup s (made (entry.Tick n)) c S = S
sound_done setup s (ended cause) c S = S

sound_from : (setup : Setup) (s : State) (moves : List Move) → IsLegal setup s moves → Sound setup s → Sound setup (after setup s moves)
sound_from setup s [] l S = S
sound_from setup s (move ∷ moves) l S = sound_from setup (done setup s move) moves l.1 (sound_done setup s move l.0 S)

pub sound_first : (machine : Machine) (image : List ℕ) → Sound (setup_of machine) (first_state machine image)
sound_first machine image =
    record { within = λ d. omega arith; owner = λ h p e. cc; unacted = λ d tag h a b. absurd b; due = λ d. tt; replied = λ d. tt; distinct = λ d. tt; few = λ h lt. refl }

-- each state of a legal run has it
pub sound_after : (machine : Machine) (image : List ℕ) (moves : List Move) → IsLegal (setup_of machine) (first_state machine image) moves
    → Sound (setup_of machine) (after (setup_of machine) (first_state machine image) moves)
sound_after machine image moves l = sound_from (setup_of machine) (first_state machine image) moves l (sound_first machine image)
