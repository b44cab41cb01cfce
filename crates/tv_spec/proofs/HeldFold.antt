-- The device that a worker holds is that of the state: the fold of what the worker's own entries brought.
use Rattle.std.proofs.Common.{◌≡◌, ℕ, inl, inr, false, true≢false, List, [], ◌∷◌, ◌++◌, map, refl, ap, sym, ◌∙◌}
use Rattle.std.proofs.lemmas.Bool.Decides.{eqb_tells}
use Rattle.tv_plan.specs.Devices.{DeviceState, Acted, act, next}
use Rattle.tv_script.specs.Services.{Next, Asks, Rests, Loses}
use Rattle.tv_journal.specs.declared.Entry.TheVariants as entry
use Rattle.tv_spec.specs.declared.Shown.{Shown}
use Rattle.tv_spec.specs.declared.Shown.TheVariants as shown
use Rattle.tv_spec.specs.Devices.{IsServed, act_on, answers_of, due_for, heard_by, item_of, next_of, rested, with_act, with_got, with_heard, with_item, with_phase, with_reply}
use Rattle.tv_spec.specs.Held.{Brought, Took, Began, Learned, Replied, Held, Owes, brought_by, held_by, held_from, held_of, if_own, is_busy, next_held, own, owes, owes_for, reply_brought}
use Rattle.tv_spec.specs.Legal.{after, IsLegal}
use Rattle.tv_spec.specs.Setup.{Setup}
use Rattle.tv_spec.specs.declared.Made.{Made}
use Rattle.tv_spec.specs.declared.Maker.{Maker}
use Rattle.tv_spec.specs.declared.Answer.{Answer}
use Rattle.tv_spec.specs.declared.Due.{Due}
use Rattle.tv_spec.specs.declared.Phase.{Phase}
use Rattle.tv_spec.specs.State.{State, DeviceRun}
use Rattle.tv_spec.specs.Step.{Move, made, ended, Can, done, after_event, event_of, issued, landed, noted, put_dev, served}
use Rattle.tv_spec.specs.Update.{update}
use Rattle.tv_spec.proofs.Serving.{devs_of_reached}
use Rattle.tv_spec.proofs.Updates.{some_at, update_elim}

pub held_append : (h : Held) (xs ys : List Brought) → held_from h (xs ++ ys) ≡ held_from (held_from h xs) ys
held_append h [] ys = refl
held_append h (x ∷ xs) ys = held_append (held_by h x) xs ys

-- an entry of one device: to its own worker it brings this, and to the others nothing
own_dev : (devs : ℕ → DeviceRun) (d e : ℕ) (v : DeviceRun) (brought : List Brought) → held_of v ≡ held_from (held_of (devs e)) brought
    → held_of (update devs e v d) ≡ held_from (held_of (devs d)) (if_own d e brought)
own_dev devs d e v brought is = elim (eqb_tells d e) [
  | inl same ↦ rw (same.0, same.1) is
  | inr other ↦ rw other.0 refl
]

-- an entry of another actor leaves what the worker holds
left_dev : (devs : ℕ → DeviceRun) (d e : ℕ) (v : DeviceRun) → held_of v ≡ held_of (devs e) → held_of (update devs e v d) ≡ held_of (devs d)
left_dev devs d e v is = update_elim devs e v d (λ w. held_of w ≡ held_of (devs d)) (λ same. rw same is) (λ _. refl)

held_issued : (h d : ℕ) (seen : Shown) (s : State) → held_of ((issued h seen s).devs d) ≡ held_of (s.devs d)
held_issued h d (shown.Access e access) s =
    left_dev s.devs d e (with_item (s.devs e) (record { item = item_of access; maker = Maker.Hart h })) refl
held_issued h d shown.Nothing s = refl
held_issued h d (shown.Byte byte) s = refl
held_issued h d (shown.Finish finish) s = refl

owes_due : (tag : ℕ) (maker : Maker) (answers : List Answer) → map owes (due_for tag maker answers) ≡ owes_for tag answers
owes_due tag maker [] = refl
owes_due tag maker (a ∷ answers) = ap (λ (ws : List Owes). record { tag = tag; answer = a } ∷ ws) (owes_due tag maker answers)

map_both : (xs ys : List Due) → map owes (xs ++ ys) ≡ map owes xs ++ map owes ys
map_both [] ys = refl
map_both (x ∷ xs) ys = ap (λ (ws : List Owes). owes x ∷ ws) (map_both xs ys)

-- a Take, of a device with no action under way
held_took : (v : DeviceRun) (m : Made) → v.phase ≡ Phase.Quiet → held_of (with_act v m (act_on v m)) ≡ held_by (held_of v) (Took v.acted m.item)
held_took v m quiet =
    let heard_is : heard_by v ≡ v.got = rw quiet refl in
    let a : Acted = act (rested v.device (next v.device v.got)) v.acted m.item in
    let due_is : map owes (v.due ++ due_for v.acted m.maker (answers_of m.item a)) ≡ map owes v.due ++ owes_for v.acted (answers_of m.item a) =
    map_both v.due (due_for v.acted m.maker (answers_of m.item a)) ∙ ap (λ (ws : List Owes). map owes v.due ++ ws) (owes_due v.acted m.maker (answers_of m.item a)) in
    rw heard_is (λ i. record { device = a.device; heard = []; busy = false; due = due_is i })

held_served : (setup : Setup) (s : State) (d e : ℕ) (n : Next DeviceState) → (s.devs e).phase ≡ Phase.Sent → held_of ((served setup s e n).devs d) ≡ held_of (s.devs d)
held_served setup s d e (Rests state) sent = refl
held_served setup s d e (Loses state) sent = refl
held_served setup s d e (Asks action) sent = left_dev s.devs d e (with_phase (s.devs e) (Phase.Served _)) (rw sent refl)

held_reply : (s : State) (d e : ℕ) (ws : List Due) → (s.devs e).due ≡ ws
    → held_of ((put_dev (noted s e ws) e (with_reply (s.devs e) ws)).devs d) ≡ held_from (held_of (s.devs d)) (if_own d e (Replied ∷ []))
held_reply s d e [] is = own_dev s.devs d e (s.devs e) (Replied ∷ []) (rw is refl)
held_reply s d e (w ∷ ws) is = by_maker w.maker is
  where
    by_maker : (maker : Maker) → (s.devs e).due ≡ record { tag = w.tag; maker = maker; answer = w.answer } ∷ ws
        → held_of ((put_dev (noted s e (record { tag = w.tag; maker = maker; answer = w.answer } ∷ ws)) e (with_reply (s.devs e) (record { tag = w.tag; maker = maker; answer = w.answer } ∷ ws))).devs d)
        ≡ held_from (held_of (s.devs d)) (if_own d e (Replied ∷ []))
    by_maker (Maker.Hart h) is = own_dev s.devs d e (with_reply (s.devs e) (record { tag = w.tag; maker = Maker.Hart h; answer = w.answer } ∷ ws)) (Replied ∷ []) (rw is refl)
    by_maker (Maker.Line c) is = own_dev s.devs d e (with_reply (s.devs e) (record { tag = w.tag; maker = Maker.Line c; answer = w.answer } ∷ ws)) (Replied ∷ []) (rw is refl)

held_landed : (s : State) (d e : ℕ) (ws : List Due) → held_of ((landed s e ws).devs d) ≡ held_of (s.devs d)
held_landed s d e [] = refl
held_landed s d e (w ∷ ws) = by_maker w.maker
  where
    by_maker : (maker : Maker) → held_of ((landed s e (record { tag = w.tag; maker = maker; answer = w.answer } ∷ ws)).devs d) ≡ held_of (s.devs d)
    by_maker (Maker.Hart h) = left_dev s.devs d e (record (s.devs e) { replied = ws }) refl
    by_maker (Maker.Line c) = left_dev s.devs d e (record (s.devs e) { replied = ws }) refl

held_got : (v : DeviceRun) → IsServed v.phase → held_of (with_got v) ≡ held_from (held_of v) (reply_brought v.phase)
held_got v is = by_phase v.phase refl is
  where
    by_phase : (p : Phase) → v.phase ≡ p → IsServed p → held_of (with_got v) ≡ held_from (held_of v) (reply_brought v.phase)
    by_phase Phase.Quiet e is = absurd is
    by_phase Phase.Sent e is = absurd is
    by_phase (Phase.Served reply) e is = rw e refl
    by_phase Phase.Intended e is = absurd is

-- what a worker holds after a move is what it held, with what the move brought to it
pub held_done : (setup : Setup) (s : State) (d : ℕ) (move : Move) → Can setup s move → held_of ((done setup s move).devs d) ≡ held_from (held_of (s.devs d)) (brought_by s d move)
held_done setup s d (made (entry.Hart h)) can = held_issued h d (event_of s h).2.shown (after_event setup s h)
held_done setup s d (made (entry.Take e)) can =
    let x = some_at (s.devs e).made (s.devs e).acted can.2.more in
    let a : Acted = act_on (s.devs e) x.0 in
    rw x.1 (rw (devs_of_reached s (due_for (s.devs e).acted x.0.maker (answers_of x.0.item a)))
    (own_dev s.devs d e (with_act (s.devs e) x.0 a) (Took (s.devs e).acted x.0.item ∷ []) (held_took (s.devs e) x.0 can.2.quiet)))
held_done setup s d (made (entry.Send e)) can =
    own_dev s.devs d e (with_phase (s.devs e) Phase.Sent) (Began ∷ []) refl
held_done setup s d (made (entry.ServeMem e)) can = held_served setup s d e (next_of (s.devs e)) can.2.sent
held_done setup s d (made (entry.ServeIrq e)) can = held_served setup s d e (next_of (s.devs e)) can.2.sent
held_done setup s d (made (entry.Got e)) can =
    own_dev s.devs d e (with_got (s.devs e)) (reply_brought (s.devs e).phase) (held_got (s.devs e) can.1)
held_done setup s d (made (entry.Reply e)) can = held_reply s d e (s.devs e).due refl
held_done setup s d (made (entry.Deliver e)) can = held_landed s d e (s.devs e).replied
held_done setup s d (made (entry.Intend e)) can =
    own_dev s.devs d e (with_phase (s.devs e) Phase.Intended) (Began ∷ []) refl
held_done setup s d (made (entry.Did e heard)) can =
    own_dev s.devs d e (with_heard (s.devs e) heard) (Learned heard ∷ []) refl
held_done setup s d (made (entry.Tick n)) can = refl
held_done setup s d (ended cause) can = refl

-- so it is the fold of what its own entries brought
pub held_after : (setup : Setup) (s : State) (d : ℕ) (moves : List Move) → IsLegal setup s moves → held_of ((after setup s moves).devs d) ≡ held_from (held_of (s.devs d)) (own setup s d moves)
held_after setup s d [] legal = refl
held_after setup s d (move ∷ moves) legal =
    held_after setup (done setup s move) d moves legal.1
    ∙ ap (λ (h : Held). held_from h (own setup (done setup s move) d moves)) (held_done setup s d move legal.0)
    ∙ sym (held_append (held_of (s.devs d)) (brought_by s d move) (own setup (done setup s move) d moves))

-- a device with no action under way does next what the worker's device does
pub next_of_held : (v : DeviceRun) → (held_of v).busy ≡ false → (v.phase ≡ Phase.Quiet) × (next_of v ≡ next_held (held_of v))
next_of_held v idle = by_phase v.phase refl
  where
    by_phase : (p : Phase) → v.phase ≡ p → (v.phase ≡ Phase.Quiet) × (next_of v ≡ next_held (held_of v))
    by_phase Phase.Quiet e = (e, rw e refl)
    by_phase Phase.Sent e = let r : is_busy Phase.Sent ≡ false = rw e at idle in absurd (true≢false r)
    by_phase (Phase.Served reply) e = let r : is_busy (Phase.Served reply) ≡ false = rw e at idle in absurd (true≢false r)
    by_phase Phase.Intended e = let r : is_busy Phase.Intended ≡ false = rw e at idle in absurd (true≢false r)
