-- Who made the items of devices: a hart of the machine each, by an access, since nothing else makes any. So each answer is the value
-- of a hart's load.
use Rattle.std.proofs.Common.{◌≡◌, ℕ, zero, suc, ◌<◌, List, [], ◌∷◌, ◌++◌, Option, Some, None, refl, subst}
use Rattle.std.specs.List.{slice_get}
use Rattle.tv_base.specs.declared.Access.{Access}
use Rattle.tv_base.specs.declared.Access.TheVariants as access
use Rattle.tv_items.specs.declared.item.Item.{Item}
use Rattle.tv_items.specs.declared.item.Item.TheVariants as item
use Rattle.tv_journal.specs.declared.Entry.TheVariants as entry
use Rattle.tv_machine.specs.declared.machine.Machine.{Machine}
use Rattle.tv_plan.specs.Devices.{DeviceState, Acted}
use Rattle.tv_script.specs.Services.{Next, Asks, Rests, Loses}
use Rattle.tv_spec.specs.declared.Shown.{Shown}
use Rattle.tv_spec.specs.declared.Shown.TheVariants as shown
use Rattle.tv_spec.specs.Devices.{act_on, answers_of, due_for, item_of, next_of, with_act, with_got, with_heard, with_item, with_phase, with_reply}
use Rattle.tv_spec.specs.Direct.{direct}
use Rattle.tv_spec.specs.Legal.{after, IsLegal}
use Rattle.tv_spec.specs.Setup.{Setup, setup_of}
use Rattle.tv_spec.specs.declared.Made.{Made}
use Rattle.tv_spec.specs.declared.Maker.{Maker}
use Rattle.tv_spec.specs.declared.Answer.{Answer}
use Rattle.tv_spec.specs.declared.Due.{Due}
use Rattle.tv_spec.specs.declared.Phase.{Phase}
use Rattle.tv_spec.specs.State.{State, DeviceRun, device_in, first_state}
use Rattle.tv_spec.specs.Step.{Move, made, ended, Can, after_event, done, event_of, issued, landed, noted, put_dev, served, took}
use Rattle.tv_spec.specs.Update.{update}
use Rattle.tv_spec.proofs.Serving.{devs_of_reached}
use Rattle.tv_spec.proofs.Updates.{update_elim}

-- 1. What is said of items, answers and devices

abbrev pub IsAccess : Item → Type 0
IsAccess (item.Load width off) = Unit {0}
IsAccess (item.Store width off value) = Unit {0}
IsAccess i = ⊥

pub record IsOfHart (harts : ℕ) (m : Made) : Type 0 where
  pub access : IsAccess m.item
  pub hart : ℕ
  pub maker_is : m.maker ≡ Maker.Hart hart
  pub exists : hart < harts

pub record IsForHart (harts : ℕ) (w : Due) : Type 0 where
  pub hart : ℕ
  pub value : ℕ
  pub maker_is : w.maker ≡ Maker.Hart hart
  pub answer_is : w.answer ≡ Answer.Value value
  pub exists : hart < harts

abbrev pub AreOfHarts : ℕ → List Made → Type 0
AreOfHarts harts [] = Unit {0}
AreOfHarts harts (m ∷ ms) = IsOfHart harts m × AreOfHarts harts ms

abbrev pub AreForHarts : ℕ → List Due → Type 0
AreForHarts harts [] = Unit {0}
AreForHarts harts (w ∷ ws) = IsForHart harts w × AreForHarts harts ws

pub record IsHartsOwn (harts : ℕ) (v : DeviceRun) : Type 0 where
  pub made : AreOfHarts harts v.made
  pub due : AreForHarts harts v.due
  pub replied : AreForHarts harts v.replied

abbrev pub AreHartsOwn : ℕ → (ℕ → DeviceRun) → Type 0
AreHartsOwn harts devs = (d : ℕ) → IsHartsOwn harts (devs d)

-- 2. Lists

items_more : (harts : ℕ) (ms : List Made) (m : Made) → AreOfHarts harts ms → IsOfHart harts m → AreOfHarts harts (ms ++ m ∷ [])
items_more harts [] m all one = (one, tt)
items_more harts (x ∷ ms) m all one = (all.0, items_more harts ms m all.1 one)

answers_more : (harts : ℕ) (xs ys : List Due) → AreForHarts harts xs → AreForHarts harts ys → AreForHarts harts (xs ++ ys)
answers_more harts [] ys a b = b
answers_more harts (x ∷ xs) ys a b = (a.0, answers_more harts xs ys a.1 b)

pub item_at : (harts : ℕ) (ms : List Made) (k : ℕ) (m : Made) → AreOfHarts harts ms → slice_get ms k ≡ Some m → IsOfHart harts m
item_at harts [] k m all at = cc
item_at harts (x ∷ ms) zero m all at = let same : x ≡ m = cc in subst (λ (y : Made). IsOfHart harts y) same all.0
item_at harts (x ∷ ms) (suc k) m all at = item_at harts ms k m all.1 at

answer_of : (harts tag : ℕ) (maker : Maker) (i : Item) (a : Acted) → IsOfHart harts (record { item = i; maker = maker }) → AreForHarts harts (due_for tag maker (answers_of i a))
answer_of harts tag maker (item.Load width off) a one =
    (record { hart = one.hart; value = a.value; maker_is = one.maker_is; answer_is = refl; exists = one.exists }, tt)
answer_of harts tag maker (item.Store width off value) a one = tt
answer_of harts tag maker (item.Target pages) a one = tt
answer_of harts tag maker item.Stats a one = tt
answer_of harts tag maker (item.Resize sectors) a one = tt

-- 3. Moves

own_dev : (harts : ℕ) (devs : ℕ → DeviceRun) (d : ℕ) (v : DeviceRun) → AreHartsOwn harts devs → IsHartsOwn harts v → AreHartsOwn harts (update devs d v)
own_dev harts devs d v all one j = update_elim devs d v j (IsHartsOwn harts) (λ _. one) (λ _. all j)

is_access : (how : Access) → IsAccess (item_of how)
is_access (access.Load width off) = tt
is_access (access.Store width off value) = tt

own_issued : (harts hart : ℕ) (seen : Shown) (s : State) → hart < harts → AreHartsOwn harts s.devs → AreHartsOwn harts (issued hart seen s).devs
own_issued harts hart shown.Nothing s exists all = all
own_issued harts hart (shown.Byte byte) s exists all = all
own_issued harts hart (shown.Finish finish) s exists all = all
own_issued harts hart (shown.Access d how) s exists all =
    let m : Made = record { item = item_of how; maker = Maker.Hart hart } in
    own_dev harts s.devs d (with_item (s.devs d) m) all (record {
      made = items_more harts (s.devs d).made m (all d).made (record { access = is_access how; hart = hart; maker_is = refl; exists = exists });
      due = (all d).due;
      replied = (all d).replied;
    })

own_took : (harts : ℕ) (s : State) (d : ℕ) (o : Option Made) → slice_get (s.devs d).made (s.devs d).acted ≡ o → AreHartsOwn harts s.devs → AreHartsOwn harts (took s d o).devs
own_took harts s d None at all = all
own_took harts s d (Some m) at all =
    let a : Acted = act_on (s.devs d) m in
    rw (devs_of_reached s (due_for (s.devs d).acted m.maker (answers_of m.item a)))
    (own_dev harts s.devs d (with_act (s.devs d) m a) all (record {
      made = (all d).made;
      due = answers_more harts (s.devs d).due (due_for (s.devs d).acted m.maker (answers_of m.item a)) (all d).due
          (answer_of harts (s.devs d).acted m.maker m.item a (item_at harts (s.devs d).made (s.devs d).acted m (all d).made at));
      replied = (all d).replied;
    }))

same_own : (harts : ℕ) (v w : DeviceRun) → w.made ≡ v.made → w.due ≡ v.due → w.replied ≡ v.replied → IsHartsOwn harts v → IsHartsOwn harts w
same_own harts v w m d r own = record { made = rw m own.made; due = rw d own.due; replied = rw r own.replied }

own_served : (harts : ℕ) (setup : Setup) (s : State) (d : ℕ) (n : Next DeviceState) → AreHartsOwn harts s.devs → AreHartsOwn harts (served setup s d n).devs
own_served harts setup s d (Rests state) all = all
own_served harts setup s d (Loses state) all = all
own_served harts setup s d (Asks action) all =
    let v : DeviceRun = with_phase (s.devs d) (Phase.Served (direct (device_in setup.devices d) d s.local s.withdrawn action).heard) in
    own_dev harts s.devs d v all (same_own harts (s.devs d) v refl refl refl (all d))

own_reply : (harts : ℕ) (s : State) (d : ℕ) (ws : List Due) → (s.devs d).due ≡ ws → AreHartsOwn harts s.devs
    → AreHartsOwn harts (put_dev (noted s d ws) d (with_reply (s.devs d) ws)).devs
own_reply harts s d [] due all = own_dev harts s.devs d (s.devs d) all (all d)
own_reply harts s d (w ∷ ws) due all = by_maker w.maker
  where
    own : IsHartsOwn harts (with_reply (s.devs d) (w ∷ ws))
    own =
        let answers : AreForHarts harts (w ∷ ws) = (let r = (all d).due in let q = rw due at r in q) in
        record {
          made = (all d).made;
          due = answers.1;
          replied = answers_more harts (s.devs d).replied (w ∷ []) (all d).replied (answers.0, tt);
        }

    by_maker : (maker : Maker) → AreHartsOwn harts (put_dev (noted s d (record { tag = w.tag; maker = maker; answer = w.answer } ∷ ws)) d (with_reply (s.devs d) (w ∷ ws))).devs
    by_maker (Maker.Hart h) = own_dev harts s.devs d (with_reply (s.devs d) (w ∷ ws)) all own
    by_maker (Maker.Line c) = own_dev harts s.devs d (with_reply (s.devs d) (w ∷ ws)) all own

own_landed : (harts : ℕ) (s : State) (d : ℕ) (ws : List Due) → (s.devs d).replied ≡ ws → AreHartsOwn harts s.devs → AreHartsOwn harts (landed s d ws).devs
own_landed harts s d [] replied all = all
own_landed harts s d (w ∷ ws) replied all = by_maker w.maker
  where
    v : DeviceRun
    v = record (s.devs d) { replied = ws }

    own : IsHartsOwn harts v
    own =
        let answers : AreForHarts harts (w ∷ ws) = (let r = (all d).replied in let q = rw replied at r in q) in
        record { made = (all d).made; due = (all d).due; replied = answers.1 }

    by_maker : (maker : Maker) → AreHartsOwn harts (landed s d (record { tag = w.tag; maker = maker; answer = w.answer } ∷ ws)).devs
    by_maker (Maker.Hart h) = own_dev harts s.devs d v all own
    by_maker (Maker.Line c) = own_dev harts s.devs d v all own

own_done : (setup : Setup) (s : State) (move : Move) → Can setup s move → AreHartsOwn setup.harts s.devs → AreHartsOwn setup.harts (done setup s move).devs
own_done setup s (made (entry.Hart hart)) can all = own_issued setup.harts hart (event_of s hart).2.shown (after_event setup s hart) can.exists all
own_done setup s (made (entry.Take d)) can all = own_took setup.harts s d (slice_get (s.devs d).made (s.devs d).acted) refl all
own_done setup s (made (entry.Send d)) can all =
    own_dev setup.harts s.devs d (with_phase (s.devs d) Phase.Sent) all (same_own setup.harts (s.devs d) (with_phase (s.devs d) Phase.Sent) refl refl refl (all d))
own_done setup s (made (entry.ServeMem d)) can all = own_served setup.harts setup s d (next_of (s.devs d)) all
own_done setup s (made (entry.ServeIrq d)) can all = own_served setup.harts setup s d (next_of (s.devs d)) all
own_done setup s (made (entry.Got d)) can all =
    own_dev setup.harts s.devs d (with_got (s.devs d)) all (same_own setup.harts (s.devs d) (with_got (s.devs d)) refl refl refl (all d))
own_done setup s (made (entry.Reply d)) can all = own_reply setup.harts s d (s.devs d).due refl all
own_done setup s (made (entry.Deliver d)) can all = own_landed setup.harts s d (s.devs d).replied refl all
own_done setup s (made (entry.Intend d)) can all =
    own_dev setup.harts s.devs d (with_phase (s.devs d) Phase.Intended) all (same_own setup.harts (s.devs d) (with_phase (s.devs d) Phase.Intended) refl refl refl (all d))
own_done setup s (made (entry.Did d heard)) can all =
    own_dev setup.harts s.devs d (with_heard (s.devs d) heard) all (same_own setup.harts (s.devs d) (with_heard (s.devs d) heard) refl refl refl (all d))
own_done setup s (made (entry.Tick n)) can all = all
own_done setup s (ended cause) can all = all

own_from : (setup : Setup) (s : State) (moves : List Move) → IsLegal setup s moves → AreHartsOwn setup.harts s.devs → AreHartsOwn setup.harts (after setup s moves).devs
own_from setup s [] legal all = all
own_from setup s (move ∷ moves) legal all = own_from setup (done setup s move) moves legal.1 (own_done setup s move legal.0 all)

-- each state of a legal run
pub own_after : (machine : Machine) (image : List ℕ) (moves : List Move) → IsLegal (setup_of machine) (first_state machine image) moves
    → AreHartsOwn machine.harts (after (setup_of machine) (first_state machine image) moves).devs
own_after machine image moves legal =
    own_from (setup_of machine) (first_state machine image) moves legal (λ d. record { made = tt; due = tt; replied = tt })
