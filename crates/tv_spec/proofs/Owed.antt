-- What is owed to entries that are to come, entry by entry, and the room for them.
use Rattle.std.proofs.Common.{◌≡◌, ◌≢◌, ℕ, suc, zero, ◌+◌, ◌<◌, ◌≤◌, ◌==◌, ◌⊎◌, inl, inr, Bool, true, false, if◌then◌else◌, List, [], ◌∷◌, ◌++◌, length, Option, Some, None, refl, ap, sym, ◌∙◌, arith}
use Rattle.std.proofs.lemmas.Bool.{le-leb}
use Rattle.std.proofs.lemmas.Bool.Decides.{eqb_tells, nat_tests}
use Rattle.tv_base.specs.declared.Access.{Access}
use Rattle.tv_base.specs.declared.Access.TheVariants as access
use Rattle.tv_items.specs.declared.action.Heard.{Heard}
use Rattle.tv_plan.specs.Devices.{DeviceState, Acted}
use Rattle.tv_script.specs.Services.{Next, Asks, Rests, Loses}
use Rattle.tv_journal.specs.declared.Entry.{Entry}
use Rattle.tv_journal.specs.declared.Entry.TheVariants as entry
use Rattle.tv_spec.specs.declared.Shown.{Shown}
use Rattle.tv_spec.specs.declared.Shown.TheVariants as shown
use Rattle.tv_spec.specs.Devices.{IsServed, act_on, answers_of, due_for, item_of, next_of, with_act, with_got, with_heard, with_item, with_phase, with_reply}
use Rattle.tv_spec.specs.Direct.{direct}
use Rattle.tv_journal.specs.Entries.{One, Record, Run, joined, record_count, records_of, run_joined}
use Rattle.tv_spec.specs.Room.{IsShortOfRoom, has_room, owed, owed_to_hart, owed_to_phase, sum_below}
use Rattle.tv_spec.specs.Setup.{Setup}
use Rattle.tv_spec.specs.Sound.{Sound, load_at, AreAwaited}
use Rattle.tv_spec.specs.declared.Made.{Made}
use Rattle.tv_spec.specs.declared.Maker.{Maker}
use Rattle.tv_spec.specs.declared.Answer.{Answer}
use Rattle.tv_spec.specs.declared.Due.{Due}
use Rattle.tv_spec.specs.declared.Phase.{Phase}
use Rattle.tv_spec.specs.declared.Pending.{Pending}
use Rattle.tv_spec.specs.State.{State, DeviceRun, device_in}
use Rattle.tv_spec.specs.Step.{made, Can, done, after_event, event_of, issued, pending_by, put_dev, reached, served, took_as}
use Rattle.tv_spec.specs.Update.{update}
use Rattle.tv_spec.proofs.Serving.{devs_of_reached}
use Rattle.tv_spec.proofs.Updates.{some_at, update_elim, update_same, update_other}

-- 1. Sums

sum_ext : (n : ℕ) (f g : ℕ → ℕ) → ((j : ℕ) → f j ≡ g j) → sum_below n f ≡ sum_below n g
unfolding sum_below
sum_ext zero f g each = refl
sum_ext (suc n) f g each = rw (sum_ext n f g each, each n) refl

-- a sum where one of its terms changes
sum_beside : {A : Type 0} → (n k : ℕ) (g : A → ℕ) (f : ℕ → A) (v : A) → n ≤ k → sum_below n (λ j. g (update f k v j)) ≡ sum_below n (λ j. g (f j))
unfolding sum_below
sum_beside zero k g f v h = refl
sum_beside (suc n) k g f v h =
    rw (update_other f k v n (λ e. absurd (omega arith)), sum_beside n k g f v (omega arith)) refl

sum_update : {A : Type 0} → (n k : ℕ) (g : A → ℕ) (f : ℕ → A) (v : A) → k < n
    → sum_below n (λ j. g (update f k v j)) + g (f k) ≡ sum_below n (λ j. g (f j)) + g v
unfolding sum_below
sum_update zero k g f v h = absurd (omega arith)
sum_update (suc n) k g f v h = elim (eqb_tells n k) [
  | inl e ↦ rw (← e.1, update_same f n v, sum_beside n n g f v (omega arith)) (omega arith)
  | inr e ↦ rw (update_other f k v n e.1) (let r : sum_below n (λ j. g (update f k v j)) + g (f k) ≡ sum_below n (λ j. g (f j)) + g v = sum_update n k g f v (let ne : n ≢ k = e.1 in omega arith) in omega arith)
]

-- 2. What is owed by the loads and by the phases

abbrev pub owed_loads : (ℕ → Option Pending) → ℕ
owed_loads pending = sum_below 8 (λ hart. owed_to_hart (pending hart))

abbrev pub owed_phases : (ℕ → DeviceRun) → ℕ
owed_phases devs = sum_below 8 (λ d. owed_to_phase (devs d).phase)

-- a device changes its phase
pub phases_changed : (devs : ℕ → DeviceRun) (d : ℕ) (v : DeviceRun) → d < 8
    → owed_phases (update devs d v) + owed_to_phase (devs d).phase ≡ owed_phases devs + owed_to_phase v.phase
phases_changed devs d v h = sum_update 8 d (λ (x : DeviceRun). owed_to_phase x.phase) devs v h

-- or keeps it
pub phases_kept : (devs : ℕ → DeviceRun) (d : ℕ) (v : DeviceRun) → v.phase ≡ (devs d).phase → owed_phases (update devs d v) ≡ owed_phases devs
phases_kept devs d v same =
    sum_ext 8 (λ j. owed_to_phase (update devs d v j).phase) (λ j. owed_to_phase (devs j).phase)
    (λ j. update_elim devs d v j (λ w. owed_to_phase w.phase ≡ owed_to_phase (devs j).phase) (λ e. rw (same, e) refl) (λ _. refl))

-- the load of a hart changes
pub loads_changed : (pending : ℕ → Option Pending) (k : ℕ) (v : Option Pending) → k < 8
    → owed_loads (update pending k v) + owed_to_hart (pending k) ≡ owed_loads pending + owed_to_hart v
loads_changed pending k v h = sum_update 8 k owed_to_hart pending v h

-- a machine has at most 8 harts and 8 devices
pub record IsSmall (setup : Setup) : Type 0 where
  pub harts : setup.harts ≤ 8
  pub devices : length setup.devices ≤ 8

-- a hart that waits is one of the machine
pub waiting_hart : (setup : Setup) (s : State) (h : ℕ) (p : Pending) → IsSmall setup → Sound setup s → s.pending h ≡ Some p → h < 8
waiting_hart setup s h p small S is = elim (lt_or_le h 8) [
  | inl below ↦ below
  | inr above ↦ let none : s.pending h ≡ None = S.few h (let most : setup.harts ≤ 8 = small.harts in omega arith) in cc
]
  where
    lt_or_le : (a b : ℕ) → (a < b) ⊎ (b ≤ a)
    lt_or_le a zero = inr (omega arith)
    lt_or_le zero (suc b) = inl (omega arith)
    lt_or_le (suc a) (suc b) = elim (lt_or_le a b) [ inl x ↦ inl (omega arith) | inr x ↦ inr (omega arith) ]

-- 3. Entry by entry

-- an event of a hart that waited for nothing
owed_issued : (s : State) (h : ℕ) (seen : Shown) → h < 8 → s.pending h ≡ None → owed (issued h seen s) ≤ owed s + 2
owed_issued s h shown.Nothing below none = omega arith
owed_issued s h (shown.Byte byte) below none = omega arith
owed_issued s h (shown.Finish finish) below none = omega arith
owed_issued s h (shown.Access d how) below none =
    let phases = phases_kept s.devs d (with_item (s.devs d) (record { item = item_of how; maker = Maker.Hart h })) refl in
    let loads = loads_changed s.pending h (pending_by d (length (s.devs d).made) how) below in
    let free : owed_to_hart (s.pending h) ≡ 0 = rw none refl in
    let two : owed_to_hart (pending_by d (length (s.devs d).made) how) ≤ 2 = most_two how in
    omega arith
  where
    most_two : (a : Access) → owed_to_hart (pending_by d (length (s.devs d).made) a) ≤ 2
    most_two (access.Load width off) = omega arith
    most_two (access.Store width off value) = omega arith

pub pending_of_reached : (s : State) (ws : List Due) → (reached s ws).pending ≡ s.pending
pending_of_reached s [] = refl
pending_of_reached s (w ∷ ws) = by_maker w.maker w.answer
  where
    by_maker : (maker : Maker) (answer : Answer) → (reached s (record { tag = w.tag; maker = maker; answer = answer } ∷ ws)).pending ≡ s.pending
    by_maker (Maker.Line c) answer = refl
    by_maker (Maker.Hart h) (Answer.Value v) = refl
    by_maker (Maker.Hart h) (Answer.Verdict v) = refl

pub owed_took : (s : State) (d : ℕ) (m : Made) (a : Acted) → (s.devs d).phase ≡ Phase.Quiet → owed (took_as s d m a) ≡ owed s
owed_took s d m a quiet =
    let ws : List Due = due_for (s.devs d).acted m.maker (answers_of m.item a) in
    rw (pending_of_reached s ws, devs_of_reached s ws, phases_kept s.devs d (with_act (s.devs d) m a) (sym quiet)) refl

-- a device's phase changes
pub owed_phase : (s : State) (d : ℕ) (v : DeviceRun) → d < 8 → owed (put_dev s d v) + owed_to_phase (s.devs d).phase ≡ owed s + owed_to_phase v.phase
owed_phase s d v below = let r = phases_changed s.devs d v below in omega arith

pub owed_served : (setup : Setup) (s : State) (d : ℕ) (n : Next DeviceState) → d < 8 → (s.devs d).phase ≡ Phase.Sent → owed (served setup s d n) ≡ owed s
owed_served setup s d (Rests state) below sent = refl
owed_served setup s d (Loses state) below sent = refl
owed_served setup s d (Asks action) below sent =
    let h : Heard = (direct (device_in setup.devices d) d s.local s.withdrawn action).heard in
    let r = phases_changed s.devs d (with_phase (s.devs d) (Phase.Served h)) below in
    let one : owed_to_phase (s.devs d).phase ≡ 1 = rw sent refl in
    omega arith

pub one_owed : (p : Phase) → IsServed p → owed_to_phase p ≡ 1
one_owed Phase.Quiet is = absurd is
one_owed Phase.Sent is = absurd is
one_owed (Phase.Served reply) is = refl
one_owed Phase.Intended is = absurd is

-- the Got that a request is owed, and the Did that an action is
pub owed_got : (setup : Setup) (s : State) (d : ℕ) → d < 8 → IsServed (s.devs d).phase → owed (done setup s (made (entry.Got d))) + 1 ≡ owed s
owed_got setup s d below is =
    let r = owed_phase s d (with_got (s.devs d)) below in let one = one_owed (s.devs d).phase is in omega arith

pub owed_did : (setup : Setup) (s : State) (d : ℕ) (heard : Heard) → d < 8 → (s.devs d).phase ≡ Phase.Intended → owed (done setup s (made (entry.Did d heard))) + 1 ≡ owed s
owed_did setup s d heard below is =
    let r = owed_phase s d (with_heard (s.devs d) heard) below in let one : owed_to_phase (s.devs d).phase ≡ 1 = rw is refl in omega arith

-- the Reply and the Deliver that a load is owed
pub owed_reply : (setup : Setup) (s : State) (d h tag : ℕ) (answer : Answer) (ws : List Due) → IsSmall setup → Sound setup s
    → (s.devs d).due ≡ record { tag = tag; maker = Maker.Hart h; answer = answer } ∷ ws → owed (done setup s (made (entry.Reply d))) + 1 ≡ owed s
owed_reply setup s d h tag answer ws small S is =
    let w : Due = record { tag = tag; maker = Maker.Hart h; answer = answer } in
    let l : AreAwaited s.pending d (s.devs d).acted false (w ∷ ws) = rw is at (S.due d) in
    let waits : s.pending h ≡ Some (load_at d tag false) = l.1 in
    let below : h < 8 = waiting_hart setup s h (load_at d tag false) small S waits in
    let r = loads_changed s.pending h (Some (load_at d tag true)) below in
    let two : owed_to_hart (s.pending h) ≡ 2 = rw waits refl in
    let phases = phases_kept s.devs d (with_reply (s.devs d) (w ∷ ws)) refl in
    rw is (omega arith)

pub owed_deliver : (setup : Setup) (s : State) (d h tag : ℕ) (answer : Answer) (ws : List Due) → IsSmall setup → Sound setup s
    → (s.devs d).replied ≡ record { tag = tag; maker = Maker.Hart h; answer = answer } ∷ ws → owed (done setup s (made (entry.Deliver d))) + 1 ≡ owed s
owed_deliver setup s d h tag answer ws small S is =
    let w : Due = record { tag = tag; maker = Maker.Hart h; answer = answer } in
    let l : AreAwaited s.pending d (s.devs d).acted true (w ∷ ws) = rw is at (S.replied d) in
    let waits : s.pending h ≡ Some (load_at d tag true) = l.1 in
    let below : h < 8 = waiting_hart setup s h (load_at d tag true) small S waits in
    let r = loads_changed s.pending h None below in
    let one : owed_to_hart (s.pending h) ≡ 1 = rw waits refl in
    let phases = phases_kept s.devs d (record (s.devs d) { replied = ws }) refl in
    rw is (omega arith)

-- any entry that may stand is owed at most two records more after it
pub owed_most : (setup : Setup) (s : State) (e : Entry) → IsSmall setup → Sound setup s → Can setup s (made e) → owed (done setup s (made e)) ≤ owed s + 2
owed_most setup s (entry.Hart h) small S can =
    owed_issued (after_event setup s h) h (event_of s h).2.shown (let most = small.harts in let exists = can.exists in omega arith) can.ready
owed_most setup s (entry.Take d) small S can =
    let x = some_at (s.devs d).made (s.devs d).acted can.2.more in
    let r = owed_took s d x.0 (act_on (s.devs d) x.0) can.2.quiet in
    rw x.1 (omega arith)
owed_most setup s (entry.Send d) small S can =
    let r = owed_phase s d (with_phase (s.devs d) Phase.Sent) (let most = small.devices in let exists = can.0 in omega arith) in omega arith
owed_most setup s (entry.ServeMem d) small S can =
    let r = owed_served setup s d (next_of (s.devs d)) (let most = small.devices in let exists = can.0 in omega arith) can.2.sent in omega arith
owed_most setup s (entry.ServeIrq d) small S can =
    let r = owed_served setup s d (next_of (s.devs d)) (let most = small.devices in let exists = can.0 in omega arith) can.2.sent in omega arith
owed_most setup s (entry.Got d) small S can =
    let r = owed_got setup s d (let most = small.devices in let exists = can.0 in omega arith) can.1 in omega arith
owed_most setup s (entry.Reply d) small S can = by_due (s.devs d).due refl can.1
  where
    by_maker : (maker : Maker) (tag : ℕ) (answer : Answer) (ws : List Due) → (s.devs d).due ≡ record { tag = tag; maker = maker; answer = answer } ∷ ws
        → owed (done setup s (made (entry.Reply d))) ≤ owed s + 2
    by_maker (Maker.Hart h) tag answer ws is = let r = owed_reply setup s d h tag answer ws small S is in omega arith
    by_maker (Maker.Line c) tag answer ws is =
        let phases = phases_kept s.devs d (with_reply (s.devs d) (record { tag = tag; maker = Maker.Line c; answer = answer } ∷ ws)) refl in rw is (omega arith)

    by_due : (ws : List Due) → (s.devs d).due ≡ ws → 0 < length (s.devs d).due → owed (done setup s (made (entry.Reply d))) ≤ owed s + 2
    by_due [] is some = absurd (let r = rw is at some in omega arith)
    by_due (w ∷ ws) is some = by_maker w.maker w.tag w.answer ws is
owed_most setup s (entry.Deliver d) small S can = by_due (s.devs d).replied refl can.1
  where
    by_maker : (maker : Maker) (tag : ℕ) (answer : Answer) (ws : List Due) → (s.devs d).replied ≡ record { tag = tag; maker = maker; answer = answer } ∷ ws
        → owed (done setup s (made (entry.Deliver d))) ≤ owed s + 2
    by_maker (Maker.Hart h) tag answer ws is = let r = owed_deliver setup s d h tag answer ws small S is in omega arith
    by_maker (Maker.Line c) tag answer ws is =
        let phases = phases_kept s.devs d (record (s.devs d) { replied = ws }) refl in rw is (omega arith)

    by_due : (ws : List Due) → (s.devs d).replied ≡ ws → 0 < length (s.devs d).replied → owed (done setup s (made (entry.Deliver d))) ≤ owed s + 2
    by_due [] is some = absurd (let r = rw is at some in omega arith)
    by_due (w ∷ ws) is some = by_maker w.maker w.tag w.answer ws is
owed_most setup s (entry.Intend d) small S can =
    let r = owed_phase s d (with_phase (s.devs d) Phase.Intended) (let most = small.devices in let exists = can.0 in omega arith) in omega arith
owed_most setup s (entry.Did d heard) small S can =
    let r = owed_did setup s d heard (let most = small.devices in let exists = can.0 in omega arith) can.1.intended in omega arith
owed_most setup s (entry.Tick n) small S can = omega arith

-- 4. Records

-- the hart of whose events the first record is a run, if it is one
first_run_of : List Record → Option ℕ
first_run_of (Run hart count ∷ records) = Some hart
first_run_of records = None

-- the hart of an event, if it is one
hart_of : Entry → Option ℕ
hart_of (entry.Hart hart) = Some hart
hart_of e = None

-- how many records an entry adds before records
grown : Entry → Option ℕ → ℕ
grown (entry.Hart hart) (Some other) = if hart == other then 0 else 1
grown e first = 1

grown_most : (e : Entry) (first : Option ℕ) → grown e first ≤ 1
unfolding grown
grown_most (entry.Hart hart) (Some other) = by_same (hart == other)
  where
    by_same : (b : Bool) → (if b then 0 else 1) ≤ 1
    by_same true = omega arith
    by_same false = omega arith
grown_most (entry.Hart hart) None = omega arith
grown_most e first = omega arith

length_run : (hart : ℕ) (records : List Record) → length (run_joined hart records) ≡ length records + grown (entry.Hart hart) (first_run_of records)
unfolding grown first_run_of
length_run hart [] = refl
length_run hart (One e ∷ records) = omega arith
length_run hart (Run other count ∷ records) = elim (eqb_tells hart other) [
  | inl same ↦ rw same.0 (omega arith)
  | inr apart ↦ rw apart.0 (omega arith)
]

length_joined : (e : Entry) (records : List Record) → length (joined e records) ≡ length records + grown e (first_run_of records)
unfolding grown
length_joined (entry.Hart hart) records = length_run hart records
length_joined e records = omega arith

first_run : (hart : ℕ) (records : List Record) → first_run_of (run_joined hart records) ≡ Some hart
unfolding first_run_of
first_run hart [] = refl
first_run hart (One e ∷ records) = refl
first_run hart (Run other count ∷ records) = elim (eqb_tells hart other) [
  | inl same ↦ rw same.0 (ap (λ (k : ℕ). Some k) (sym same.1))
  | inr apart ↦ rw apart.0 refl
]

first_joined : (e : Entry) (records : List Record) → first_run_of (joined e records) ≡ hart_of e
unfolding first_run_of hart_of
first_joined (entry.Hart hart) records = first_run hart records
first_joined e records = refl

grown_alone : (e : Entry) → grown e (first_run_of []) ≡ 1
unfolding grown first_run_of
grown_alone (entry.Hart hart) = refl
grown_alone e = refl

-- an entry more is at most a record more
pub records_more : (es : List Entry) (e : Entry) → record_count (es ++ e ∷ []) ≤ record_count es + 1
unfolding record_count records_of
records_more [] e = let r = length_joined e [] in let most = grown_most e (first_run_of []) in omega arith
records_more (x ∷ []) e =
    let r = length_joined x (joined e []) in
    let q = length_joined e [] in
    let s = length_joined x [] in
    let one = grown_most x (first_run_of (joined e [])) in
    let two = grown_most e (first_run_of []) in
    let none = grown_alone x in
    omega arith
records_more (x ∷ (y ∷ es)) e =
    let r = records_more (y ∷ es) e in
    let long = length_joined x (joined y (records_of (es ++ e ∷ []))) in
    let short = length_joined x (joined y (records_of es)) in
    let same : grown x (first_run_of (joined y (records_of (es ++ e ∷ [])))) ≡ grown x (first_run_of (joined y (records_of es))) =
    ap (grown x) (first_joined y (records_of (es ++ e ∷ [])) ∙ sym (first_joined y (records_of es))) in
    omega arith

-- where an entry that may stand finds no room, the journal is short of room
pub short_of_room : (room lines : ℕ) (setup : Setup) (s : State) (entries : List Entry) (e : Entry) → IsSmall setup → Sound setup s → Can setup s (made e)
    → has_room room setup s entries e ≡ false → IsShortOfRoom room lines s entries
short_of_room room lines setup s entries e small S can none =
    let records : record_count (entries ++ e ∷ []) ≤ record_count entries + 1 = records_more entries e in
    let most = owed_most setup s e small S can in
    let above : room < record_count (entries ++ e ∷ []) + owed (done setup s (made e)) = grind (arith, nat_tests, none) in
    omega arith

-- what an entry needs was owed, so it finds room
pub owed_finds_room : (room : ℕ) (setup : Setup) (s : State) (entries : List Entry) (e : Entry) → record_count entries + owed s ≤ room
    → owed (done setup s (made e)) + 1 ≡ owed s → has_room room setup s entries e ≡ true
owed_finds_room room setup s entries e fits less =
    let records : record_count (entries ++ e ∷ []) ≤ record_count entries + 1 = records_more entries e in
    le-leb (record_count (entries ++ e ∷ []) + owed (done setup s (made e))) room (omega arith)
