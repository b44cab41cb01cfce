-- The room of the journal, and how many entries there can be.
use Rattle.std.proofs.Common.{◌≡◌, ℕ, zero, suc, ◌+◌, ◌-◌, ◌/◌, ◌<◌, ◌≤◌, ◌^◌, ◌&&◌, inl, inr, Bool, true, false, List, [], ◌∷◌, ◌++◌, length, map, take, drop, Option, Some, None, refl, ap, ◌∙◌, arith, length-append}
use Rattle.std.specs.Prelude.{nat_le}
use Rattle.std.proofs.lemmas.Bool.{le-leb, lt-leb}
use Rattle.std.proofs.lemmas.Bool.Decides.{eqb_tells, leb_tells}
use Rattle.tv_base.specs.declared.Why.{Why}
use Rattle.tv_base.specs.declared.limits.TheConstants.{PAGE_BYTES}
use Rattle.tv_journal.specs.declared.Entry.{Entry}
use Rattle.tv_journal.specs.declared.Entry.TheVariants as entry
use Rattle.tv_journal.specs.Entries.{One, Record, Run, joined, payload_bytes, payload_in, record_count, records_of, run_joined}
use Rattle.tv_journal.specs.Journals.{JournalState, has_room, records_for}
use Rattle.tv_spec.specs.Devices.{next_of}
use Rattle.tv_spec.specs.Legal.{after, with_outer}
use Rattle.tv_spec.specs.Setup.{Setup}
use Rattle.tv_spec.specs.State.{State}
use Rattle.tv_spec.specs.Step.{Move, made, ended, after_event, done, event_of}
use Rattle.std.specs.List.{slice_get}
use Rattle.tv_spec.proofs.Rest.{beside_issued, beside_landed, beside_noted, beside_took, events_served}
use Rattle.tv_spec.proofs.Valid.{HasRun, valid_run}
use Rattle.tv_core.specs.Holds.{Holds, Parts, seen}
use Rattle.tv_core.specs.Seen.{first_by, history, setup_by, state_of}

-- 1. Records

-- an entry that is no event of a hart
abbrev pub IsNoEvent : Entry → Type 0
IsNoEvent (entry.Hart hart) = ⊥
IsNoEvent _ = Unit {0}

joined_front : (x : Entry) (records : List Record) (e : Entry) → joined x (records ++ One e ∷ []) ≡ joined x records ++ One e ∷ []
joined_front (entry.Hart hart) [] e = refl
joined_front (entry.Hart hart) (One y ∷ records) e = refl
joined_front (entry.Hart hart) (Run other count ∷ records) e = elim (eqb_tells hart other) [
  | inl same ↦ rw same.0 refl
  | inr apart ↦ rw apart.0 refl
]
joined_front x records e = refl

joined_alone : (e : Entry) → IsNoEvent e → joined e [] ≡ One e ∷ []
joined_alone (entry.Hart hart) none = absurd none
joined_alone e none = refl

-- it is a record of its own
records_alone : (es : List Entry) (e : Entry) → IsNoEvent e → records_of (es ++ e ∷ []) ≡ records_of es ++ One e ∷ []
unfolding records_of
records_alone [] e none = joined_alone e none
records_alone (x ∷ es) e none = ap (joined x) (records_alone es e none) ∙ joined_front x (records_of es) e

pub count_alone : (es : List Entry) (e : Entry) → IsNoEvent e → record_count (es ++ e ∷ []) ≡ record_count es + 1
unfolding record_count
count_alone es e none = rw (records_alone es e none, length-append (records_of es) (One e ∷ [])) refl

pub records_for_alone : (journal : JournalState) (e : Entry) → IsNoEvent e → records_for journal e ≡ 1
records_for_alone journal e none = rw (count_alone journal.entries e none) (omega arith)

-- 2. Free room

pub test_same : (a r room : ℕ) → r ≤ room → nat_le a (room - r) ≡ nat_le (a + r) room
test_same a r room within = elim (leb_tells (a + r) room) [
  | inl e ↦ rw e.0 (le-leb a (room - r) (let f = e.1 in omega arith))
  | inr e ↦ rw e.0 (lt-leb a (room - r) (let f = e.1 in omega arith))
]

payload_one : (e : Entry) → payload_in e ≡ 0 → payload_bytes (e ∷ []) ≡ 0
unfolding payload_bytes
payload_one e none = rw none refl

-- whether the journal has free room for an entry without payload after which no more is owed than before it
pub room_alone : (journal : JournalState) (e : Entry) (room owes : ℕ) → journal.record_room ≡ room → journal.reserved_records ≡ owes → owes ≤ room → payload_in e ≡ 0
    → has_room journal e ≡ nat_le (record_count (journal.entries ++ e ∷ []) + owes) room
room_alone journal e room owes is owes_is within none =
    let free : nat_le 0 (journal.payload_room - (payload_bytes journal.entries + journal.reserved_bytes)) ≡ true = le-leb _ _ (omega arith) in
    rw (payload_one e none, free, is, owes_is, test_same (record_count (journal.entries ++ e ∷ [])) owes room within) (and_true _)
  where
    and_true : (b : Bool) → (b && true) ≡ b
    and_true true = refl
    and_true false = refl

-- 3. Entries

abbrev events_in : List Entry → ℕ
events_in [] = 0
events_in (entry.Hart hart ∷ es) = suc (events_in es)
events_in (e ∷ es) = events_in es

run_grows : (hart : ℕ) (records : List Record) → length records ≤ length (run_joined hart records)
run_grows hart [] = omega arith
run_grows hart (One e ∷ records) = omega arith
run_grows hart (Run other count ∷ records) = elim (eqb_tells hart other) [
  | inl same ↦ rw same.0 (omega arith)
  | inr apart ↦ rw apart.0 (omega arith)
]

entries_counted : (es : List Entry) → length es ≤ events_in es + record_count es
unfolding record_count records_of
entries_counted [] = omega arith
entries_counted (e ∷ es) = by_kind e (entries_counted es)
  where
    by_kind : (x : Entry) → length es ≤ events_in es + length (records_of es) → length (x ∷ es) ≤ events_in (x ∷ es) + length (joined x (records_of es))
    by_kind (entry.Hart hart) h = let r = run_grows hart (records_of es) in omega arith
    by_kind x h = omega arith

-- the events of moves
abbrev pub event_count : Move → ℕ
event_count (made (entry.Hart hart)) = 1
event_count move = 0

abbrev move_events : List Move → ℕ
move_events [] = 0
move_events (move ∷ moves) = event_count move + move_events moves

pub events_done : (setup : Setup) (s : State) (move : Move) → (done setup s move).events ≡ s.events + event_count move
events_done setup s (made (entry.Hart hart)) = (beside_issued hart (event_of s hart).2.shown (after_event setup s hart)).events_are
events_done setup s (made (entry.Take d)) = let r = (beside_took s d (slice_get (s.devs d).made (s.devs d).acted)).events_are in omega (arith, r)
events_done setup s (made (entry.Send d)) = omega arith
events_done setup s (made (entry.ServeMem d)) = let r = events_served setup s d (next_of (s.devs d)) in omega (arith, r)
events_done setup s (made (entry.ServeIrq d)) = let r = events_served setup s d (next_of (s.devs d)) in omega (arith, r)
events_done setup s (made (entry.Got d)) = omega arith
events_done setup s (made (entry.Reply d)) = let r = (beside_noted s d (s.devs d).due).events_are in omega (arith, r)
events_done setup s (made (entry.Deliver d)) = let r = (beside_landed s d (s.devs d).replied).events_are in omega (arith, r)
events_done setup s (made (entry.Intend d)) = omega arith
events_done setup s (made (entry.Did d heard)) = omega arith
events_done setup s (made (entry.Tick n)) = omega arith
events_done setup s (ended cause) = omega arith

events_after : (setup : Setup) (s : State) (moves : List Move) → (after setup s moves).events ≡ s.events + move_events moves
events_after setup s [] = omega arith
events_after setup s (move ∷ moves) =
    let r = events_after setup (done setup s move) moves in let q = events_done setup s move in omega (arith, r, q)

events_made : (es : List Entry) → move_events (map made es) ≡ events_in es
events_made [] = refl
events_made (e ∷ es) = by_kind e (events_made es)
  where
    by_kind : (x : Entry) → move_events (map made es) ≡ events_in es → move_events (map made (x ∷ es)) ≡ events_in (x ∷ es)
    by_kind (entry.Hart hart) h = omega arith
    by_kind x h = omega arith

events_joined : (xs ys : List Move) → move_events (xs ++ ys) ≡ move_events xs + move_events ys
events_joined [] ys = omega arith
events_joined (x ∷ xs) ys = let r = events_joined xs ys in omega arith

events_split : (n : ℕ) (es : List Entry) → events_in (take n es) + events_in (drop n es) ≡ events_in es
events_split zero es = omega arith
events_split (suc n) [] = refl
events_split (suc n) (e ∷ es) = by_kind e (events_split n es)
  where
    by_kind : (x : Entry) → events_in (take n es) + events_in (drop n es) ≡ events_in es → events_in (x ∷ take n es) + events_in (drop n es) ≡ events_in (x ∷ es)
    by_kind (entry.Hart hart) h = omega arith
    by_kind x h = h

events_outer : (es : List Entry) (outer : Option (ℕ × Why)) → move_events (with_outer es outer) ≡ events_in es
events_outer es None = events_made es
events_outer es (Some (k, cause)) =
    let joined = events_joined (map made (take k es)) (ended cause ∷ map made (drop k es)) in
    let front = events_made (take k es) in
    let back = events_made (drop k es) in
    let all = events_split k es in
    omega (arith, joined, front, back, all)

-- what each state of a legal run has
pub run_of : (p : Parts) → Holds p → HasRun (setup_by (seen p)) p.machine.ram (p.machine.ram / PAGE_BYTES) (state_of (seen p))
run_of p H = valid_run p.machine p.image (history (seen p)) H.valid H.fits H.legal

pub entries_few : (p : Parts) → Holds p → length p.journal.entries < 2 ^ 27
entries_few p H =
    let counted = entries_counted p.journal.entries in
    let outer = events_outer p.journal.entries p.journal.outer in
    let after_all = events_after (setup_by (seen p)) (first_by (seen p)) (history (seen p)) in
    let most = (run_of p H).bounded.events in
    let steps = H.valid.steps.1 in
    let records = H.valid.journal_entries.1 in
    let room = H.room in
    omega (arith, counted, outer, after_all, most, steps, records, room)
