-- The room that the journal has for a load of a hart, with its Reply and its Deliver.
use Rattle.std.proofs.Common.{◌≡◌, ℕ, ◌+◌, ◌-◌, ◌≤◌, ◌&&◌, if◌then◌else◌, inl, inr, Bool, true, false, List, [], ◌∷◌, ◌++◌, length, refl, ap, sym, ◌∙◌, arith}
use Rattle.std.specs.Prelude.{nat_le}
use Rattle.std.proofs.lemmas.Bool.{false≢true, true≢false, le-leb, lt-leb, leb-true}
use Rattle.std.proofs.lemmas.Bool.Decides.{eqb_tells, leb_tells}
use Rattle.tv_journal.specs.declared.Entry.{Entry}
use Rattle.tv_journal.specs.declared.Entry.TheVariants as entry
use Rattle.tv_journal.specs.Entries.{One, Record, Run, joined, record_count, records_of}
use Rattle.tv_journal.specs.Journals.{JournalState, free_bytes, has_free, has_room, has_room_with, record_limit, reserved, with_reserved}
use Rattle.tv_journal.proofs.Kept.{payload-one}

-- 1. An entry more takes no record away

-- these records begin as those, and are no more
abbrev IsWithin : List Record → List Record → Type 0
IsWithin [] ss = Unit {0}
IsWithin (One x ∷ rs) (One y ∷ ss) = length rs ≤ length ss
IsWithin (Run a m ∷ rs) (Run b n ∷ ss) = (a ≡ b) × (length rs ≤ length ss)
IsWithin (One x ∷ rs) (Run b n ∷ ss) = ⊥
IsWithin (Run a m ∷ rs) (One y ∷ ss) = ⊥
IsWithin (r ∷ rs) [] = ⊥

within_length : (rs ss : List Record) → IsWithin rs ss → length rs ≤ length ss
within_length [] ss h = omega arith
within_length (One x ∷ rs) (One y ∷ ss) h = omega (arith, h)
within_length (Run a m ∷ rs) (Run b n ∷ ss) h = let less = h.1 in omega (arith, less)
within_length (One x ∷ rs) (Run b n ∷ ss) h = absurd h
within_length (Run a m ∷ rs) (One y ∷ ss) h = absurd h
within_length (One x ∷ rs) [] h = absurd h
within_length (Run a m ∷ rs) [] h = absurd h

joined_within : (e : Entry) (rs ss : List Record) → IsWithin rs ss → IsWithin (joined e rs) (joined e ss)
joined_within (entry.Hart hart) [] [] h = (refl, omega arith)
joined_within (entry.Hart hart) [] (One y ∷ ss) h = (refl, omega arith)
joined_within (entry.Hart hart) [] (Run b n ∷ ss) h = elim (eqb_tells hart b) [
  | inl same ↦ rw same.0 (same.1, omega arith)
  | inr other ↦ rw other.0 (refl, omega arith)
]
joined_within (entry.Hart hart) (One x ∷ rs) (One y ∷ ss) h = (refl, omega (arith, h))
joined_within (entry.Hart hart) (Run a m ∷ rs) (Run b n ∷ ss) h =
    rw (← h.0) (elim (eqb_tells hart a) [
      | inl same ↦ rw same.0 (refl, h.1)
      | inr other ↦ rw other.0 (refl, (let less = h.1 in omega (arith, less)))
    ])
joined_within (entry.Hart hart) (One x ∷ rs) (Run b n ∷ ss) h = absurd h
joined_within (entry.Hart hart) (Run a m ∷ rs) (One y ∷ ss) h = absurd h
joined_within (entry.Hart hart) (One x ∷ rs) [] h = absurd h
joined_within (entry.Hart hart) (Run a m ∷ rs) [] h = absurd h
joined_within e rs ss h = within_length rs ss h

records_within : (es : List Entry) (e : Entry) → IsWithin (records_of es) (records_of (es ++ e ∷ []))
unfolding records_of
records_within [] e = tt
records_within (x ∷ es) e = joined_within x (records_of es) (records_of (es ++ e ∷ [])) (records_within es e)

pub count_grows : (es : List Entry) (e : Entry) → record_count es ≤ record_count (es ++ e ∷ [])
unfolding record_count
count_grows es e = within_length (records_of es) (records_of (es ++ e ∷ [])) (records_within es e)

-- 2. Free room

and_true : (b : Bool) → (b && true) ≡ b
and_true true = refl
and_true false = refl

none_free : (journal : JournalState) → nat_le 0 (free_bytes journal) ≡ true
none_free journal = le-leb 0 (free_bytes journal) (omega arith)

-- records alone are asked for
pub free_records : (journal : JournalState) (records : ℕ) → has_free journal records 0 ≡ nat_le (record_count journal.entries + records) (record_limit journal)
free_records journal records = rw (none_free journal) (and_true (nat_le (record_count journal.entries + records) (record_limit journal)))

pub load_records : (journal : JournalState) (hart : ℕ)
    → has_room_with journal (entry.Hart hart) 2 0 ≡ nat_le (record_count (journal.entries ++ entry.Hart hart ∷ []) + 2) (record_limit journal)
load_records journal hart = rw (none_free journal) (and_true (nat_le (record_count (journal.entries ++ entry.Hart hart ∷ []) + 2) (record_limit journal)))

pub event_records : (journal : JournalState) (hart : ℕ)
    → has_room journal (entry.Hart hart) ≡ nat_le (record_count (journal.entries ++ entry.Hart hart ∷ [])) (record_limit journal)
event_records journal hart =
    rw (payload-one (entry.Hart hart), none_free journal) (and_true (nat_le (record_count (journal.entries ++ entry.Hart hart ∷ [])) (record_limit journal)))

-- a reserve that was made, and one that was not
pub reserved_true : (journal later : JournalState) (answer : Bool) → answer ≡ true → ◌≡◌ {A = Bool × JournalState} (answer, later) (reserved journal 2 0)
    → (has_free journal 2 0 ≡ true) × (later ≡ with_reserved journal 2 0)
reserved_true journal later answer yes_ is = by_test (has_free journal 2 0) refl (rw yes_ at is)
  where
    by_test : (b : Bool) → has_free journal 2 0 ≡ b → ◌≡◌ {A = Bool × JournalState} (true, later) (if b then (true, with_reserved journal 2 0) else (false, journal))
        → (has_free journal 2 0 ≡ true) × (later ≡ with_reserved journal 2 0)
    by_test true test same = (test, ap (λ (r : Bool × JournalState). r.1) same)
    by_test false test same = absurd (true≢false (ap (λ (r : Bool × JournalState). r.0) same))

pub reserved_false : (journal later : JournalState) (answer : Bool) → answer ≡ false → ◌≡◌ {A = Bool × JournalState} (answer, later) (reserved journal 2 0)
    → has_free journal 2 0 ≡ false
reserved_false journal later answer no_ is = by_test (has_free journal 2 0) refl (rw no_ at is)
  where
    by_test : (b : Bool) → has_free journal 2 0 ≡ b → ◌≡◌ {A = Bool × JournalState} (false, later) (if b then (true, with_reserved journal 2 0) else (false, journal))
        → has_free journal 2 0 ≡ false
    by_test true test same = absurd (false≢true (ap (λ (r : Bool × JournalState). r.0) same))
    by_test false test same = test

-- 3. The two answers

pub no_load_room : (journal later : JournalState) (hart : ℕ) (answer : Bool) → answer ≡ false → ◌≡◌ {A = Bool × JournalState} (answer, later) (reserved journal 2 0)
    → false ≡ has_room_with journal (entry.Hart hart) 2 0
no_load_room journal later hart answer no_ is =
    let none : nat_le (record_count journal.entries + 2) (record_limit journal) ≡ false = sym (free_records journal 2) ∙ reserved_false journal later answer no_ is in
    let grows = count_grows journal.entries (entry.Hart hart) in
    sym (load_records journal hart ∙ elim (leb_tells (record_count journal.entries + 2) (record_limit journal)) [
      | inl e ↦ absurd (false≢true (sym none ∙ e.0))
      | inr e ↦ lt-leb _ _ (let above = e.1 in omega (arith, grows, above))
    ])

pub load_room : (journal later : JournalState) (hart : ℕ) (answer room : Bool) → answer ≡ true → ◌≡◌ {A = Bool × JournalState} (answer, later) (reserved journal 2 0)
    → room ≡ has_room later (entry.Hart hart) → room ≡ has_room_with journal (entry.Hart hart) 2 0
load_room journal later hart answer room yes_ is room_is =
    let r = reserved_true journal later answer yes_ is in
    let some : record_count journal.entries + 2 ≤ record_limit journal = leb-true _ _ (sym (free_records journal 2) ∙ r.0) in
    room_is
    ∙ ap (λ (j : JournalState). has_room j (entry.Hart hart)) r.1
    ∙ event_records (with_reserved journal 2 0) hart
    ∙ same_test (record_count (journal.entries ++ entry.Hart hart ∷ [])) journal.record_room journal.reserved_records (omega (arith, some))
    ∙ sym (load_records journal hart)
  where
    same_test : (a all taken : ℕ) → 2 ≤ all - taken → nat_le a (all - (taken + 2)) ≡ nat_le (a + 2) (all - taken)
    same_test a all taken some = elim (leb_tells (a + 2) (all - taken)) [
      | inl e ↦ rw e.0 (le-leb a (all - (taken + 2)) (let f = e.1 in omega (arith, f, some)))
      | inr e ↦ rw e.0 (lt-leb a (all - (taken + 2)) (let f = e.1 in omega (arith, f, some)))
    ]
