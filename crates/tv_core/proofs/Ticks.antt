-- The call of the clock.
use Rattle.std.proofs.Common.{◌≡◌, ℕ, zero, suc, ◌+◌, ◌<◌, inl, inr, Bool, true, false, List, [], ◌∷◌, ◌++◌, map, take, drop, length, Option, Some, None, refl, ap, sym, ◌∙◌, subst, arith}
use Rattle.std.specs.Option.{is_some}
use Rattle.std.proofs.lemmas.Bool.Decides.{eqb_tells}
use Rattle.tv_base.specs.declared.Why.{Why}
use Rattle.tv_base.specs.declared.Why.TheVariants as why
use Rattle.tv_guest.specs.GuestState.{GuestState}
use Rattle.tv_journal.specs.declared.Entry.{Entry}
use Rattle.tv_journal.specs.declared.Entry.TheVariants as entry
use Rattle.tv_journal.specs.Entries.{One, Record, Run, joined, records_of}
use Rattle.tv_journal.specs.Journals.{JournalState, ends_with_tick, has_room, pushed}
use Rattle.tv_journal.specs.Stores.{tick_of}
use Rattle.tv_journal.proofs.Added.{last_after, last_after-none}
use Rattle.tv_spec.specs.declared.Mode.{Mode}
use Rattle.tv_spec.specs.declared.Mode.TheVariants as mode
use Rattle.tv_spec.specs.Legal.{after, with_outer}
use Rattle.tv_spec.specs.LocalState.{after_tick}
use Rattle.tv_spec.specs.Room.{owed}
use Rattle.tv_spec.specs.Setup.{Setup}
use Rattle.tv_spec.specs.State.{State}
use Rattle.tv_spec.specs.Step.{Can, IsOpen, Move, done, ended, is_tick, made}
use Rattle.tv_core.specs.Calls.{IsFull, NotTicked, TickedSo, has_room_in}
use Rattle.tv_core.specs.Holds.{Holds, Parts, seen}
use Rattle.tv_core.specs.Seen.{Seen, first_by, history, seat_of, setup_by, state_of}
use Rattle.tv_core.specs.Stands.{Stands}
use Rattle.tv_core.proofs.Ending.{end_holds}
use Rattle.tv_core.proofs.Entries.{entry_holds}
use Rattle.tv_core.proofs.Room.{room_alone}
use Rattle.tv_core.proofs.Takes.{is_with, pushed_false, pushed_true, ring_kept}

-- 1. Whether the last entry is a tick

-- whether the last of these entries is a tick; where there is none, as it was before them
abbrev last_ticks : Bool → List Entry → Bool
last_ticks before [] = before
last_ticks before (e ∷ es) = last_ticks (is_tick e) es

-- whether a record is a tick
abbrev record_ticks : Option Record → Bool
record_ticks found = is_some (tick_of found)

one_ticks : (e : Entry) → record_ticks (Some (One e)) ≡ is_tick e
one_ticks (entry.Tick n) = refl
one_ticks e = refl

-- how long a run is doesn't matter
longer_ticks : (hart m n : ℕ) (records : List Record)
    → record_ticks (last_after (Some (Run hart m)) records) ≡ record_ticks (last_after (Some (Run hart n)) records)
longer_ticks hart m n [] = refl
longer_ticks hart m n (x ∷ records) = refl

joined_ticks : (before : Option Record) (e : Entry) (records : List Record)
    → record_ticks (last_after before (joined e records)) ≡ record_ticks (last_after (Some (One e)) records)
joined_ticks before (entry.Hart hart) [] = refl
joined_ticks before (entry.Hart hart) (One y ∷ records) = refl
joined_ticks before (entry.Hart hart) (Run other count ∷ records) = elim (eqb_tells hart other) [
  | inl same ↦ rw same.0 (longer_ticks other (count + 1) count records)
  | inr apart ↦ rw apart.0 refl
]
joined_ticks before e records = refl

records_tick : (before : Option Record) (es : List Entry) → record_ticks (last_after before (records_of es)) ≡ last_ticks (record_ticks before) es
unfolding records_of
records_tick before [] = refl
records_tick before (e ∷ es) =
    joined_ticks before e (records_of es) ∙ records_tick (Some (One e)) es ∙ ap (λ (b : Bool). last_ticks b es) (one_ticks e)

entries_tick : (es : List Entry) → ends_with_tick es ≡ last_ticks false es
unfolding ends_with_tick
entries_tick es = ap record_ticks (sym (last_after-none (records_of es))) ∙ records_tick None es

-- 2. Whether the last entry of a history is a tick

-- the same of moves; an end that no entry made leaves it
abbrev moves_tick : Bool → List Move → Bool
moves_tick before [] = before
moves_tick before (made e ∷ moves) = moves_tick (is_tick e) moves
moves_tick before (ended cause ∷ moves) = moves_tick before moves

ticked_after : (setup : Setup) (s : State) (moves : List Move) → (after setup s moves).ticked ≡ moves_tick s.ticked moves
ticked_after setup s [] = refl
ticked_after setup s (made e ∷ moves) = ticked_after setup (done setup s (made e)) moves
ticked_after setup s (ended cause ∷ moves) = ticked_after setup (done setup s (ended cause)) moves

made_tick : (before : Bool) (es : List Entry) → moves_tick before (map made es) ≡ last_ticks before es
made_tick before [] = refl
made_tick before (e ∷ es) = made_tick (is_tick e) es

made_then : (before : Bool) (es : List Entry) (moves : List Move) → moves_tick before (map made es ++ moves) ≡ moves_tick (last_ticks before es) moves
made_then before [] moves = refl
made_then before (e ∷ es) moves = made_then (is_tick e) es moves

tick_split : (before : Bool) (n : ℕ) (es : List Entry) → last_ticks (last_ticks before (take n es)) (drop n es) ≡ last_ticks before es
tick_split before zero es = refl
tick_split before (suc n) [] = refl
tick_split before (suc n) (e ∷ es) = tick_split (is_tick e) n es

outer_tick : (es : List Entry) (outer : Option (ℕ × Why)) → moves_tick false (with_outer es outer) ≡ last_ticks false es
outer_tick es None = made_tick false es
outer_tick es (Some (place, cause)) =
    made_then false (take place es) (ended cause ∷ map made (drop place es)) ∙ made_tick (last_ticks false (take place es)) (drop place es) ∙ tick_split false place es

pub ticked_is : (p : Parts) → (state_of (seen p)).ticked ≡ ends_with_tick p.journal.entries
ticked_is p =
    ticked_after (setup_by (seen p)) (first_by (seen p)) (history (seen p)) ∙ outer_tick p.journal.entries p.journal.outer ∙ sym (entries_tick p.journal.entries)

-- 3. The call

is_running : (m : Mode) → IsOpen m → m ≡ mode.Running
is_running (mode.Ending cause) is_open = absurd is_open
is_running mode.Running is_open = refl

can_tick : (p : Parts) (n : ℕ) → 0 < n → IsOpen (state_of (seen p)).mode → ends_with_tick p.journal.entries ≡ false
    → Can (setup_by (seen p)) (state_of (seen p)) (made (entry.Tick n))
can_tick p n some is_open first = record {
  running = is_running (state_of (seen p)).mode is_open;
  first = ticked_is p ∙ first;
  some = some;
}

-- a tick leaves what is owed, so where the journal has room for it, there is room for all that is owed after it
tick_room : (p : Parts) (n : ℕ) → Holds p → has_room p.journal (entry.Tick n) ≡ has_room_in (seen p) (entry.Tick n)
tick_room p n H =
    room_alone p.journal (entry.Tick n) p.machine.journal_entries (owed (state_of (seen p))) H.record_room H.stands.reserved_is (let h = H.room in omega (arith, h)) refl

tick_stands : (p : Parts) (n : ℕ) → Holds p
    → Stands p.machine.tube (record p.guest { local = after_tick p.guest.local n }) p.grants.withdrawn p.sides p.waits p.journal.reserved_records
    (done (setup_by (seen p)) (state_of (seen p)) (made (entry.Tick n)))
tick_stands p n H = let T = H.stands in record {
  local_is = rw T.local_is refl;
  withdrawn_is = T.withdrawn_is;
  mode_is = T.mode_is;
  events_are = T.events_are;
  each_hart = T.each_hart;
  each_side = T.each_side;
  each_wait = T.each_wait;
  flags = T.flags;
  each_flag = T.each_flag;
  reserved_is = T.reserved_is;
}

pub ticked_call : (p : Parts) (n : ℕ) (guest : GuestState) (later : JournalState) (added : Bool)
    → Holds p → 0 < n → IsOpen (state_of (seen p)).mode → ends_with_tick p.journal.entries ≡ false
    → added ≡ true → ◌≡◌ {A = Bool × JournalState} (added, later) (pushed p.journal (entry.Tick n)) → guest ≡ record p.guest { local = after_tick p.guest.local n }
    → Holds (record p { guest = guest; journal = later }) × TickedSo (seen p) (seen (record p { guest = guest; journal = later })) n true
ticked_call p n guest later added H some is_open first yes_ push guest_is =
    let can = can_tick p n some is_open first in
    let pushed_so = pushed_true p.journal later (entry.Tick n) added yes_ push in
    let reserved : later.reserved_records ≡ p.journal.reserved_records = rw pushed_so.1 refl in
    rw guest_is (
      entry_holds p (entry.Tick n) (record p.guest { local = after_tick p.guest.local n }) p.grants p.sides p.waits p.ring later H can
          (is_with p.journal later (entry.Tick n) pushed_so.1) (record { harts = refl; steps = refl; slots = refl; theirs = H.theirs })
          (rw reserved (tick_stands p n H)) (ring_kept p H) (sym (tick_room p n H) ∙ pushed_so.0),
      (can.running, can.first, rw pushed_so.1 refl),
    )

-- the journal has no room, and the run ends
pub full_tick : (p : Parts) (n seat : ℕ) (guest : GuestState) (pushed_to ended_in : JournalState) (added : Bool)
    → Holds p → 0 < n → IsOpen (state_of (seen p)).mode → ends_with_tick p.journal.entries ≡ false
    → added ≡ false → ◌≡◌ {A = Bool × JournalState} (added, pushed_to) (pushed p.journal (entry.Tick n))
    → guest ≡ record p.guest { mode = mode.Ending why.Full } → ended_in ≡ record pushed_to { outer = Some (length pushed_to.entries, why.Full) }
    → seat ≡ seat_of p.machine (entry.Tick n)
    → Holds (record p { guest = guest; journal = ended_in; seat = seat })
    × TickedSo (seen p) (seen (record p { guest = guest; journal = ended_in; seat = seat })) n false
full_tick p n seat guest pushed_to ended_in added H some is_open first no_ push guest_is ended_is seat_is =
    let can = can_tick p n some is_open first in
    let pushed_so = pushed_false p.journal pushed_to (entry.Tick n) added no_ push in
    rw (guest_is, ended_is, seat_is, pushed_so.1) (
      end_holds p why.Full (seat_of p.machine (entry.Tick n)) H is_open (λ e. cc),
      not_ticked (state_of (seen p)).mode (state_of (seen p)).ticked can.running can.first (record {
        may = can;
        is_open = is_open;
        wanting = sym (tick_room p n H) ∙ pushed_so.0;
        new_is = refl;
      }),
    )
  where
    not_ticked : (m : Mode) (b : Bool) {new : Seen} → m ≡ mode.Running → b ≡ false → IsFull (seen p) new (entry.Tick n) → NotTicked m b (seen p) new n
    not_ticked m b running first full = rw (running, first) full

-- the run had ended, or the last entry is a tick
pub over_tick : (p : Parts) (start : Seen) (n : ℕ) → Holds p → (IsOpen p.guest.mode → ⊥) → seen p ≡ start → TickedSo start start n false
over_tick p start n H over is =
    subst (λ (s : Seen). TickedSo s s n false) is
    (stays (state_of (seen p)).mode (state_of (seen p)).ticked (λ o. over (subst (λ (m : Mode). IsOpen m) H.stands.mode_is o)))
  where
    stays : (m : Mode) (b : Bool) → (IsOpen m → ⊥) → NotTicked m b (seen p) (seen p) n
    stays (mode.Ending cause) b over = refl
    stays mode.Running b over = absurd (over tt)

pub again_tick : (p : Parts) (start : Seen) (n : ℕ) → ends_with_tick p.journal.entries ≡ true → seen p ≡ start → TickedSo start start n false
again_tick p start n last is =
    subst (λ (s : Seen). TickedSo s s n false) is (stays (state_of (seen p)).mode (state_of (seen p)).ticked (ticked_is p ∙ last))
  where
    stays : (m : Mode) (b : Bool) → b ≡ true → NotTicked m b (seen p) (seen p) n
    stays (mode.Ending cause) b is = refl
    stays mode.Running b is = rw is refl

-- the same, where what was seen before has another name
pub ticked_as : (before old new : Seen) (n : ℕ) (added : Bool) → before ≡ old → TickedSo before new n added → TickedSo old new n added
ticked_as before old new n added is so = subst (λ (s : Seen). TickedSo s new n added) is so
