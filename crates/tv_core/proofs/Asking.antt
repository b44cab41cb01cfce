-- What the call that makes a burst knows before it, and what follows from that, as the call has its values.
use Rattle.std.proofs.Common.{◌≡◌, ◌≢◌, ◌⊎◌, ℕ, ◌<◌, ◌≤◌, ◌++◌, inl, inr, List, Bool, true, false, get_or, length, replicate, ap, ◌∙◌, subst, arith}
use Rattle.circular_buffer.specs.Buffer.{Buffer, buffer}
use Rattle.tv_guest.specs.Burst.{IsBurstOf}
use Rattle.tv_guest.specs.GuestState.{GuestState}
use Rattle.tv_guest.specs.Looks.{LooksSo}
use Rattle.tv_journal.specs.declared.Entry.TheVariants as entry
use Rattle.tv_journal.specs.Journals.{JournalState, has_room, has_room_with, pushed_all}
use Rattle.tv_side.specs.Sides.{SideState, new_side}
use Rattle.tv_spec.specs.declared.Closed.{Closed}
use Rattle.tv_spec.specs.declared.Shown.{Shown}
use Rattle.tv_spec.specs.Shows.{byte_shown}
use Rattle.tv_spec.specs.Step.{IsOpen}
use Rattle.tv_core.specs.Bursts.{AreGates, FindsByte, FindsRoom, FindsSide, IsMadeBy, IssuesSo, is_held_up, journal_by, waits_by}
use Rattle.tv_core.specs.Holds.{Holds, Parts, seen}
use Rattle.tv_core.specs.Seen.{setup_by, state_of}
use Rattle.tv_core.proofs.Bursting.{IsAfter, made_holds, made_so}
use Rattle.tv_core.proofs.Halting.{IsReady, MadeNone, is_ready}
use Rattle.tv_core.proofs.Showing.{IsLastShown, MadeSome, finds_byte, finds_room, finds_side, last_shown, pushed_events}
use Rattle.tv_core.proofs.Stopping.{hosts, open_free}
use Rattle.tv_core.proofs.Takes.{open_since}

-- 1. Before the burst

pub ready_call : (p : Parts) (hart number slot : ℕ) (over : Bool) → Holds p → hart < p.machine.harts → number ≡ hart → number < 8 → slot ≡ number
    → over ≡ false → ((IsOpen p.guest.mode → ⊥) → over ≡ true) → get_or p.waits slot false ≡ false → IsReady p hart
ready_call p hart number slot over H exists number_is bound slot_is no_ ends free =
    is_ready p hart H exists (subst (λ (n : ℕ). n < 8) number_is bound) (open_since p over H no_ ends)
    (subst (λ (n : ℕ). get_or p.waits n false ≡ false) (slot_is ∙ number_is) free)

-- all events were asked for that the caller asked for, or none, as the journal has room for one
pub record IsAsked (p : Parts) (hart most asked : ℕ) (room : Bool) (closed : Closed) : Type 0 where
  pub ready : IsReady p hart
  pub asks : ((asked ≡ most) × (has_room p.journal (entry.Hart hart) ≡ true)) ⊎ ((asked ≡ 0) × (has_room p.journal (entry.Hart hart) ≡ false))
  pub room_is : room ≡ has_room_with p.journal (entry.Hart hart) 2 0
  pub gates : AreGates p.ring.items p.sides room closed

-- 2. Behind it

pub asked_none : (p : Parts) (hart most asked count : ℕ) (room : Bool) (closed : Closed) (guest : GuestState) (what looked : Shown) → IsAsked p hart most asked room closed → 0 < most
    → IsBurstOf p.guest guest hart asked closed count what → count ≡ 0 → LooksSo guest hart looked → MadeNone p hart asked room closed guest looked
asked_none p hart most asked count room closed guest what looked A some burst none looks = record {
  asks = elim A.asks [
    | inl e ↦ inl (rw e.0 some)
    | inr e ↦ inr e.1
  ];
  room_is = A.room_is;
  gates = A.gates;
  last = what;
  burst = subst (λ (n : ℕ). IsBurstOf p.guest guest hart asked closed n what) none burst;
  looks = looks;
}

pub asked_few : (p : Parts) (hart most asked count : ℕ) (room : Bool) (closed : Closed) (next : GuestState) (what : Shown) → IsAsked p hart most asked room closed
    → IsBurstOf p.guest next hart asked closed count what → count ≤ most
asked_few p hart most asked count room closed next what A burst =
    let few = burst.few in
    elim A.asks [
      | inl e ↦ (let all = e.0 in omega (arith, few, all))
      | inr e ↦ (let none = e.0 in omega (arith, few, none))
    ]

asked_some : (p : Parts) (hart most asked count : ℕ) (room : Bool) (closed : Closed) (next : GuestState) (what : Shown) → IsAsked p hart most asked room closed
    → IsBurstOf p.guest next hart asked closed count what → count ≢ 0 → MadeSome p hart count room closed what
asked_some p hart most asked count room closed next what A burst some = record {
  some = some;
  own = (let few = burst.few in elim A.asks [
    | inl e ↦ e.1
    | inr e ↦ (let none = e.0 in absurd (omega (arith, few, none, some)))
  ]);
  room_is = A.room_is;
  gates = A.gates;
  later = burst.later;
  local = next.local;
  now = next.mode;
  burst = burst.burst (setup_by (seen p)) (state_of (seen p)) (hosts p hart A.ready.holds A.ready.exists A.ready.free);
}

-- what the last event showed is not full
free_shown : (p : Parts) (room : Bool) (closed : Closed) (what : Shown) (none : SideState) → AreGates p.ring.items p.sides room closed → IsLastShown p closed what
    → is_held_up p.ring.items p.sides none what ≡ false
free_shown p room closed what none gates last = open_free p.ring.items p.sides room closed none what gates last.there last.open_

pub byte_call : (p : Parts) (hart most asked count : ℕ) (room : Bool) (closed : Closed) (next : GuestState) (what : Shown) → IsAsked p hart most asked room closed
    → IsBurstOf p.guest next hart asked closed count what → count ≢ 0 → FindsByte (length p.ring.items) p.ring.capacity what
byte_call p hart most asked count room closed next what A burst some =
    let last = last_shown p hart count room closed what A.ready (asked_some p hart most asked count room closed next what A burst some) in
    finds_byte p closed what (new_side 0) A.ready.holds (free_shown p room closed what (new_side 0) A.gates last)

pub side_call : (p : Parts) (hart most asked count : ℕ) (room : Bool) (closed : Closed) (next : GuestState) (what : Shown) → IsAsked p hart most asked room closed
    → IsBurstOf p.guest next hart asked closed count what → count ≢ 0 → FindsSide hart p.sides what
side_call p hart most asked count room closed next what A burst some =
    let last = last_shown p hart count room closed what A.ready (asked_some p hart most asked count room closed next what A burst some) in
    finds_side p hart closed what A.ready last (λ none. free_shown p room closed what none A.gates last)

pushed_call : (p : Parts) (hart count : ℕ) (room : Bool) (closed : Closed) (what : Shown) (journal pushed : JournalState) (added : Bool) → MadeSome p hart count room closed what
    → journal ≡ p.journal → ◌≡◌ {A = Bool × JournalState} (added, pushed) (pushed_all journal (replicate count (entry.Hart hart)))
    → pushed ≡ record p.journal { entries = p.journal.entries ++ replicate count (entry.Hart hart) }
pushed_call p hart count room closed what journal pushed added M same push =
    pushed_events p hart count room closed what pushed added M (push ∙ ap (λ (j : JournalState). pushed_all j (replicate count (entry.Hart hart))) same)

pub room_call : (p : Parts) (hart most asked count : ℕ) (room : Bool) (closed : Closed) (next : GuestState) (what : Shown) (journal pushed : JournalState) (added : Bool)
    → IsAsked p hart most asked room closed → IsBurstOf p.guest next hart asked closed count what → count ≢ 0
    → journal ≡ p.journal → ◌≡◌ {A = Bool × JournalState} (added, pushed) (pushed_all journal (replicate count (entry.Hart hart))) → FindsRoom pushed what
room_call p hart most asked count room closed next what journal pushed added A burst some same push =
    let M = asked_some p hart most asked count room closed next what A burst some in
    rw (pushed_call p hart count room closed what journal pushed added M same push)
    (finds_room p hart count room closed what M (last_shown p hart count room closed what A.ready M))

-- 3. Events were made

pub made_call : (p : Parts) (hart most asked count : ℕ) (room : Bool) (closed : Closed) (next : GuestState) (what : Shown) (journal pushed later : JournalState) (added : Bool)
    (sides : List SideState) (flags : List Bool) (ring : Buffer ℕ)
    → IsAsked p hart most asked room closed → IsBurstOf p.guest next hart asked closed count what → count ≢ 0
    → journal ≡ p.journal → ◌≡◌ {A = Bool × JournalState} (added, pushed) (pushed_all journal (replicate count (entry.Hart hart)))
    → ring ≡ buffer (p.ring.items ++ byte_shown what) p.ring.capacity → IssuesSo hart what p.sides sides → flags ≡ waits_by hart what p.waits → later ≡ journal_by what pushed
    → let q : Parts = record p { guest = next; sides = sides; waits = flags; ring = ring; journal = later } in Holds q × IsMadeBy (seen p) (seen q) hart most count
made_call p hart most asked count room closed next what journal pushed later added sides flags ring A burst some same push ring_is issues flags_are later_is =
    let M = asked_some p hart most asked count room closed next what A burst some in
    let F : IsAfter p hart count what sides flags ring pushed later = record {
      pushed_is = pushed_call p hart count room closed what journal pushed added M same push;
      ring_is = ring_is;
      issues = issues;
      flags_are = flags_are;
      later_is = later_is;
    } in (
      made_holds p hart asked count room closed what next sides flags ring pushed later A.ready M burst F,
      made_so p hart most count room closed what next sides flags ring pushed later A.ready M (asked_few p hart most asked count room closed next what A burst) F,
    )
