-- A turn of a hart in the schedule, by what its events come to: so many are made, and then one finds no room or the hart makes none.
use Rattle.std.proofs.Common.{◌≡◌, ◌≢◌, ℕ, zero, suc, ◌+◌, ◌<◌, ◌≤◌, Bool, true, false, List, [], ◌∷◌, ◌++◌, replicate, Option, Some, None, refl, ap, sym, ◌∙◌, subst, append_assoc, arith}
use Rattle.std.proofs.lemmas.Bool.{le-leb}
use Rattle.tv_guest.specs.Burst.{events_of}
use Rattle.tv_hart.specs.declared.Did.{Did}
use Rattle.tv_hart.specs.declared.Did.TheVariants as did
use Rattle.tv_journal.specs.declared.Entry.{Entry}
use Rattle.tv_journal.specs.declared.Entry.TheVariants as entry
use Rattle.tv_journal.specs.Entries.{record_count}
use Rattle.tv_journal.proofs.Records.{run-count}
use Rattle.tv_spec.specs.declared.Mode.{Mode}
use Rattle.tv_spec.specs.declared.Pending.{Pending}
use Rattle.tv_spec.specs.declared.Stop.TheVariants as stop
use Rattle.tv_spec.specs.Legal.{IsLegal, after}
use Rattle.tv_spec.specs.Room.{has_room, owed}
use Rattle.tv_spec.specs.Setup.{Setup}
use Rattle.tv_spec.specs.Solo.{Bounds, Going, Solo, event_by, event_unless, going, makes, onward, solo_event, stopped_by, turn}
use Rattle.tv_spec.specs.State.{State}
use Rattle.tv_spec.specs.Step.{CanStep, after_event, done, event_of, made}
use Rattle.tv_core.proofs.Halting.{owed_shown}
use Rattle.tv_runner.proofs.Bursts.{events-more, events-none, with_events}
use Rattle.tv_runner.proofs.CoreEvents.{did_in}
use Rattle.tv_runner.proofs.On.{onward-round}

-- 1. One event

-- it isn't one that stalls
abbrev pub IsCarried : Setup → Bounds → State → ℕ → Type 0
IsCarried setup bounds s hart = did_in setup bounds s hart ≢ did.Full

-- whether there is room for it
abbrev pub room_of : Setup → Bounds → Solo → ℕ → Bool
room_of setup bounds solo hart = has_room bounds.room setup solo.state solo.entries (entry.Hart hart)

by_did : (setup : Setup) (bounds : Bounds) (hart : ℕ) (solo : Solo) (d : Did) (g : Going) → d ≢ did.Full
    → ◌≡◌ {A = Going} (event_by setup bounds hart solo did.Retired) g → ◌≡◌ {A = Going} (event_by setup bounds hart solo d) g
by_did setup bounds hart solo did.Full g carried is = absurd (carried refl)
by_did setup bounds hart solo did.Retired g carried is = is
by_did setup bounds hart solo (did.Trapped cause) g carried is = is
by_did setup bounds hart solo did.Held g carried is = is

event_is : (setup : Setup) (bounds : Bounds) (hart : ℕ) (solo : Solo) (g : Going) → solo.state.pending hart ≡ None → IsCarried setup bounds solo.state hart
    → ◌≡◌ {A = Going} (event_by setup bounds hart solo did.Retired) g → ◌≡◌ {A = Going} (solo_event setup bounds hart solo) g
event_is setup bounds hart solo g free carried is =
    ap (event_unless setup bounds hart solo) free ∙ by_did setup bounds hart solo (did_in setup bounds solo.state hart) g carried is

event_made : (setup : Setup) (bounds : Bounds) (hart : ℕ) (solo : Solo) → solo.state.pending hart ≡ None → IsCarried setup bounds solo.state hart → room_of setup bounds solo hart ≡ true
    → ◌≡◌ {A = Going} (solo_event setup bounds hart solo) (going (makes setup solo (entry.Hart hart)))
event_made setup bounds hart solo free carried room =
    event_is setup bounds hart solo (going (makes setup solo (entry.Hart hart))) free carried (rw room refl)

pub event_full : (setup : Setup) (bounds : Bounds) (hart : ℕ) (solo : Solo) → solo.state.pending hart ≡ None → IsCarried setup bounds solo.state hart → room_of setup bounds solo hart ≡ false
    → ◌≡◌ {A = Going} (solo_event setup bounds hart solo) (solo, Some stop.Full)
event_full setup bounds hart solo free carried room =
    event_is setup bounds hart solo (solo, Some stop.Full) free carried (rw room refl)

pub event_waits : (setup : Setup) (bounds : Bounds) (hart : ℕ) (solo : Solo) → solo.state.pending hart ≢ None → ◌≡◌ {A = Going} (solo_event setup bounds hart solo) (solo, None)
event_waits setup bounds hart solo waits = by_load (solo.state.pending hart) waits
  where
    by_load : (o : Option Pending) → o ≢ None → ◌≡◌ {A = Going} (event_unless setup bounds hart solo o) (solo, None)
    by_load None some = absurd (some refl)
    by_load (Some load) some = refl

pub event_stalls : (setup : Setup) (bounds : Bounds) (hart : ℕ) (solo : Solo) → solo.state.pending hart ≡ None → did_in setup bounds solo.state hart ≡ did.Full
    → ◌≡◌ {A = Going} (solo_event setup bounds hart solo) (solo, None)
event_stalls setup bounds hart solo free full = ap (event_unless setup bounds hart solo) free ∙ ap (event_by setup bounds hart solo) full

-- 2. So many events

-- where a hart makes no event, a turn makes none
pub turn_still : (setup : Setup) (bounds : Bounds) (hart left : ℕ) (solo : Solo) → ◌≡◌ {A = Going} (solo_event setup bounds hart solo) (solo, None)
    → ◌≡◌ {A = Going} (turn setup bounds hart left solo) (solo, None)
unfolding turn
turn_still setup bounds hart zero solo still = refl
turn_still setup bounds hart (suc left) solo still = ap (onward (turn setup bounds hart left)) still ∙ turn_still setup bounds hart left solo still

-- a turn of some events is full where the first is
pub turn_full : (setup : Setup) (bounds : Bounds) (hart left : ℕ) (solo : Solo) → 0 < left → ◌≡◌ {A = Going} (solo_event setup bounds hart solo) (solo, Some stop.Full)
    → ◌≡◌ {A = Going} (turn setup bounds hart left solo) (solo, Some stop.Full)
unfolding turn
turn_full setup bounds hart zero solo some full = absurd (omega (arith, some))
turn_full setup bounds hart (suc left) solo some full = ap (onward (turn setup bounds hart left)) full

-- what is owed doesn't fall along events of harts
owed_event : (setup : Setup) (s : State) (hart : ℕ) → hart < 8 → s.pending hart ≡ None → owed s ≤ owed (done setup s (made (entry.Hart hart)))
owed_event setup s hart below free =
    let more = owed_shown (after_event setup s hart) hart (event_of s hart).2.shown below free in
    omega (arith, more)

owed_grows : (setup : Setup) (hart n : ℕ) (s : State) → hart < 8 → IsLegal setup s (events_of hart n) → owed s ≤ owed (after setup s (events_of hart n))
owed_grows setup hart zero s below legal = omega arith
owed_grows setup hart (suc n) s below legal =
    let can : CanStep setup s hart = legal.0 in
    let one = owed_event setup s hart below can.ready in
    let rest = owed_grows setup hart n (done setup s (made (entry.Hart hart))) below legal.1 in
    omega (arith, one, rest)

-- the first of some events that may stand, for all of which there is room
first_made : (setup : Setup) (bounds : Bounds) (hart n : ℕ) (solo : Solo) → hart < 8 → IsLegal setup solo.state (events_of hart (suc n)) → IsCarried setup bounds solo.state hart
    → record_count (solo.entries ++ replicate (suc n) (entry.Hart hart)) + owed (after setup solo.state (events_of hart (suc n))) ≤ bounds.room
    → ◌≡◌ {A = Going} (solo_event setup bounds hart solo) (going (makes setup solo (entry.Hart hart)))
first_made setup bounds hart n solo below legal carried room =
    let can : CanStep setup solo.state hart = legal.0 in
    let records = run-count solo.entries hart n in
    let rest = owed_grows setup hart n (done setup solo.state (made (entry.Hart hart))) below legal.1 in
    event_made setup bounds hart solo can.ready carried (le-leb _ _ (omega (arith, records, rest, room)))

-- events that may stand, at none of which the hart stalls, and for which there is room behind them, are those of a turn
pub turn_made : (setup : Setup) (bounds : Bounds) (hart n : ℕ) (solo : Solo) → hart < 8 → IsLegal setup solo.state (events_of hart (suc n))
    → ((k : ℕ) → k < suc n → IsCarried setup bounds (after setup solo.state (events_of hart k)) hart)
    → record_count (solo.entries ++ replicate (suc n) (entry.Hart hart)) + owed (after setup solo.state (events_of hart (suc n))) ≤ bounds.room
    → ◌≡◌ {A = Going} (turn setup bounds hart (suc n) solo) (going (with_events setup solo hart (suc n)))
unfolding turn
turn_made setup bounds hart zero solo below legal carried room =
    onward-round (solo_event setup bounds hart solo) ∙ first_made setup bounds hart 0 solo below legal (carried 0 (omega arith)) room
    ∙ ap going (sym (events-none setup (makes setup solo (entry.Hart hart)) hart) ∙ events-more setup solo hart 0)
turn_made setup bounds hart (suc n) solo below legal carried room =
    let next : Solo = makes setup solo (entry.Hart hart) in
    let one : solo_event setup bounds hart solo ≡ (next, None) =
    first_made setup bounds hart (suc n) solo below legal (carried 0 (omega arith)) room ∙ ap (λ (m : Mode). let g : Going = (next, stopped_by m) in g) legal.1.0.running in
    let entries_are : next.entries ++ replicate (suc n) (entry.Hart hart) ≡ solo.entries ++ replicate (suc (suc n)) (entry.Hart hart) =
    append_assoc solo.entries (entry.Hart hart ∷ []) (replicate (suc n) (entry.Hart hart)) in
    let fits : record_count (next.entries ++ replicate (suc n) (entry.Hart hart)) + owed (after setup next.state (events_of hart (suc n))) ≤ bounds.room =
    subst (λ (es : List Entry). record_count es + owed (after setup next.state (events_of hart (suc n))) ≤ bounds.room) (sym entries_are) room in
    ap (onward (turn setup bounds hart (suc n))) one
    ∙ turn_made setup bounds hart n next below legal.1 (λ k less. carried (suc k) (omega (arith, less))) fits
    ∙ ap going (events-more setup solo hart (suc n))
