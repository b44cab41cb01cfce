-- The turns of all harts of a core, hart by hart.
use Rattle.std.proofs.Common.{◌≡◌, ◌⊎◌, ℕ, zero, suc, ◌+◌, ◌-◌, ◌*◌, ◌<◌, ◌≤◌, inl, inr, List, [], ◌∷◌, length, append-nil, Some, None, false, refl, ap, sym, ◌∙◌, subst, arith}
use Rattle.tv_base.specs.declared.Why.{Why}
use Rattle.tv_base.specs.declared.Why.TheVariants as why
use Rattle.tv_base.specs.declared.limits.TheConstants.{DEBUG_RING_BYTES}
use Rattle.tv_guest.specs.Burst.{events_of}
use Rattle.tv_items.specs.declared.action.Heard.{Heard}
use Rattle.tv_journal.specs.declared.Entry.TheVariants as entry
use Rattle.tv_machine.specs.declared.machine.Machine.{Machine}
use Rattle.tv_machine.specs.Valid.{IsValid}
use Rattle.tv_spec.specs.declared.Mode.{Mode}
use Rattle.tv_spec.specs.declared.Mode.TheVariants as mode
use Rattle.tv_spec.specs.Legal.{IsLegalRun, after, with_outer}
use Rattle.tv_spec.specs.Setup.{Setup}
use Rattle.tv_spec.specs.Shows.{cause_in, debug_bytes}
use Rattle.tv_spec.specs.Solo.{Bounds, Solo}
use Rattle.tv_spec.specs.State.{State}
use Rattle.tv_spec.specs.Step.{done, ended, made}
use Rattle.tv_spec.proofs.Moves.{after-append}
use Rattle.tv_spec.proofs.SoFar.{debug-append}
use Rattle.tv_core.specs.declared.proxied.Turn.{Turn}
use Rattle.tv_core.specs.declared.proxied.Turn.TheVariants as turned
use Rattle.tv_core.specs.Calls.{IsRanFor, Stalls, TurnedSo, why_of}
use Rattle.tv_core.specs.Seen.{Seen, debug_of, first_by, seat_of, setup_by, state_of, with_end, with_events}
use Rattle.tv_core.proofs.History.{outer_set}
use Rattle.tv_core.proofs.Room.{events_done}
use Rattle.tv_core.proofs.Turns.{end_ends, with_none}
use Rattle.tv_runner.specs.Cores.{IsPartOf, bounds_by, solo_of}
use Rattle.tv_runner.specs.Engines.{HasEvents}
use Rattle.tv_runner.specs.Parts.{all_turns, turn_of}
use Rattle.tv_runner.proofs.CoreParts.{IsCoreOn, core_end, core_next, core_stop}
use Rattle.tv_runner.proofs.CoreTurns.{IsAtTurn, IsLater, bytes_within, plain, plain_is, state_behind, turn_is}
use Rattle.tv_runner.proofs.On.{Splits, turns-over, turns-split, turns_from}

-- 1. What a turn leaves

-- so many events were made, and the run may have ended as full behind them
pub record IsTurnedTo (q new : Seen) (hart : ℕ) : Type 0 where
  pub count : ℕ
  pub few : count ≤ 64
  pub new_is : (new ≡ with_events (plain q) hart count) ⊎ (new ≡ with_end (with_events (plain q) hart count) why.Full (seat_of q.machine (entry.Hart hart)))

none_made : (q new : Seen) (hart : ℕ) → new ≡ plain q → IsTurnedTo q new hart
none_made q new hart same = record { count = 0; few = omega arith; new_is = inl (same ∙ sym (with_none (plain q) hart)) }

pub turned_to : (q new : Seen) (hart : ℕ) (result : Turn) → TurnedSo (plain q) new hart 64 result → IsTurnedTo q new hart
turned_to q new hart (turned.Ran n) T = elim T.then_full [
  | inl is ↦ record { count = n; few = T.few; new_is = inl is }
  | inr full ↦ record { count = n; few = T.few; new_is = inr full.1.full.new_is }
]
turned_to q new hart turned.Ending (inl over) = none_made q new hart over.1
turned_to q new hart turned.Ending (inr full) = record {
  count = 0;
  few = omega arith;
  new_is = inr (full.full.new_is ∙ ap (λ (p : Seen). with_end p why.Full (seat_of q.machine (entry.Hart hart))) (sym (with_none (plain q) hart)));
}
turned_to q new hart turned.Waits T = none_made q new hart T.2
turned_to q new hart turned.Stalled T = none_made q new hart T.3

-- an end that no entry made shows no byte
pub end_bytes : (q : Seen) (cause : Why) (seat : ℕ) → debug_of (with_end (plain q) cause seat) ≡ debug_of (plain q)
end_bytes q cause seat =
    ap (debug_bytes (setup_by q) (first_by q)) (outer_set q.entries cause)
    ∙ debug-append (setup_by q) (first_by q) (with_outer q.entries None) (ended cause ∷ [])
    ∙ append-nil (debug_of (plain q))

pub end_state : (q : Seen) (cause : Why) (seat : ℕ) → state_of (with_end (plain q) cause seat) ≡ done (setup_by q) (state_of (plain q)) (ended cause)
end_state q cause seat = ap (after (setup_by q) (first_by q)) (outer_set q.entries cause) ∙ after-append (setup_by q) (first_by q) (with_outer q.entries None) (ended cause ∷ [])

bytes_plain : (q new : Seen) (hart : ℕ) → IsTurnedTo q new hart → length (debug_of new) ≤ length (debug_of (plain q)) + 64
bytes_plain q new hart T =
    let all = bytes_within q hart T.count in
    let few = T.few in
    elim T.new_is [
      | inl is ↦ (let same = ap (λ (p : Seen). length (debug_of p)) is in omega (arith, all, few, same))
      | inr is ↦ (let same = ap (λ (p : Seen). length (debug_of p)) is in
          let ending = ap (λ (xs : List ℕ). length xs) (end_bytes (with_events q hart T.count) why.Full (seat_of q.machine (entry.Hart hart))) in
          omega (arith, all, few, same, ending))
    ]

-- a turn shows at most 64 bytes
pub turn_bytes : (old new : Seen) (hart : ℕ) (result : Turn) → old.outer ≡ None → TurnedSo old new hart 64 result → length (debug_of new) ≤ length (debug_of old) + 64
turn_bytes old new hart result none T =
    let is = plain_is old none in
    subst (λ (p : Seen). length (debug_of new) ≤ length (debug_of p) + 64) (sym is) (bytes_plain old new hart (turned_to old new hart result (subst (λ (p : Seen). TurnedSo p new hart 64 result) is T)))

-- behind events, the last entry is no tick, and there are so many events more
ticked_events : (setup : Setup) (hart n : ℕ) (s : State) → s.ticked ≡ false → (after setup s (events_of hart n)).ticked ≡ false
ticked_events setup hart zero s is = is
ticked_events setup hart (suc n) s is = ticked_events setup hart n (done setup s (made (entry.Hart hart))) refl

events_more : (setup : Setup) (hart n : ℕ) (s : State) → (after setup s (events_of hart n)).events ≡ s.events + n
events_more setup hart zero s = omega arith
events_more setup hart (suc n) s =
    let one = events_done setup s (made (entry.Hart hart)) in
    let rest = events_more setup hart n (done setup s (made (entry.Hart hart))) in
    omega (arith, one, rest)

-- the state behind a turn has these of the state behind its events
record IsBehindTurn (q new : Seen) (hart count : ℕ) : Type 0 where
  pub ticked : (state_of new).ticked ≡ (after (setup_by q) (state_of (plain q)) (events_of hart count)).ticked
  pub events : (state_of new).events ≡ (state_of (plain q)).events + count

behind_turn : (q new : Seen) (hart : ℕ) (T : IsTurnedTo q new hart) → IsBehindTurn q new hart T.count
behind_turn q new hart T =
    let here = state_behind q hart T.count in
    let count = events_more (setup_by q) hart T.count (state_of (plain q)) in
    elim T.new_is [
      | inl same ↦ record {
        ticked = ap (λ (p : Seen). (state_of p).ticked) same ∙ ap (λ (s : State). s.ticked) here;
        events = ap (λ (p : Seen). (state_of p).events) same ∙ ap (λ (s : State). s.events) here ∙ count;
      }
      | inr same ↦ (let ending = end_state (with_events q hart T.count) why.Full (seat_of q.machine (entry.Hart hart)) in record {
        ticked = ap (λ (p : Seen). (state_of p).ticked) same ∙ ap (λ (s : State). s.ticked) ending ∙ ap (λ (s : State). s.ticked) here;
        events = ap (λ (p : Seen). (state_of p).events) same ∙ ap (λ (s : State). s.events) ending ∙ ap (λ (s : State). s.events) here ∙ count;
      })
    ]

ran_events : (q new : Seen) (hart n : ℕ) → IsRanFor (plain q) new hart 64 n → HasEvents (plain q) new
ran_events q new hart zero R = absurd (let some = R.some in omega (arith, some))
ran_events q new hart (suc n) R =
    let by_count : IsBehindTurn q new hart (suc n) → HasEvents (plain q) new = λ behind. record {
      events = (let more = behind.events in omega (arith, more));
      unticked = behind.ticked ∙ ticked_events (setup_by q) hart n (done (setup_by q) (state_of (plain q)) (made (entry.Hart hart))) refl;
    } in
    elim R.then_full [
      | inl is ↦ by_count (behind_turn q new hart (record { count = suc n; few = R.few; new_is = inl is }))
      | inr full ↦ by_count (behind_turn q new hart (record { count = suc n; few = R.few; new_is = inr full.1.full.new_is }))
    ]

-- a turn keeps them
pub turn_events : (first old new : Seen) (hart : ℕ) (result : Turn) → old.outer ≡ None → TurnedSo old new hart 64 result → HasEvents first old → HasEvents first new
turn_events first old new hart result none T has =
    let is = plain_is old none in
    let to = turned_to old new hart result (subst (λ (p : Seen). TurnedSo p new hart 64 result) is T) in
    let behind = behind_turn old new hart to in
    let before : HasEvents first (plain old) = subst (HasEvents first) is has in
    record {
      events = (let some = before.events in let more = behind.events in omega (arith, some, more));
      unticked = behind.ticked ∙ ticked_events (setup_by old) hart to.count (state_of (plain old)) before.unticked;
    }

-- a hart that neither waits nor stalls makes some, or the run ends
first_plain : (q new : Seen) (hart : ℕ) (result : Turn) → (state_of (plain q)).mode ≡ mode.Running → (state_of (plain q)).pending hart ≡ None → (Stalls (plain q) hart → ⊥)
    → TurnedSo (plain q) new hart 64 result → why_of new ≡ None → HasEvents (plain q) new
first_plain q new hart (turned.Ran n) runs free carried T none = ran_events q new hart n T
first_plain q new hart turned.Ending runs free carried (inl over) none = absurd (over.0 (rw runs tt))
first_plain q new hart turned.Ending runs free carried (inr full) none =
    let seat : ℕ = seat_of q.machine (entry.Hart hart) in
    let ends : why_of new ≡ Some why.Full = ap why_of full.full.new_is ∙ ap (λ (m : Mode). cause_in m) (end_ends (plain q) why.Full seat) in
    cc
first_plain q new hart turned.Waits runs free carried T none = absurd (T.1 free)
first_plain q new hart turned.Stalled runs free carried T none = absurd (carried T.2)

pub first_events : (old new : Seen) (hart : ℕ) (result : Turn) → old.outer ≡ None → (state_of old).mode ≡ mode.Running → (state_of old).pending hart ≡ None → (Stalls old hart → ⊥)
    → TurnedSo old new hart 64 result → why_of new ≡ None → HasEvents old new
first_events old new hart result none runs free carried T goes =
    let is = plain_is old none in
    subst (λ (p : Seen). HasEvents p new) (sym is)
    (first_plain old new hart result (subst (λ (p : Seen). (state_of p).mode ≡ mode.Running) is runs) (subst (λ (p : Seen). (state_of p).pending hart ≡ None) is free)
    (subst (λ (p : Seen). Stalls p hart → ⊥) is carried) (subst (λ (p : Seen). TurnedSo p new hart 64 result) is T) goes)

-- 2. The turns of the harts before one

-- a core as a round begins: its first hart neither waits nor stalls, and the ring takes as many bytes as the round can have
pub record IsAtRound (p : Seen) : Type 0 where
  pub valid : IsValid p.machine
  pub legal : IsLegalRun p.machine p.image p.entries p.outer
  pub outer : p.outer ≡ None
  pub runs : (state_of p).mode ≡ mode.Running
  pub ring : length (debug_of p) + 512 ≤ p.handed + DEBUG_RING_BYTES
  pub free : (state_of p).pending 0 ≡ None
  pub carried : Stalls p 0 → ⊥

-- the harts before this one had their turns, and the run goes on
pub record AreTurned (old now : Seen) (number : ℕ) : Type 0 where
  pub on : IsCoreOn all_turns (turns_from number (old.machine.harts - number)) old now
  pub legal : IsLegalRun now.machine now.image now.entries now.outer
  pub bytes : length (debug_of now) ≤ length (debug_of old) + 64 * number
  pub first : number ≡ 0 → now ≡ old
  pub events : 0 < number → HasEvents old now

pub turned_none : (p : Seen) → IsAtRound p → AreTurned p p 0
turned_none p A = record {
  on = record {
    machine = refl;
    image = refl;
    handed = refl;
    outer = A.outer;
    runs = A.runs;
    leads = λ (answers : ℕ → List Heard).
        (let all : p.machine.harts - 0 ≡ p.machine.harts = omega arith in ap (λ (n : ℕ). turns_from 0 n (setup_by p) (bounds_by p) (solo_of p answers)) all);
  };
  legal = A.legal;
  bytes = omega arith;
  first = λ _. refl;
  events = λ some. absurd (omega (arith, some));
}

at_turn : (old now : Seen) (number : ℕ) → IsAtRound old → AreTurned old now number → number < old.machine.harts → IsAtTurn now number
at_turn old now number A T exists =
    let same : now.machine.harts ≡ old.machine.harts = ap (λ (m : Machine). m.harts) T.on.machine in
    let most = A.valid.harts.1 in
    let before = T.bytes in
    let ring = A.ring in
    let handed = T.on.handed in
    record {
      valid = subst IsValid (sym T.on.machine) A.valid;
      legal = T.legal;
      exists = omega (arith, exists, same);
      running = T.on.runs;
      ring = omega (arith, exists, most, before, ring, handed);
    }

part_turn : (old now new : Seen) (number hart : ℕ) (result : Turn) → IsAtRound old → AreTurned old now number → hart ≡ number → number < old.machine.harts → IsLater new → TurnedSo now new hart 64 result
    → IsPartOf (turn_of hart 64) now new
part_turn old now new number hart result A T is exists L turn =
    turn_is now new hart result T.on.outer (subst (IsAtTurn now) (sym is) (at_turn old now number A T exists)) L turn

splits_turn : (old : Seen) (number next hart : ℕ) → hart ≡ number → next ≡ suc number → number < old.machine.harts
    → Splits (turns_from number (old.machine.harts - number)) (turns_from next (old.machine.harts - next)) (turn_of hart 64)
splits_turn old number next hart is next_is exists setup bounds solo =
    turns-split number next hart (old.machine.harts - number) (old.machine.harts - next) setup bounds solo (omega (arith, next_is, exists)) is next_is

pub turned_more : (old now new : Seen) (number next hart : ℕ) (result : Turn) → IsAtRound old → AreTurned old now number → hart ≡ number → next ≡ suc number → number < old.machine.harts
    → IsLater new → TurnedSo now new hart 64 result → why_of new ≡ None → AreTurned old new next
turned_more old now new number next hart result A T is next_is exists L turn none =
    let more = turn_bytes now new hart result T.on.outer turn in
    let before = T.bytes in
    record {
      on = core_next all_turns (turns_from number (old.machine.harts - number)) (turns_from next (old.machine.harts - next)) (turn_of hart 64) old now new T.on
          (splits_turn old number next hart is next_is exists) (part_turn old now new number hart result A T is exists L turn) none;
      legal = L.legal;
      bytes = omega (arith, more, before, next_is);
      first = λ zero_is. absurd (omega (arith, zero_is, next_is));
      events = λ _. by_number number refl;
    }
  where
    by_number : (n : ℕ) → number ≡ n → HasEvents old new
    by_number zero zero_is =
        let same : now ≡ old = T.first zero_is in
        let hart_is : hart ≡ 0 = is ∙ zero_is in
        subst (λ (p : Seen). HasEvents p new) same
        (first_events now new hart result T.on.outer T.on.runs
        (subst (λ (p : Seen). (state_of p).pending hart ≡ None) (sym same) (subst (λ (k : ℕ). (state_of old).pending k ≡ None) (sym hart_is) A.free))
        (subst (λ (p : Seen). Stalls p hart → ⊥) (sym same) (subst (λ (k : ℕ). Stalls old k → ⊥) (sym hart_is) A.carried)) turn none)
    by_number (suc n) some = turn_events old now new hart result T.on.outer turn (T.events (omega (arith, some)))

-- the run stopped in the turn of a hart
pub turned_stop : (old now new : Seen) (number hart : ℕ) (result : Turn) (cause : Why) → IsAtRound old → AreTurned old now number → hart ≡ number → number < old.machine.harts
    → IsLater new → TurnedSo now new hart 64 result → why_of new ≡ Some cause → IsPartOf all_turns old new × (length (debug_of new) ≤ length (debug_of old) + 512)
turned_stop old now new number hart result cause A T is exists L turn some =
    let more = turn_bytes now new hart result T.on.outer turn in
    let before = T.bytes in
    let most = A.valid.harts.1 in (
      core_stop all_turns (turns_from number (old.machine.harts - number)) (turns_from (suc number) (old.machine.harts - suc number)) (turn_of hart 64) old now new cause T.on
          (splits_turn old number (suc number) hart is refl exists) (part_turn old now new number hart result A T is exists L turn) some,
      omega (arith, more, before, most, exists),
    )

-- all had theirs
pub turned_all : (old now : Seen) (number : ℕ) → IsAtRound old → AreTurned old now number → number ≡ old.machine.harts → IsPartOf all_turns old now × (length (debug_of now) ≤ length (debug_of old) + 512)
turned_all old now number A T is =
    let before = T.bytes in
    let most = A.valid.harts.1 in (
      core_end all_turns (turns_from number (old.machine.harts - number)) old now T.on
          (λ (setup : Setup) (bounds : Bounds) (solo : Solo). turns-over number (old.machine.harts - number) setup bounds solo (omega (arith, is))),
      omega (arith, before, most, is),
    )
