-- So many events of a hart in the schedule.
use Rattle.std.proofs.Common.{◌≡◌, ℕ, zero, suc, ◌+◌, [], ◌∷◌, ◌++◌, replicate, refl, ap, ◌∙◌, append_assoc, append-nil, arith}
use Rattle.tv_guest.specs.Burst.{events_of}
use Rattle.tv_journal.specs.declared.Entry.TheVariants as entry
use Rattle.tv_spec.specs.Legal.{after}
use Rattle.tv_spec.specs.Setup.{Setup}
use Rattle.tv_spec.specs.Shows.{bytes_of, debug_bytes}
use Rattle.tv_spec.specs.Solo.{Bounds, Solo, Going, onward, makes, solo_event, turn}
use Rattle.tv_spec.specs.State.{State}
use Rattle.tv_spec.specs.Step.{made, done}
use Rattle.tv_runner.specs.Parts.{turn_of}
use Rattle.tv_runner.proofs.On.{onward-twice}

-- a run so far with so many events of a hart more
abbrev pub with_events : Setup → Solo → ℕ → ℕ → Solo
with_events setup solo hart n = record {
  state = after setup solo.state (events_of hart n);
  entries = solo.entries ++ replicate n (entry.Hart hart);
  bytes = solo.bytes ++ debug_bytes setup solo.state (events_of hart n);
  answers = solo.answers;
}

pub events-none : (setup : Setup) (solo : Solo) (hart : ℕ) → with_events setup solo hart 0 ≡ solo
events-none setup solo hart =
    λ i. record { state = solo.state; entries = append-nil solo.entries i; bytes = append-nil solo.bytes i; answers = solo.answers }

pub events-more : (setup : Setup) (solo : Solo) (hart n : ℕ) → with_events setup (makes setup solo (entry.Hart hart)) hart n ≡ with_events setup solo hart (suc n)
events-more setup solo hart n =
    let next : State = done setup solo.state (made (entry.Hart hart)) in
    let entries_are : (solo.entries ++ entry.Hart hart ∷ []) ++ replicate n (entry.Hart hart) ≡ solo.entries ++ replicate (suc n) (entry.Hart hart) =
    append_assoc solo.entries (entry.Hart hart ∷ []) (replicate n (entry.Hart hart)) in
    let bytes_are : (solo.bytes ++ bytes_of solo.state (made (entry.Hart hart))) ++ debug_bytes setup next (events_of hart n) ≡ solo.bytes ++ debug_bytes setup solo.state (events_of hart (suc n)) =
    append_assoc solo.bytes (bytes_of solo.state (made (entry.Hart hart))) (debug_bytes setup next (events_of hart n)) in
    λ i. record { state = after setup next (events_of hart n); entries = entries_are i; bytes = bytes_are i; answers = solo.answers }

-- a turn in two parts
pub turn-on : (hart n k total : ℕ) (setup : Setup) (bounds : Bounds) (solo : Solo) → total ≡ n + k
    → ◌≡◌ {A = Going} (turn_of hart total setup bounds solo) (onward (turn_of hart k setup bounds) (turn_of hart n setup bounds solo))
unfolding turn
turn-on hart zero k total setup bounds solo is =
    let same : total ≡ k = omega (arith, is) in
    ap (λ (m : ℕ). turn setup bounds hart m solo) same
turn-on hart (suc n) k total setup bounds solo is =
    let same : total ≡ suc (n + k) = omega (arith, is) in
    ap (λ (m : ℕ). turn setup bounds hart m solo) same
    ∙ onward-twice (turn setup bounds hart (n + k)) (turn setup bounds hart n) (turn setup bounds hart k) (solo_event setup bounds hart solo) (λ s. turn-on hart n k (n + k) setup bounds s refl)
