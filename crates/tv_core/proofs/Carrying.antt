-- At none of the events of a burst did the hart stall.
use Rattle.std.proofs.Common.{◌≡◌, ℕ, zero, suc, ◌+◌, ◌-◌, ◌<◌, ◌≤◌, ◌/◌, List, [], ◌∷◌, ◌++◌, length, length-append, Bool, None, refl, ap, sym, ◌∙◌, subst, arith}
use Rattle.std.proofs.lemmas.List.{length-map}
use Rattle.tv_base.specs.declared.limits.TheConstants.{PAGE_BYTES}
use Rattle.tv_guest.specs.Burst.{IsBurst, events_of}
use Rattle.tv_hart.specs.HartState.{HartState}
use Rattle.tv_journal.specs.declared.Entry.TheVariants as entry
use Rattle.tv_side.specs.Sides.{new_side}
use Rattle.tv_spec.specs.declared.Closed.{Closed}
use Rattle.tv_spec.specs.declared.Mode.{Mode}
use Rattle.tv_spec.specs.declared.Shown.{Shown}
use Rattle.tv_spec.specs.declared.Shown.TheVariants as shown
use Rattle.tv_spec.specs.Legal.{IsLegal, after, with_outer}
use Rattle.tv_spec.specs.LocalState.{LocalState}
use Rattle.tv_spec.specs.Setup.{Setup, device_setup}
use Rattle.tv_spec.specs.Shows.{byte_shown, debug_bytes}
use Rattle.tv_spec.specs.State.{State}
use Rattle.tv_spec.specs.Step.{Move, event_of, made}
use Rattle.tv_spec.proofs.Memory.{IsToDevice}
use Rattle.tv_spec.proofs.Moves.{legal-parts}
use Rattle.tv_spec.proofs.SoFar.{debug-append}
use Rattle.tv_spec.proofs.Valid.{run_from, valid_ranges}
use Rattle.tv_spec.proofs.Whole.{event_place}
use Rattle.tv_core.proofs.Fronts.{events_next, events_parts, front_acted, front_items}
use Rattle.tv_core.proofs.Behind.{front_moves, front_state}
use Rattle.tv_core.proofs.Halting.{IsReady}
use Rattle.tv_core.proofs.Showing.{MadeSome}
use Rattle.tv_core.proofs.Stopping.{held_up_not, made_open, open_free}
use Rattle.tv_core.proofs.Room.{run_of}
use Rattle.tv_core.specs.Calls.{StalledBy}
use Rattle.tv_core.specs.Holds.{Parts, seen}
use Rattle.tv_core.specs.Seen.{debug_of, dev_of, first_by, setup_by, state_of, with_events}

-- no event before the last one showed a byte
pub front_bytes : (setup : Setup) (s : State) (hart n k : ℕ) (later : HartState) (local : LocalState) (now : Mode) (closed : Closed) (what : Shown)
    → IsBurst setup s hart (suc n) later local now closed what → k ≤ n → length (debug_bytes setup s (events_of hart k)) ≡ 0
front_bytes setup s hart n k later local now closed what B within =
    let e : Move = made (entry.Hart hart) in
    let t : State = after setup s (events_of hart n) in
    let all : debug_bytes setup s (events_of hart n) ++ (byte_shown (event_of t hart).2.shown ++ []) ≡ byte_shown what =
    sym (ap (debug_bytes setup s) (events_next hart n) ∙ debug-append setup s (events_of hart n) (e ∷ [])) ∙ B.bytes in
    let one : length (debug_bytes setup s (events_of hart n)) + length (byte_shown (event_of t hart).2.shown ++ []) ≡ length (byte_shown what) =
    sym (length-append (debug_bytes setup s (events_of hart n)) (byte_shown (event_of t hart).2.shown ++ [])) ∙ ap (λ (xs : List ℕ). length xs) all in
    let two : length (byte_shown (event_of t hart).2.shown ++ []) ≡ length (byte_shown (event_of t hart).2.shown) + 0 = length-append (byte_shown (event_of t hart).2.shown) [] in
    let same : length (byte_shown what) ≡ length (byte_shown (event_of t hart).2.shown) = ap (λ (x : Shown). length (byte_shown x)) (B.last n refl) in
    let parts : debug_bytes setup s (events_of hart n) ≡ debug_bytes setup s (events_of hart k) ++ debug_bytes setup (after setup s (events_of hart k)) (events_of hart (n - k)) =
    ap (debug_bytes setup s) (events_parts hart k n within) ∙ debug-append setup s (events_of hart k) (events_of hart (n - k)) in
    let sum : length (debug_bytes setup s (events_of hart n)) ≡ length (debug_bytes setup s (events_of hart k)) + length (debug_bytes setup (after setup s (events_of hart k)) (events_of hart (n - k))) =
    ap (λ (xs : List ℕ). length xs) parts ∙ length-append (debug_bytes setup s (events_of hart k)) (debug_bytes setup (after setup s (events_of hart k)) (events_of hart (n - k))) in
    omega (arith, one, two, same, sum)

-- what stalls behind the first events stalls before them
lower : (p : Parts) (hart n k : ℕ) (later : HartState) (local : LocalState) (now : Mode) (closed : Closed) (what : Shown) → p.journal.outer ≡ None
    → IsBurst (setup_by (seen p)) (state_of (seen p)) hart (suc n) later local now closed what → k ≤ n → (y : Shown) → StalledBy (with_events (seen p) hart k) y → StalledBy (seen p) y
lower p hart n k later local now closed what none B within shown.Nothing stalls = stalls
lower p hart n k later local now closed what none B within (shown.Finish finish) stalls = stalls
lower p hart n k later local now closed what none B within (shown.Byte byte) stalls =
    let empty = front_bytes (setup_by (seen p)) (state_of (seen p)) hart n k later local now closed what B within in
    let all : debug_of (with_events (seen p) hart k) ≡ debug_of (seen p) ++ debug_bytes (setup_by (seen p)) (state_of (seen p)) (events_of hart k) =
    ap (debug_bytes (setup_by (seen p)) (first_by (seen p))) (front_moves p.journal.entries p.journal.outer hart k none)
    ∙ debug-append (setup_by (seen p)) (first_by (seen p)) (with_outer p.journal.entries p.journal.outer) (events_of hart k) in
    let sum : length (debug_of (with_events (seen p) hart k)) ≡ length (debug_of (seen p)) + length (debug_bytes (setup_by (seen p)) (state_of (seen p)) (events_of hart k)) =
    ap (λ (xs : List ℕ). length xs) all ∙ length-append (debug_of (seen p)) (debug_bytes (setup_by (seen p)) (state_of (seen p)) (events_of hart k)) in
    omega (arith, stalls, empty, sum)
lower p hart n k later local now closed what none B within (shown.Access d how) stalls =
    let is = front_state (setup_by (seen p)) (first_by (seen p)) p.journal.entries p.journal.outer hart k none in
    let acted : (dev_of (with_events (seen p) hart k) d).acted ≡ (dev_of (seen p) d).acted =
    ap (λ (x : State). (x.devs d).acted) is ∙ front_acted (setup_by (seen p)) hart d k (state_of (seen p)) in
    let items : length (dev_of (with_events (seen p) hart k) d).made ≡ length (dev_of (seen p) d).made =
    ap (λ (x : State). length (x.devs d).made) is ∙ front_items (setup_by (seen p)) (state_of (seen p)) hart n k d later local now closed what B within in
    omega (arith, stalls, acted, items)

-- the hart stalled at none of them
pub carried : (p : Parts) (hart count : ℕ) (room : Bool) (closed : Closed) (what : Shown) → IsReady p hart → MadeSome p hart count room closed what → p.journal.outer ≡ None
    → (k : ℕ) → k < count → StalledBy (with_events (seen p) hart k) (event_of (state_of (with_events (seen p) hart k)) hart).2.shown → ⊥
carried p hart zero room closed what R M none k less stalls = absurd (M.some refl)
carried p hart (suc n) room closed what R M none k less stalls =
    let setup : Setup = setup_by (seen p) in
    let s : State = state_of (seen p) in
    let t : State = after setup s (events_of hart k) in
    let is = front_state setup (first_by (seen p)) p.journal.entries p.journal.outer hart k none in
    let split = events_parts hart k (suc n) (let r : k ≤ suc n = omega (arith, less) in r) in
    let front : IsLegal setup s (events_of hart k) =
    (legal-parts setup s (events_of hart k) (events_of hart (suc n - k)) (subst (IsLegal setup s) split M.burst.legal)).0 in
    let run = run_from setup p.machine.ram (p.machine.ram / PAGE_BYTES) s (events_of hart k) (valid_ranges p.machine R.holds.valid) front (run_of p R.holds) in
    let at = event_place setup p.machine.ram (p.machine.ram / PAGE_BYTES) t hart run.whole in
    let slots : length setup.devices ≡ length p.sides = length-map p.machine.device device_setup ∙ sym R.holds.slots in
    let there : IsToDevice (length p.sides) (event_of t hart).2.shown = subst (λ (j : ℕ). IsToDevice j (event_of t hart).2.shown) slots at.seen in
    let free = open_free p.ring.items p.sides room closed (new_side 0) (event_of t hart).2.shown M.gates there (made_open closed t hart (M.burst.carried k less)) in
    held_up_not p (new_side 0) (event_of t hart).2.shown R.holds there free
    (lower p hart n k M.later M.local M.now closed what none M.burst (let r : k ≤ n = omega (arith, less) in r) (event_of t hart).2.shown
    (subst (λ (u : State). StalledBy (with_events (seen p) hart k) (event_of u hart).2.shown) is stalls))
