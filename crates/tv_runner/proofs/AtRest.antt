-- Devices that are at rest stay so while harts have their turns and time goes on: events of harts change their lists of items alone.
use Rattle.std.proofs.Common.{◌≡◌, ℕ, zero, suc, ◌<◌, ◌≤◌, inl, inr, Bool, true, false, List, length, get_or, None, refl, ap, sym, ◌∙◌, subst}
use Rattle.tv_base.specs.declared.Why.TheVariants as why
use Rattle.tv_guest.specs.Burst.{events_of}
use Rattle.tv_journal.specs.declared.Entry.TheVariants as entry
use Rattle.tv_machine.specs.declared.machine.Machine.{Machine}
use Rattle.tv_plan.specs.Devices.{DeviceState}
use Rattle.tv_plan.specs.Probe.{ProbeState}
use Rattle.tv_spec.specs.declared.Made.{Made}
use Rattle.tv_spec.specs.declared.Maker.{Maker}
use Rattle.tv_spec.specs.declared.Mode.{Mode}
use Rattle.tv_spec.specs.declared.Mode.TheVariants as mode
use Rattle.tv_spec.specs.declared.Shown.{Shown}
use Rattle.tv_spec.specs.declared.Shown.TheVariants as shown
use Rattle.tv_spec.specs.Devices.{item_of, with_item}
use Rattle.tv_spec.specs.Legal.{after}
use Rattle.tv_spec.specs.Setup.{Setup}
use Rattle.tv_spec.specs.Shows.{cause_in}
use Rattle.tv_spec.specs.State.{DeviceRun, State}
use Rattle.tv_spec.specs.Step.{after_event, done, event_of, issued, made}
use Rattle.tv_spec.proofs.Updates.{update_elim}
use Rattle.tv_core.specs.declared.proxied.Turn.{Turn}
use Rattle.tv_core.specs.Calls.{TickedSo, TurnedSo, why_of}
use Rattle.tv_core.specs.Seen.{Seen, dev_of, seat_of, setup_by, state_of, with_events}
use Rattle.tv_core.proofs.Turns.{end_ends}
use Rattle.tv_runner.specs.Engines.{AreAtRest, AreDone}
use Rattle.tv_runner.specs.Lines.{IsAtRest}
use Rattle.tv_runner.proofs.CoreLoops.{IsTurnedTo, end_state, turned_to}
use Rattle.tv_runner.proofs.CoreParts.{state_with, tick_full}
use Rattle.tv_runner.proofs.CoreTurns.{plain, plain_is, state_behind}

-- 1. Events of harts

-- a device that differs in its list of items alone
abbrev IsBut : DeviceRun → DeviceRun → Type 0
IsBut v w = ◌≡◌ {A = DeviceRun} w (record v { made = w.made })

but_on : (u v w : DeviceRun) → IsBut u v → IsBut v w → IsBut u w
but_on u v w a b = b ∙ ap (λ (x : DeviceRun). let r : DeviceRun = record x { made = w.made } in r) a

rest_but : (v w : DeviceRun) (s : DeviceState) → IsBut v w → IsAtRest v s → IsAtRest w s
rest_but v w s is rest = subst (λ (x : DeviceRun). IsAtRest x s) (sym is) (record {
  still = record { quiet = rest.still.quiet; answered = record { due = rest.still.answered.due; replied = rest.still.answered.replied } };
  over = rest.over;
  state = rest.state;
})

issued_but : (hart : ℕ) (seen : Shown) (s : State) (d : ℕ) → IsBut (s.devs d) ((issued hart seen s).devs d)
issued_but hart shown.Nothing s d = refl
issued_but hart (shown.Byte byte) s d = refl
issued_but hart (shown.Finish finish) s d = refl
issued_but hart (shown.Access e how) s d =
    let m : Made = record { item = item_of how; maker = Maker.Hart hart } in
    update_elim s.devs e (with_item (s.devs e) m) d (λ w. IsBut (s.devs d) w)
    (λ same. subst (λ (k : ℕ). IsBut (s.devs k) (with_item (s.devs e) m)) (sym same) refl)
    (λ _. refl)

events_but : (setup : Setup) (hart n : ℕ) (s : State) (d : ℕ) → IsBut (s.devs d) ((after setup s (events_of hart n)).devs d)
events_but setup hart zero s d = refl
events_but setup hart (suc n) s d =
    let next : State = done setup s (made (entry.Hart hart)) in
    but_on (s.devs d) (next.devs d) ((after setup next (events_of hart n)).devs d) (issued_but hart (event_of s hart).2.shown (after_event setup s hart) d) (events_but setup hart n next d)

-- 2. A turn

but_plain : (q new : Seen) (hart : ℕ) → IsTurnedTo q new hart → (d : ℕ) → IsBut (dev_of (plain q) d) (dev_of new d)
but_plain q new hart T d =
    let here : dev_of (with_events (plain q) hart T.count) d ≡ (after (setup_by q) (state_of (plain q)) (events_of hart T.count)).devs d =
    ap (λ (s : State). s.devs d) (state_behind q hart T.count) in
    let but = events_but (setup_by q) hart T.count (state_of (plain q)) d in
    elim T.new_is [
      | inl same ↦ subst (λ (w : DeviceRun). IsBut (dev_of (plain q) d) w) (sym (ap (λ (p : Seen). dev_of p d) same ∙ here)) but
      | inr same ↦ subst (λ (w : DeviceRun). IsBut (dev_of (plain q) d) w)
          (sym (ap (λ (p : Seen). dev_of p d) same
          ∙ ap (λ (s : State). s.devs d) (end_state (with_events q hart T.count) why.Full (seat_of q.machine (entry.Hart hart)))
          ∙ here)) but
    ]

turn_but : (old new : Seen) (hart : ℕ) (result : Turn) → old.outer ≡ None → TurnedSo old new hart 64 result → (d : ℕ) → IsBut (dev_of old d) (dev_of new d)
turn_but old new hart result none T d =
    let is = plain_is old none in
    subst (λ (p : Seen). IsBut (dev_of p d) (dev_of new d)) (sym is)
    (but_plain old new hart (turned_to old new hart result (subst (λ (p : Seen). TurnedSo p new hart 64 result) is T)) d)

pub rest_turn : (old new : Seen) (probes : List ProbeState) (hart : ℕ) (result : Turn) → old.outer ≡ None → new.machine ≡ old.machine → TurnedSo old new hart 64 result
    → AreAtRest old probes → AreAtRest new probes
rest_turn old new probes hart result none same T rest = record {
  count = rest.count ∙ ap (λ (m : Machine). length m.device) (sym same);
  each = λ (d : ℕ) (blank : ProbeState) (below : d < length probes).
      rest_but (dev_of old d) (dev_of new d) (DeviceState.Probe (get_or probes d blank)) (turn_but old new hart result none T d) (rest.each d blank below);
}

-- 3. A tick

tick_plain : (q new : Seen) (result : Bool) → (state_of (plain q)).mode ≡ mode.Running → (state_of (plain q)).ticked ≡ false → TickedSo (plain q) new 64 result → why_of new ≡ None
    → (d : ℕ) → dev_of new d ≡ dev_of (plain q) d
tick_plain q new true runs first T none d = ap (λ (p : Seen). dev_of p d) T.2 ∙ ap (λ (s : State). s.devs d) (state_with q (entry.Tick 64))
tick_plain q new false runs first T none d =
    let full = tick_full (state_of (plain q)).mode (state_of (plain q)).ticked (plain q) new 64 runs first T in
    let seat : ℕ = seat_of q.machine (entry.Tick 64) in
    let ends = ap why_of full.new_is ∙ ap (λ (m : Mode). cause_in m) (end_ends (plain q) why.Full seat) in
    cc

tick_devs : (old new : Seen) (result : Bool) → old.outer ≡ None → (state_of old).mode ≡ mode.Running → (state_of old).ticked ≡ false → TickedSo old new 64 result → why_of new ≡ None
    → (d : ℕ) → dev_of new d ≡ dev_of old d
tick_devs old new result outer runs first T none d =
    let is = plain_is old outer in
    subst (λ (p : Seen). dev_of new d ≡ dev_of p d) (sym is)
    (tick_plain old new result (subst (λ (p : Seen). (state_of p).mode ≡ mode.Running) is runs) (subst (λ (p : Seen). (state_of p).ticked ≡ false) is first)
    (subst (λ (p : Seen). TickedSo p new 64 result) is T) none d)

pub done_tick : (old new : Seen) (probes : List ProbeState) (result : Bool) → old.outer ≡ None → (state_of old).mode ≡ mode.Running → (state_of old).ticked ≡ false → new.machine ≡ old.machine
    → TickedSo old new 64 result → why_of new ≡ None → AreDone old probes → AreDone new probes
done_tick old new probes result outer runs first same T none devices =
    let devs = tick_devs old new result outer runs first T none in
    record {
      rest = record {
        count = devices.rest.count ∙ ap (λ (m : Machine). length m.device) (sym same);
        each = λ (d : ℕ) (blank : ProbeState) (below : d < length probes).
            subst (λ (v : DeviceRun). IsAtRest v (DeviceState.Probe (get_or probes d blank))) (sym (devs d)) (devices.rest.each d blank below);
      };
      through = λ d below. subst (λ (v : DeviceRun). length v.made ≤ v.acted) (sym (devs d)) (devices.through d below);
    }
