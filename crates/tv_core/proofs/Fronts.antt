-- The events of a burst before its last one make no item.
use Rattle.std.proofs.Common.{◌≡◌, ℕ, zero, suc, ◌+◌, ◌-◌, ◌≤◌, ◌==◌, if◌then◌else◌, inl, inr, List, [], ◌∷◌, ◌++◌, length, length-append, refl, ap, sym, ◌∙◌, arith}
use Rattle.std.proofs.lemmas.Bool.Decides.{eqb_tells}
use Rattle.std.proofs.lemmas.Grind.{replicate_next}
use Rattle.tv_guest.specs.Burst.{IsBurst, events_of}
use Rattle.tv_hart.specs.HartState.{HartState}
use Rattle.tv_journal.specs.declared.Entry.TheVariants as entry
use Rattle.tv_spec.specs.declared.Closed.{Closed}
use Rattle.tv_spec.specs.declared.Made.{Made}
use Rattle.tv_spec.specs.declared.Maker.{Maker}
use Rattle.tv_spec.specs.declared.Mode.{Mode}
use Rattle.tv_spec.specs.declared.Shown.{Shown}
use Rattle.tv_spec.specs.declared.Shown.TheVariants as shown
use Rattle.tv_spec.specs.Devices.{item_of}
use Rattle.tv_spec.specs.Legal.{after}
use Rattle.tv_spec.specs.LocalState.{LocalState}
use Rattle.tv_spec.specs.Setup.{Setup}
use Rattle.tv_spec.specs.State.{State}
use Rattle.tv_spec.specs.Step.{Move, after_event, done, event_of, issued, made}
use Rattle.tv_spec.proofs.Moves.{after-append}

-- 1. Events in two parts, and the last of them by itself

events_split : (hart n m : ℕ) → events_of hart (n + m) ≡ events_of hart n ++ events_of hart m
events_split hart zero m = ap (events_of hart) (let same : 0 + m ≡ m = omega arith in same)
events_split hart (suc n) m =
    ap (events_of hart) (let same : suc n + m ≡ suc (n + m) = omega arith in same) ∙ ap (λ (ms : List Move). made (entry.Hart hart) ∷ ms) (events_split hart n m)

pub events_parts : (hart k n : ℕ) → k ≤ n → events_of hart n ≡ events_of hart k ++ events_of hart (n - k)
events_parts hart k n within = ap (events_of hart) (let r : n ≡ k + (n - k) = omega (arith, within) in r) ∙ events_split hart k (n - k)

pub events_next : (hart n : ℕ) → events_of hart (suc n) ≡ events_of hart n ++ made (entry.Hart hart) ∷ []
events_next hart n = ap (events_of hart) (let r : suc n ≡ n + 1 = omega arith in r) ∙ replicate_next n (made (entry.Hart hart))

-- 2. Items

-- the items that what an event shows makes at a device
abbrev pub items_by : Shown → ℕ → ℕ
items_by (shown.Access k how) d = if d == k then 1 else 0
items_by _ d = 0

pub issued_dev : (hart : ℕ) (what : Shown) (s : State) (d : ℕ)
    → (((issued hart what s).devs d).acted ≡ (s.devs d).acted) × (length ((issued hart what s).devs d).made ≡ length (s.devs d).made + items_by what d)
issued_dev hart shown.Nothing s d = (refl, omega arith)
issued_dev hart (shown.Byte byte) s d = (refl, omega arith)
issued_dev hart (shown.Finish finish) s d = (refl, omega arith)
issued_dev hart (shown.Access k how) s d =
    let m : Made = record { item = item_of how; maker = Maker.Hart hart } in
    elim (eqb_tells d k) [
      | inl e ↦ rw (e.0, e.1) (refl, length-append (s.devs k).made (m ∷ []))
      | inr e ↦ rw e.0 (refl, omega arith)
    ]

pub front_acted : (setup : Setup) (hart d n : ℕ) (s : State) → ((after setup s (events_of hart n)).devs d).acted ≡ (s.devs d).acted
front_acted setup hart d zero s = refl
front_acted setup hart d (suc n) s =
    front_acted setup hart d n (done setup s (made (entry.Hart hart))) ∙ (issued_dev hart (event_of s hart).2.shown (after_event setup s hart) d).0

items_grow : (setup : Setup) (hart d n : ℕ) (s : State) → length (s.devs d).made ≤ length ((after setup s (events_of hart n)).devs d).made
items_grow setup hart d zero s = omega arith
items_grow setup hart d (suc n) s =
    let one : length ((done setup s (made (entry.Hart hart))).devs d).made ≡ length (s.devs d).made + items_by (event_of s hart).2.shown d =
    (issued_dev hart (event_of s hart).2.shown (after_event setup s hart) d).1 in
    let rest = items_grow setup hart d n (done setup s (made (entry.Hart hart))) in
    omega (arith, one, rest)

pub front_items : (setup : Setup) (s : State) (hart n k d : ℕ) (later : HartState) (local : LocalState) (now : Mode) (closed : Closed) (what : Shown)
    → IsBurst setup s hart (suc n) later local now closed what → k ≤ n → length ((after setup s (events_of hart k)).devs d).made ≡ length (s.devs d).made
front_items setup s hart n k d later local now closed what B within =
    let e : Move = made (entry.Hart hart) in
    let t : State = after setup s (events_of hart n) in
    let last : after setup s (events_of hart (suc n)) ≡ done setup t e = ap (after setup s) (events_next hart n) ∙ after-append setup s (events_of hart n) (e ∷ []) in
    let whole : length ((after setup s (events_of hart (suc n))).devs d).made ≡ length (s.devs d).made + items_by what d =
    ap (λ (x : State). length (x.devs d).made) B.state ∙ (issued_dev hart what _ d).1 in
    let step : length ((done setup t e).devs d).made ≡ length (t.devs d).made + items_by what d =
    (issued_dev hart (event_of t hart).2.shown (after_event setup t hart) d).1 ∙ ap (λ (x : Shown). length (t.devs d).made + items_by x d) (sym (B.last n refl)) in
    let same : length ((done setup t e).devs d).made ≡ length (s.devs d).made + items_by what d = ap (λ (x : State). length (x.devs d).made) (sym last) ∙ whole in
    let low = items_grow setup hart d k s in
    let parts : t ≡ after setup (after setup s (events_of hart k)) (events_of hart (n - k)) =
    ap (after setup s) (events_parts hart k n within) ∙ after-append setup s (events_of hart k) (events_of hart (n - k)) in
    let high = items_grow setup hart d (n - k) (after setup s (events_of hart k)) in
    let top : length (t.devs d).made ≡ length ((after setup (after setup s (events_of hart k)) (events_of hart (n - k))).devs d).made = ap (λ (x : State). length (x.devs d).made) parts in
    omega (arith, step, same, low, high, top)
