-- A burst of events of a hart, event by event.
use Rattle.std.proofs.Common.{◌≡◌, ◌≢◌, ◌⊎◌, ℕ, suc, ◌+◌, ◌<◌, List, [], ◌∷◌, ◌++◌, None, Bool, false, eqb, refl, ap, sym, ◌∙◌, subst, append-nil, arith, length, inl, inr}
use Rattle.std.proofs.lemmas.Bool.Decides.{eqb_tells}
use Rattle.std.proofs.lemmas.Grind.{replicate_next}
use Rattle.tv_hart.specs.declared.Did.{Did}
use Rattle.tv_hart.specs.declared.Did.TheVariants as did
use Rattle.tv_hart.specs.declared.loads.Waiting.{Waiting}
use Rattle.std.specs.Prelude.{Option}
use Rattle.tv_hart.specs.Hart.{Outcome, WaitsAfter, stepped}
use Rattle.tv_hart.specs.HartState.{HartState}
use Rattle.tv_spec.specs.declared.Closed.{Closed}
use Rattle.tv_journal.specs.declared.Entry.TheVariants as entry
use Rattle.tv_spec.specs.declared.Mode.TheVariants as mode
use Rattle.tv_spec.specs.declared.Shown.{Shown}
use Rattle.tv_spec.specs.declared.Shown.TheVariants as shown
use Rattle.tv_spec.specs.Legal.{after}
use Rattle.tv_spec.specs.Local.{local_meaning}
use Rattle.tv_spec.specs.LocalState.{LocalState, lines_of}
use Rattle.tv_spec.specs.Reach.{Reach}
use Rattle.tv_spec.specs.Setup.{Setup}
use Rattle.tv_spec.specs.Shows.{byte_shown, bytes_of, debug_bytes}
use Rattle.tv_spec.specs.State.{State}
use Rattle.tv_spec.specs.Step.{Move, made, Can, done, end_at, end_shown, event_of, event_where, issued, mode_by}
use Rattle.tv_spec.specs.Update.{update}
use Rattle.tv_spec.proofs.HeldShown.{HeldShows, stepped_shows}
use Rattle.tv_spec.proofs.Memory.{IsPlace, place_stepped}
use Rattle.tv_spec.proofs.Moves.{after-append, legal-append}
use Rattle.tv_spec.proofs.Opened.{opened, opened_outcome, stepped_opened}
use Rattle.tv_spec.proofs.SoFar.{debug-append}
use Rattle.tv_spec.proofs.Updates.{update_here, update_same, update_twice}
use Rattle.tv_guest.specs.Burst.{IsBurst, Stands, after_events, events_of, mode_then}

not_equal : (a b : ℕ) → a ≢ b → eqb a b ≡ false
not_equal a b apart = elim (eqb_tells a b) [
  | inl same ↦ absurd (apart same.1)
  | inr other ↦ other.0
]

-- states with equal parts are one
pub same_state : (a b : State) → a.harts ≡ b.harts → a.pending ≡ b.pending → a.devs ≡ b.devs → a.local ≡ b.local → a.withdrawn ≡ b.withdrawn
    → a.mode ≡ b.mode → a.events ≡ b.events → a.ticked ≡ b.ticked → a ≡ b
same_state a b harts pending devs local withdrawn mode_is events ticked =
    λ i. record { harts = harts i; pending = pending i; devs = devs i; local = local i; withdrawn = withdrawn i; mode = mode_is i; events = events i; ticked = ticked i }

-- an access doesn't ask whether the entry before was a tick
ticked_issued : (hart : ℕ) (seen : Shown) (s : State) (b : Bool) → ◌≡◌ {A = State} (record (issued hart seen s) { ticked = b }) (issued hart seen (record s { ticked = b }))
ticked_issued hart shown.Nothing s b = refl
ticked_issued hart (shown.Byte byte) s b = refl
ticked_issued hart (shown.Finish finish) s b = refl
ticked_issued hart (shown.Access d how) s b = refl

-- no event
burst_none : (setup : Setup) (s : State) (hart : ℕ) (here : HartState) (local : LocalState) (most : ℕ) (closed : Closed) → Stands setup s hart here local most
    → IsBurst setup s hart 0 here local (mode_then setup s 0 shown.Nothing) closed shown.Nothing
burst_none setup s hart here local most closed at =
    let below : eqb (s.events + 0) setup.steps ≡ false = not_equal (s.events + 0) setup.steps (λ same. omega (arith, at.limit)) in
    let mode_is : s.mode ≡ mode_then setup s 0 shown.Nothing = rw below at.running in
    let events_are : s.events ≡ s.events + 0 = omega arith in
    record {
      legal = tt;
      state = same_state _ _ (update_here s.harts hart here at.hart_is) refl refl at.local_is refl mode_is events_are refl;
      bytes = refl;
      last = λ n is. absurd (omega (arith, is));
      carried = λ n less. absurd (omega (arith, less));
    }

-- the state that an event leaves, by the event
abbrev stepped_to : Setup → State → ℕ → Outcome Reach → State
stepped_to setup s hart o = record (issued hart o.2.shown (record s {
  harts = update s.harts hart o.1;
  local = o.2.local;
  mode = mode_by (end_at (eqb (s.events + 1) setup.steps) (end_shown o.2.shown));
  events = s.events + 1;
})) { ticked = false }

-- an event more, after events that showed nothing
burst_more : (setup : Setup) (s : State) (hart : ℕ) (first here later : HartState) (local now : LocalState) (most count : ℕ) (closed : Closed) (result : Did) (place : Reach) (seen : Shown)
    → Stands setup s hart first local most → IsBurst setup s hart count here now (mode_then setup s count shown.Nothing) closed shown.Nothing → count < most → result ≢ did.Full
    → ◌≡◌ {A = Outcome Reach} (result, later, place) (stepped local_meaning here (record { local = now; closed = closed; shown = shown.Nothing }) (lines_of now hart)) → seen ≡ place.shown
    → IsBurst setup s hart (count + 1) later place.local (mode_then setup s (count + 1) seen) closed seen
burst_more setup s hart first here later local now most count closed result place seen at burst few some event seen_is =
    let e : Move = made (entry.Hart hart) in
    let front : State = after setup s (events_of hart count) in
    let mid : State = after_events s hart count here now (mode_then setup s count shown.Nothing) shown.Nothing in
    let below : eqb (s.events + count) setup.steps ≡ false = not_equal (s.events + count) setup.steps (λ same. omega (arith, at.within)) in
    let running : mid.mode ≡ mode.Running = rw below refl in
    let here_is : mid.harts hart ≡ here = update_same s.harts hart here in
    let gated : event_where closed mid hart ≡ (result, later, place) =
    ap (λ (h : HartState). stepped local_meaning h (record { local = now; closed = closed; shown = shown.Nothing }) (lines_of now hart)) here_is ∙ sym event in
    let not_full : (event_where closed mid hart).0 ≢ did.Full = λ full. some (sym (ap (λ (o : Outcome Reach). o.0) gated) ∙ full) in
    let is : event_of mid hart ≡ (result, later, opened place) =
    stepped_opened (mid.harts hart) (record { local = mid.local; closed = closed; shown = shown.Nothing }) (lines_of mid.local hart) not_full ∙ ap opened_outcome gated in
    let can_mid : Can setup mid e = record { exists = at.exists; running = running; ready = at.free } in
    let can : Can setup front e = subst (λ (t : State). Can setup t e) (sym burst.state) can_mid in
    let list : events_of hart (count + 1) ≡ events_of hart count ++ e ∷ [] = replicate_next count e in
    let sum : s.events + count + 1 ≡ s.events + (count + 1) = omega arith in
    let one : eqb (count + 1) 0 ≡ false = not_equal (count + 1) 0 (λ same. omega arith) in
    let left : State = record s { harts = update (update s.harts hart here) hart later; local = place.local; mode = mode_by (end_at (eqb (s.events + count + 1) setup.steps) (end_shown place.shown)); events = s.events + count + 1; ticked = false } in
    let right : State = record s { harts = update s.harts hart later; local = place.local; mode = mode_then setup s (count + 1) seen; events = s.events + (count + 1); ticked = false } in
    let mode_is : left.mode ≡ right.mode =
    ap (λ (x : Shown). mode_by (end_at (eqb (s.events + count + 1) setup.steps) (end_shown x))) (sym seen_is)
    ∙ ap (λ (n : ℕ). mode_by (end_at (eqb n setup.steps) (end_shown seen))) sum in
    let both : left ≡ right = same_state left right (update_twice s.harts hart here later) refl refl refl refl mode_is sum refl in
    let done_is : done setup mid e ≡ issued hart seen right =
    ap (stepped_to setup mid hart) is
    ∙ ticked_issued hart place.shown _ false
    ∙ ap (λ (x : Shown). issued hart x left) (sym seen_is)
    ∙ ap (issued hart seen) both in
    let last_is : (event_of front hart).2.shown ≡ seen =
    ap (λ (t : State). (event_of t hart).2.shown) burst.state ∙ ap (λ (o : Outcome Reach). o.2.shown) is ∙ sym seen_is in
    record {
      legal = rw list (legal-append setup s (events_of hart count) (e ∷ []) burst.legal (can, tt));
      state =
          ap (after setup s) list
          ∙ after-append setup s (events_of hart count) (e ∷ [])
          ∙ ap (λ (t : State). done setup t e) burst.state
          ∙ done_is
          ∙ rw one refl;
      bytes =
          ap (debug_bytes setup s) list
          ∙ debug-append setup s (events_of hart count) (e ∷ [])
          ∙ ap (λ (xs : List ℕ). xs ++ debug_bytes setup front (e ∷ [])) burst.bytes
          ∙ append-nil (bytes_of front e)
          ∙ ap byte_shown last_is;
      last = λ (n : ℕ) (count_is : count + 1 ≡ suc n).
          let n_is : count ≡ n = omega (arith, count_is) in
          sym last_is ∙ ap (λ (k : ℕ). (event_of (after setup s (events_of hart k)) hart).2.shown) n_is;
      carried = λ (n : ℕ) (less : n < count + 1). elim (eqb_tells n count) [
        | inl same ↦ let at_front : (event_where closed front hart).0 ≢ did.Full = subst (λ (t : State). (event_where closed t hart).0 ≢ did.Full) (sym burst.state) not_full in
            subst (λ (k : ℕ). (event_where closed (after setup s (events_of hart k)) hart).0 ≢ did.Full) (sym same.1) at_front
        | inr other ↦ burst.carried n (let ne : n ≢ count = other.1 in omega (arith, less))
      ];
    }

-- an event that showed nothing, and was made, leaves a hart that waits for nothing
quiet_waits : (result : Did) (later : HartState) (place : Reach) (waits : Option Waiting) → ◌≡◌ {A = Shown} place.shown shown.Nothing → HeldShows (result, later, place) → result ≢ did.Full
    → WaitsAfter result waits → waits ≡ None
quiet_waits did.Retired later place waits quiet shows some is = is
quiet_waits (did.Trapped cause) later place waits quiet shows some is = is
quiet_waits did.Held later place waits quiet shows some is = absurd (let r = rw quiet at shows in r)
quiet_waits did.Full later place waits quiet shows some is = is

-- so many events were made, and none of them showed anything
pub record IsAlong (hart : ℕ) (first here : HartState) (reach now : Reach) (most count : ℕ) : Type 0 where
  pub burst : (setup : Setup) (s : State) → Stands setup s hart first reach.local most → IsBurst setup s hart count here now.local (mode_then setup s count shown.Nothing) reach.closed shown.Nothing
  pub ready : here.waits ≡ None
  pub quiet : now.shown ≡ shown.Nothing
  pub gate : now.closed ≡ reach.closed
  pub same : count ≡ 0 → (here ≡ first) × (now ≡ reach)

pub along_start : (hart : ℕ) (first : HartState) (reach : Reach) (most : ℕ) → first.waits ≡ None → reach.shown ≡ shown.Nothing → IsAlong hart first first reach reach most 0
along_start hart first reach most ready quiet = record {
  burst = λ setup s at. burst_none setup s hart first reach.local most reach.closed at;
  ready = ready;
  quiet = quiet;
  gate = refl;
  same = λ none. (refl, refl);
}

-- the place as an event finds it
place_now : (now : Reach) (closed : Closed) → now.shown ≡ shown.Nothing → now.closed ≡ closed → now ≡ record { local = now.local; closed = closed; shown = shown.Nothing }
place_now now closed quiet gate = λ i. record { local = now.local; closed = gate i; shown = quiet i }

-- the event, as the code comes to it
pub event_made : (hart : ℕ) (first here later : HartState) (reach now asked place : Reach) (most count lines : ℕ) (result : Did) → IsAlong hart first here reach now most count
    → lines ≡ lines_of now.local hart → asked ≡ now → ◌≡◌ {A = Outcome Reach} (result, later, place) (stepped local_meaning here asked lines)
    → ◌≡◌ {A = Outcome Reach} (result, later, place) (stepped local_meaning here (record { local = now.local; closed = reach.closed; shown = shown.Nothing }) (lines_of now.local hart))
event_made hart first here later reach now asked place most count lines result along lines_are asked_is event =
    event ∙ ap (λ (l : Reach). stepped local_meaning here l lines) asked_is ∙ ap (stepped local_meaning here now) lines_are
    ∙ ap (λ (l : Reach). stepped local_meaning here l (lines_of now.local hart)) (place_now now reach.closed along.quiet along.gate)

-- what it leaves closed
pub gate_kept : (hart : ℕ) (here later : HartState) (now place : Reach) (closed : Closed) (result : Did) (lines : ℕ)
    → ◌≡◌ {A = Outcome Reach} (result, later, place) (stepped local_meaning here (record { local = now.local; closed = closed; shown = shown.Nothing }) lines) → place.closed ≡ closed
gate_kept hart here later now place closed result lines event =
    let start : Reach = record { local = now.local; closed = closed; shown = shown.Nothing } in
    let kept : IsPlace (length now.local.ram) now.local.devices closed (stepped local_meaning here start lines).2 =
    place_stepped (length now.local.ram) now.local.devices closed here start lines (record { ram = refl; count = refl; gate = refl; seen = tt }) in
    ap (λ (o : Outcome Reach). o.2.closed) event ∙ kept.gate

-- whether its hart waits
pub ready_after : (here later : HartState) (now place : Reach) (closed : Closed) (result : Did) (lines : ℕ)
    → ◌≡◌ {A = Outcome Reach} (result, later, place) (stepped local_meaning here (record { local = now.local; closed = closed; shown = shown.Nothing }) lines)
    → place.shown ≡ shown.Nothing → result ≢ did.Full → WaitsAfter result later.waits → later.waits ≡ None
ready_after here later now place closed result lines event quiet some waits =
    let start : Reach = record { local = now.local; closed = closed; shown = shown.Nothing } in
    let shows : HeldShows (result, later, place) = subst (λ (o : Outcome Reach). HeldShows o) (sym event) (stepped_shows here start lines (λ l. l)) in
    quiet_waits result later place later.waits quiet shows some waits

-- an event more, as the code comes to it
pub along_more : (hart : ℕ) (first here later : HartState) (reach now asked place quiet : Reach) (most count lines : ℕ) (result : Did) (seen : Shown) → IsAlong hart first here reach now most count → count < most → lines ≡ lines_of now.local hart → asked ≡ now
    → result ≢ did.Full → ◌≡◌ {A = Outcome Reach} (result, later, place) (stepped local_meaning here asked lines) → seen ≡ place.shown → quiet ≡ record place { shown = shown.Nothing }
    → (setup : Setup) (s : State) → Stands setup s hart first reach.local most → IsBurst setup s hart (count + 1) later quiet.local (mode_then setup s (count + 1) seen) reach.closed seen
along_more hart first here later reach now asked place quiet most count lines result seen along few lines_are asked_is some event seen_is quiet_is setup s at =
    let event_is = event_made hart first here later reach now asked place most count lines result along lines_are asked_is event in
    subst (λ (local : LocalState). IsBurst setup s hart (count + 1) later local (mode_then setup s (count + 1) seen) reach.closed seen) (sym (ap (λ (l : Reach). l.local) quiet_is))
    (burst_more setup s hart first here later reach.local now.local most count reach.closed result place seen at (along.burst setup s at) few some event_is seen_is)

-- an event that was made is not Full
pub made_is_some : (result : Did) → (result ≡ did.Retired) ⊎ ((cause : ℕ) × (result ≡ did.Trapped cause)) ⊎ (result ≡ did.Held) → result ≢ did.Full
made_is_some result is full = elim is [
  | inl e ↦ cc
  | inr f ↦ elim f [ inl e ↦ (let g : did.Trapped e.0 ≡ did.Full = sym e.1 ∙ full in cc) | inr e ↦ cc ]
]
