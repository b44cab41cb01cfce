-- A turn of a hart of a core is that of the schedule: so many events, and then the end of the run or what holds the hart up.
use Rattle.std.proofs.Common.{◌≡◌, ℕ, zero, suc, ◌+◌, ◌-◌, ◌<◌, ◌≤◌, ◌==◌, inl, inr, Bool, true, false, List, [], ◌∷◌, ◌++◌, length, length-append, replicate, Option, Some, None, refl, ap, sym, ◌∙◌, subst, arith}
use Rattle.std.proofs.lemmas.Bool.Decides.{leb_tells}
use Rattle.tv_base.specs.declared.Why.{Why}
use Rattle.tv_base.specs.declared.Why.TheVariants as why
use Rattle.tv_base.specs.declared.limits.TheConstants.{DEBUG_RING_BYTES}
use Rattle.tv_guest.specs.Burst.{events_of}
use Rattle.tv_hart.specs.declared.Did.TheVariants as did
use Rattle.tv_intc.specs.declared.ending.Finish.TheVariants as finisher
use Rattle.tv_items.specs.declared.action.Heard.{Heard}
use Rattle.tv_journal.specs.declared.Entry.TheVariants as entry
use Rattle.tv_journal.specs.Entries.{record_count}
use Rattle.tv_machine.specs.Valid.{IsValid}
use Rattle.tv_spec.specs.declared.Mode.{Mode}
use Rattle.tv_spec.specs.declared.Mode.TheVariants as mode
use Rattle.tv_spec.specs.declared.Pending.{Pending}
use Rattle.tv_spec.specs.declared.Shown.{Shown}
use Rattle.tv_spec.specs.declared.Shown.TheVariants as shown
use Rattle.tv_spec.specs.declared.Stop.{Stop}
use Rattle.tv_spec.specs.declared.Stop.TheVariants as stop
use Rattle.tv_spec.specs.Legal.{IsLegal, IsLegalRun, after, with_outer}
use Rattle.tv_spec.specs.Room.{owed}
use Rattle.tv_spec.specs.Setup.{Setup}
use Rattle.tv_spec.specs.Shows.{bytes_of, byte_shown, cause_in, debug_bytes}
use Rattle.tv_spec.specs.Solo.{Going, Solo, going, onward, solo_event, stopped_by}
use Rattle.tv_spec.specs.State.{State}
use Rattle.tv_spec.specs.Step.{Move, after_event, done, end_at, end_shown, ended, event_of, made, mode_by}
use Rattle.tv_spec.proofs.Moves.{after-append, legal-append, legal-parts}
use Rattle.tv_spec.proofs.Rest.{beside_issued}
use Rattle.tv_spec.proofs.SoFar.{debug-append}
use Rattle.tv_core.specs.declared.proxied.Turn.{Turn}
use Rattle.tv_core.specs.declared.proxied.Turn.TheVariants as turned
use Rattle.tv_core.specs.Calls.{IsFullAt, IsRanFor, Stalls, StopsTurn, TurnedSo}
use Rattle.tv_core.specs.Seen.{Seen, debug_of, first_by, seat_of, setup_by, state_of, with_end, with_events}
use Rattle.tv_core.proofs.Behind.{front_moves, front_state}
use Rattle.tv_core.proofs.Fronts.{events_parts}
use Rattle.tv_core.proofs.History.{outer_set}
use Rattle.tv_core.proofs.Turns.{end_ends}
use Rattle.tv_runner.specs.Cores.{EndsBy, IsPartOf, bounds_by, solo_of, stop_for, stop_of}
use Rattle.tv_runner.specs.Parts.{turn_of}
use Rattle.tv_runner.proofs.Bursts.{turn-on, with_events as solo_with}
use Rattle.tv_runner.proofs.CoreEvents.{IsThere, did_in, full_stalls, is_there, stalls_full}
use Rattle.tv_runner.proofs.On.{turn-over}
use Rattle.tv_runner.proofs.SoloTurns.{IsCarried, event_full, event_stalls, event_waits, turn_full, turn_made, turn_still}

-- 1. How a run stops behind an event

-- it stops as the schedule has it, and there is no outer end
pub record IsOwnEnd (m : Mode) : Type 0 where
  pub stop_is : stop_for (cause_in m) ≡ stopped_by m
  pub ends : (p : Seen) → p.outer ≡ None → EndsBy (stop_for (cause_in m)) p

pub own_running : IsOwnEnd mode.Running
own_running = record { stop_is = refl; ends = λ p none. none }

own_end : (last : Bool) (what : Shown) → IsOwnEnd (mode_by (end_at last (end_shown what)))
own_end last (shown.Finish finisher.Off) = record { stop_is = refl; ends = λ p none. none }
own_end last (shown.Finish (finisher.Failed code)) = record { stop_is = refl; ends = λ p none. none }
own_end true shown.Nothing = record { stop_is = refl; ends = λ p none. none }
own_end false shown.Nothing = own_running
own_end true (shown.Byte byte) = record { stop_is = refl; ends = λ p none. none }
own_end false (shown.Byte byte) = own_running
own_end true (shown.Access d how) = record { stop_is = refl; ends = λ p none. none }
own_end false (shown.Access d how) = own_running

own_event : (setup : Setup) (s : State) (hart : ℕ) → IsOwnEnd (done setup s (made (entry.Hart hart))).mode
own_event setup s hart =
    subst IsOwnEnd (sym (beside_issued hart (event_of s hart).2.shown (after_event setup s hart)).mode_is) (own_end (s.events + 1 == setup.steps) (event_of s hart).2.shown)

own_events : (setup : Setup) (hart n : ℕ) (s : State) → IsOwnEnd (after setup s (events_of hart (suc n))).mode
own_events setup hart zero s = own_event setup s hart
own_events setup hart (suc n) s = own_events setup hart n (done setup s (made (entry.Hart hart)))

-- what follows makes nothing where the run goes on
rest_still : (part : Solo → Going) (solo : Solo) → (solo.state.mode ≡ mode.Running → part solo ≡ (solo, None)) → onward part (going solo) ≡ going solo
rest_still part solo still = by_mode solo.state.mode refl
  where
    by_mode : (m : Mode) → solo.state.mode ≡ m → ◌≡◌ {A = Going} (onward part (solo, stopped_by m)) (solo, stopped_by m)
    by_mode mode.Running is = still is
    by_mode (mode.Ending cause) is = refl

-- 2. A history without an outer end, and events behind it

abbrev pub plain : Seen → Seen
plain p = record p { outer = None }

pub plain_is : (p : Seen) → p.outer ≡ None → p ≡ plain p
plain_is p none = ap (λ (o : Option (ℕ × Why)). let q : Seen = record p { outer = o } in q) none

pub state_behind : (q : Seen) (hart n : ℕ) → state_of (with_events (plain q) hart n) ≡ after (setup_by q) (state_of (plain q)) (events_of hart n)
state_behind q hart n = front_state (setup_by q) (first_by q) q.entries None hart n refl

bytes_behind : (q : Seen) (hart n : ℕ) → debug_of (with_events (plain q) hart n) ≡ debug_of (plain q) ++ debug_bytes (setup_by q) (state_of (plain q)) (events_of hart n)
bytes_behind q hart n =
    ap (debug_bytes (setup_by q) (first_by q)) (front_moves q.entries None hart n refl)
    ∙ debug-append (setup_by q) (first_by q) (with_outer q.entries None) (events_of hart n)

solo_behind : (q : Seen) (answers : ℕ → List Heard) (hart n : ℕ) → solo_of (with_events (plain q) hart n) answers ≡ solo_with (setup_by q) (solo_of (plain q) answers) hart n
solo_behind q answers hart n =
    let state_is = state_behind q hart n in
    let bytes_are = bytes_behind q hart n in
    λ i. record { state = state_is i; entries = q.entries ++ replicate n (entry.Hart hart); bytes = bytes_are i; answers = answers }

few_bytes : (setup : Setup) (hart n : ℕ) (s : State) → length (debug_bytes setup s (events_of hart n)) ≤ n
few_bytes setup hart zero s = omega arith
few_bytes setup hart (suc n) s =
    let e : Move = made (entry.Hart hart) in
    let one = one_byte (event_of s hart).2.shown in
    let rest = few_bytes setup hart n (done setup s e) in
    let all = length-append (bytes_of s e) (debug_bytes setup (done setup s e) (events_of hart n)) in
    omega (arith, one, rest, all)
  where
    one_byte : (what : Shown) → length (byte_shown what) ≤ 1
    one_byte shown.Nothing = omega arith
    one_byte (shown.Byte byte) = omega arith
    one_byte (shown.Finish finish) = omega arith
    one_byte (shown.Access d how) = omega arith

-- an event shows at most a byte
pub bytes_within : (q : Seen) (hart n : ℕ) → length (debug_of (with_events (plain q) hart n)) ≤ length (debug_of (plain q)) + n
bytes_within q hart n =
    let few = few_bytes (setup_by q) hart n (state_of (plain q)) in
    let all = length-append (debug_of (plain q)) (debug_bytes (setup_by q) (state_of (plain q)) (events_of hart n)) in
    let is = ap (λ (xs : List ℕ). length xs) (bytes_behind q hart n) in
    omega (arith, few, all, is)

legal_behind : (q : Seen) (hart n k : ℕ) → IsLegal (setup_by q) (first_by q) (with_outer q.entries None) → IsLegal (setup_by q) (state_of (plain q)) (events_of hart n) → k ≤ n
    → IsLegalRun q.machine q.image (with_events (plain q) hart k).entries None
legal_behind q hart n k before legal few =
    let front = legal-parts (setup_by q) (state_of (plain q)) (events_of hart k) (events_of hart (n - k)) (subst (IsLegal (setup_by q) (state_of (plain q))) (events_parts hart k n few) legal) in
    record {
      place = tt;
      legal = subst (IsLegal (setup_by q) (first_by q)) (sym (front_moves q.entries None hart k refl))
          (legal-append (setup_by q) (first_by q) (with_outer q.entries None) (events_of hart k) before front.0);
    }

-- 3. The end of a turn

-- an event that finds no room
pub full_part : (q new : Seen) (hart left : ℕ) → IsThere (plain q) → 0 < left → IsFullAt (plain q) new hart → IsPartOf (turn_of hart left) (plain q) new
full_part q new hart left there some full =
    let p : Seen = plain q in
    let later : Seen = with_end p why.Full (seat_of p.machine (entry.Hart hart)) in
    let stops : stop_of later ≡ Some stop.Full = ap (λ (m : Mode). stop_for (cause_in m)) (end_ends p why.Full (seat_of p.machine (entry.Hart hart))) in
    subst (λ (x : Seen). IsPartOf (turn_of hart left) p x) (sym full.full.new_is) record {
      machine = refl;
      image = refl;
      handed = refl;
      made = λ (answers : ℕ → List Heard).
          ap (λ (o : Option Stop). let g : Going = (solo_of p answers, o) in g) stops
          ∙ sym (turn_full (setup_by p) (bounds_by p) hart left (solo_of p answers) some
          (event_full (setup_by p) (bounds_by p) hart (solo_of p answers) full.full.may.ready (λ is. full.carried (full_stalls p hart there is)) full.full.wanting));
      ends = subst (λ (o : Option Stop). EndsBy o later) (sym stops) refl;
    }

-- what holds a hart up in the core does so in the schedule
held_up : (q : Seen) (hart left : ℕ) (answers : ℕ → List Heard) → IsThere (plain q) → length (debug_of (plain q)) < q.handed + DEBUG_RING_BYTES → (state_of (plain q)).mode ≡ mode.Running → StopsTurn (plain q) hart
    → turn_of hart left (setup_by q) (bounds_by q) (solo_of q answers) ≡ (solo_of q answers, None)
held_up q hart left answers there ring running (StopsTurn.stopped over) = absurd (over running)
held_up q hart left answers there ring running (StopsTurn.waits some) =
    turn_still (setup_by q) (bounds_by q) hart left (solo_of q answers) (event_waits (setup_by q) (bounds_by q) hart (solo_of q answers) some)
held_up q hart left answers there ring running (StopsTurn.stalls stalls) =
    turn_still (setup_by q) (bounds_by q) hart left (solo_of q answers)
    (by_load ((state_of (plain q)).pending hart) refl)
  where
    by_load : (o : Option Pending) → (state_of (plain q)).pending hart ≡ o → ◌≡◌ {A = Going} (solo_event (setup_by q) (bounds_by q) hart (solo_of q answers)) (solo_of q answers, None)
    by_load None is = event_stalls (setup_by q) (bounds_by q) hart (solo_of q answers) is (stalls_full (plain q) hart there ring stalls)
    by_load (Some load) is = event_waits (setup_by q) (bounds_by q) hart (solo_of q answers) (λ none. cc)

-- 4. A turn

-- a core in which a hart has its turn, and one after it
pub record IsAtTurn (p : Seen) (hart : ℕ) : Type 0 where
  pub valid : IsValid p.machine
  pub legal : IsLegalRun p.machine p.image p.entries p.outer
  pub exists : hart < p.machine.harts
  pub running : (state_of p).mode ≡ mode.Running
  pub ring : length (debug_of p) + 64 ≤ p.handed + DEBUG_RING_BYTES

pub record IsLater (p : Seen) : Type 0 where
  pub legal : IsLegalRun p.machine p.image p.entries p.outer
  pub room : record_count p.entries + owed (state_of p) ≤ p.machine.journal_entries

-- at none of so many events the hart stalls
abbrev AreCarried : Seen → ℕ → ℕ → Type 0
AreCarried p hart n = (k : ℕ) → k < n → Stalls (with_events p hart k) hart → ⊥

legal_made : (q : Seen) (hart n : ℕ) → IsLater (with_events (plain q) hart n) → IsLegal (setup_by q) (state_of (plain q)) (events_of hart n)
legal_made q hart n L =
    (legal-parts (setup_by q) (first_by q) (with_outer q.entries None) (events_of hart n) (subst (IsLegal (setup_by q) (first_by q)) (front_moves q.entries None hart n refl) L.legal.legal)).1

there_behind : (q : Seen) (hart n k : ℕ) → IsAtTurn (plain q) hart → IsLater (with_events (plain q) hart n) → k ≤ n → IsThere (with_events (plain q) hart k)
there_behind q hart n k A L few = is_there (with_events (plain q) hart k) A.valid (legal_behind q hart n k A.legal.legal (legal_made q hart n L) few)

ring_behind : (q : Seen) (hart n : ℕ) → IsAtTurn (plain q) hart → n < 64 → length (debug_of (with_events (plain q) hart n)) < q.handed + DEBUG_RING_BYTES
ring_behind q hart n A few = let all = bytes_within q hart n in let ring = A.ring in omega (arith, all, ring, few)

-- events without an end behind them
ran_made : (q : Seen) (hart n : ℕ) (answers : ℕ → List Heard) → IsAtTurn (plain q) hart → IsLater (with_events (plain q) hart (suc n)) → AreCarried (plain q) hart (suc n)
    → ◌≡◌ {A = Going} (turn_of hart (suc n) (setup_by q) (bounds_by q) (solo_of q answers)) (going (solo_of (with_events (plain q) hart (suc n)) answers))
ran_made q hart n answers A L carried =
    let setup : Setup = setup_by q in
    let s : State = state_of (plain q) in
    let below : hart < 8 = (let most = A.valid.harts.1 in let exists = A.exists in omega (arith, most, exists)) in
    let each : (k : ℕ) → k < suc n → IsCarried setup (bounds_by q) (after setup s (events_of hart k)) hart = λ k less full.
    carried k less (full_stalls (with_events (plain q) hart k) hart (there_behind q hart (suc n) k A L (omega (arith, less)))
    (subst (λ (t : State). did_in setup (bounds_by q) t hart ≡ did.Full) (sym (state_behind q hart k)) full)) in
    let fits : record_count (q.entries ++ replicate (suc n) (entry.Hart hart)) + owed (after setup s (events_of hart (suc n))) ≤ q.machine.journal_entries =
    subst (λ (t : State). record_count (q.entries ++ replicate (suc n) (entry.Hart hart)) + owed t ≤ q.machine.journal_entries) (state_behind q hart (suc n)) L.room in
    turn_made setup (bounds_by q) hart n (solo_of q answers) below (legal_made q hart (suc n) L) each fits ∙ ap going (sym (solo_behind q answers hart (suc n)))

turn_parts : (q : Seen) (hart n : ℕ) (answers : ℕ → List Heard) → IsAtTurn (plain q) hart → IsLater (with_events (plain q) hart (suc n)) → AreCarried (plain q) hart (suc n) → suc n ≤ 64
    → ◌≡◌ {A = Going} (turn_of hart 64 (setup_by q) (bounds_by q) (solo_of q answers)) (onward (turn_of hart (64 - suc n) (setup_by q) (bounds_by q)) (going (solo_of (with_events (plain q) hart (suc n)) answers)))
turn_parts q hart n answers A L carried few =
    turn-on hart (suc n) (64 - suc n) 64 (setup_by q) (bounds_by q) (solo_of q answers) (omega (arith, few))
    ∙ ap (onward (turn_of hart (64 - suc n) (setup_by q) (bounds_by q))) (ran_made q hart n answers A L carried)

-- they are all, or something holds the hart up behind them
ran_part : (q : Seen) (hart n : ℕ) → IsAtTurn (plain q) hart → IsLater (with_events (plain q) hart (suc n)) → AreCarried (plain q) hart (suc n) → suc n ≤ 64
    → (suc n < 64 → StopsTurn (with_events (plain q) hart (suc n)) hart) → IsPartOf (turn_of hart 64) (plain q) (with_events (plain q) hart (suc n))
ran_part q hart n A L carried few stops =
    let later : Seen = with_events (plain q) hart (suc n) in
    let own : IsOwnEnd (state_of later).mode = subst (λ (s : State). IsOwnEnd s.mode) (sym (state_behind q hart (suc n))) (own_events (setup_by q) hart n (state_of (plain q))) in
    record {
      machine = refl;
      image = refl;
      handed = refl;
      made = λ (answers : ℕ → List Heard).
          ap (λ (o : Option Stop). let g : Going = (solo_of later answers, o) in g) own.stop_is
          ∙ sym (turn_parts q hart n answers A L carried few
          ∙ rest_still (turn_of hart (64 - suc n) (setup_by q) (bounds_by q)) (solo_of later answers) (still answers));
      ends = own.ends later refl;
    }
  where
    still : (answers : ℕ → List Heard) → (state_of (with_events (plain q) hart (suc n))).mode ≡ mode.Running
        → ◌≡◌ {A = Going} (turn_of hart (64 - suc n) (setup_by q) (bounds_by q) (solo_of (with_events (plain q) hart (suc n)) answers)) (solo_of (with_events (plain q) hart (suc n)) answers, None)
    still answers running = elim (leb_tells 64 (suc n)) [
      | inl e ↦ turn-over hart (64 - suc n) (setup_by q) (bounds_by q) (solo_of (with_events (plain q) hart (suc n)) answers) (let all = e.1 in omega (arith, all))
      | inr e ↦ held_up (with_events q hart (suc n)) hart (64 - suc n) answers (there_behind q hart (suc n) (suc n) A L (omega arith)) (ring_behind q hart (suc n) A e.1) running (stops e.1)
    ]

-- or the next one finds no room
ran_full : (q new : Seen) (hart n : ℕ) → IsAtTurn (plain q) hart → IsLater (with_events (plain q) hart (suc n)) → AreCarried (plain q) hart (suc n) → suc n < 64
    → IsFullAt (with_events (plain q) hart (suc n)) new hart → IsPartOf (turn_of hart 64) (plain q) new
ran_full q new hart n A L carried few full =
    let later : Seen = with_events (plain q) hart (suc n) in
    let part : IsPartOf (turn_of hart (64 - suc n)) later new = full_part (with_events q hart (suc n)) new hart (64 - suc n) (there_behind q hart (suc n) (suc n) A L (omega arith)) (omega (arith, few)) full in
    record {
      machine = part.machine;
      image = part.image;
      handed = part.handed;
      made = λ (answers : ℕ → List Heard).
          part.made answers
          ∙ sym (turn_parts q hart n answers A L carried (omega (arith, few))
          ∙ ap (λ (m : Mode). onward (turn_of hart (64 - suc n) (setup_by q) (bounds_by q)) (solo_of later answers, stopped_by m)) full.full.may.running);
      ends = part.ends;
    }

-- or there is none
still_part : (q : Seen) (hart : ℕ) → IsAtTurn (plain q) hart → StopsTurn (plain q) hart → IsPartOf (turn_of hart 64) (plain q) (plain q)
still_part q hart A stops =
    let there : IsThere (plain q) = is_there (plain q) A.valid A.legal in
    let goes_on : stop_of (plain q) ≡ None = ap (λ (m : Mode). stop_for (cause_in m)) A.running in
    record {
      machine = refl;
      image = refl;
      handed = refl;
      made = λ (answers : ℕ → List Heard).
          ap (λ (o : Option Stop). let g : Going = (solo_of q answers, o) in g) goes_on
          ∙ sym (held_up q hart 64 answers there (let ring = A.ring in omega (arith, ring)) A.running stops);
      ends = subst (λ (o : Option Stop). EndsBy o (plain q)) (sym goes_on) refl;
    }

-- the core before the run ended as full
later_before : (q : Seen) (seat : ℕ) → IsLater (with_end (plain q) why.Full seat) → IsLater (plain q)
later_before q seat L =
    let setup : Setup = setup_by q in
    let moves : List Move = with_outer q.entries None in
    let state_is : state_of (with_end (plain q) why.Full seat) ≡ done setup (state_of (plain q)) (ended why.Full) =
    ap (after setup (first_by q)) (outer_set q.entries why.Full) ∙ after-append setup (first_by q) moves (ended why.Full ∷ []) in
    record {
      legal = record {
        place = tt;
        legal = (legal-parts setup (first_by q) moves (ended why.Full ∷ []) (subst (IsLegal setup (first_by q)) (outer_set q.entries why.Full) L.legal.legal)).0;
      };
      room = subst (λ (s : State). record_count q.entries + owed s ≤ q.machine.journal_entries) state_is L.room;
    }

ran_is : (q new : Seen) (hart n : ℕ) → IsAtTurn (plain q) hart → IsLater new → IsRanFor (plain q) new hart 64 n → IsPartOf (turn_of hart 64) (plain q) new
ran_is q new hart zero A L R = absurd (let some = R.some in omega (arith, some))
ran_is q new hart (suc n) A L R = elim R.then_full [
  | inl is ↦ subst (λ (x : Seen). IsPartOf (turn_of hart 64) (plain q) x) (sym is)
      (ran_part q hart n A (subst IsLater is L) R.carried R.few (subst (λ (x : Seen). suc n < 64 → StopsTurn x hart) is R.stops))
  | inr full ↦ ran_full q new hart n A
      (later_before (with_events q hart (suc n)) (seat_of q.machine (entry.Hart hart)) (subst IsLater full.1.full.new_is L)) R.carried full.0 full.1
]

turn_plain : (q new : Seen) (hart : ℕ) (result : Turn) → IsAtTurn (plain q) hart → IsLater new → TurnedSo (plain q) new hart 64 result → IsPartOf (turn_of hart 64) (plain q) new
turn_plain q new hart (turned.Ran n) A L T = ran_is q new hart n A L T
turn_plain q new hart turned.Ending A L (inl over) = absurd (over.0 (rw A.running tt))
turn_plain q new hart turned.Ending A L (inr full) = full_part q new hart 64 (is_there (plain q) A.valid A.legal) (omega arith) full
turn_plain q new hart turned.Waits A L T =
    subst (λ (x : Seen). IsPartOf (turn_of hart 64) (plain q) x) (sym T.2) (still_part q hart A (StopsTurn.waits T.1))
turn_plain q new hart turned.Stalled A L T =
    subst (λ (x : Seen). IsPartOf (turn_of hart 64) (plain q) x) (sym T.3) (still_part q hart A (StopsTurn.stalls T.2))

-- a turn of a hart of a core is that of the schedule
pub turn_is : (old new : Seen) (hart : ℕ) (result : Turn) → old.outer ≡ None → IsAtTurn old hart → IsLater new → TurnedSo old new hart 64 result → IsPartOf (turn_of hart 64) old new
turn_is old new hart result none A L T =
    let is = plain_is old none in
    subst (λ (p : Seen). IsPartOf (turn_of hart 64) p new) (sym is)
    (turn_plain old new hart result (subst (λ (p : Seen). IsAtTurn p hart) is A) L (subst (λ (p : Seen). TurnedSo p new hart 64 result) is T))
