-- Bytes of the debug port along the schedule: a round adds some behind those that were shown, and only harts show any.
use Rattle.std.proofs.Common.{◌≡◌, ℕ, zero, suc, Bool, true, false, List, [], ◌∷◌, ◌++◌, length, append_assoc, append-nil, Option, Some, None, refl, ap, sym, ◌∙◌, arith}
use Rattle.std.specs.Prelude.{nat_lt}
use Rattle.tv_base.specs.declared.Why.{Why}
use Rattle.tv_base.specs.declared.Why.TheVariants as why
use Rattle.tv_hart.specs.declared.Did.{Did}
use Rattle.tv_hart.specs.declared.Did.TheVariants as did
use Rattle.tv_items.specs.declared.action.Heard.{Heard}
use Rattle.tv_items.specs.declared.action.Way.{Way}
use Rattle.tv_items.specs.declared.action.Way.TheVariants.{Memory, Interrupt, Outside}
use Rattle.tv_items.specs.Fits.{way_of}
use Rattle.tv_journal.specs.declared.Entry.{Entry}
use Rattle.tv_journal.specs.declared.Entry.TheVariants as entry
use Rattle.tv_plan.specs.Devices.{DeviceState}
use Rattle.tv_script.specs.Services.{Next, Asks, Rests, Loses}
use Rattle.tv_spec.specs.declared.Due.{Due}
use Rattle.tv_spec.specs.declared.Pending.{Pending}
use Rattle.tv_spec.specs.declared.Phase.{Phase}
use Rattle.tv_spec.specs.declared.Stop.{Stop}
use Rattle.tv_spec.specs.declared.Stop.TheVariants as stop
use Rattle.tv_spec.specs.Devices.{next_of}
use Rattle.tv_spec.specs.Legal.{after, with_outer}
use Rattle.tv_spec.specs.Room.{has_room}
use Rattle.tv_spec.specs.Setup.{Setup}
use Rattle.tv_spec.specs.Shows.{bytes_of, debug_bytes}
use Rattle.tv_spec.specs.Solo.{Bounds, Going, Solo, answer_entry, answers_after, begun_entry, device_entry, device_makes, device_step, device_turn, device_turns, event_by, event_unless, onward, phase_entry, round, served_entry, solo_entry, solo_event, solo_tick, turn, turns}
use Rattle.tv_spec.specs.State.{DeviceRun, State}
use Rattle.tv_spec.specs.Step.{is_tick, made}
use Rattle.tv_core.specs.Seen.{Seen, debug_of, first_by, setup_by, state_of}
use Rattle.tv_core.proofs.Room.{event_count, events_done}
use Rattle.tv_runner.specs.Cores.{EndsBy, IsPartOf, bounds_by, solo_of, stop_of}
use Rattle.tv_runner.specs.Engines.{all_devices}
use Rattle.tv_runner.specs.Parts.{Part}
use Rattle.tv_runner.proofs.CoreLoops.{end_bytes}

-- 1. Entries of devices

abbrev IsDevices : Entry → Type 0
IsDevices (entry.Hart hart) = ⊥
IsDevices (entry.Tick n) = ⊥
IsDevices e = Unit {0}

abbrev AreDevices : Option Entry → Type 0
AreDevices None = Unit {0}
AreDevices (Some e) = IsDevices e

begun_theirs : (d : ℕ) (v : DeviceRun) (n : Next DeviceState) → AreDevices (begun_entry d v n)
begun_theirs d v (Asks action) = by_way (way_of action) refl
  where
    by_way : (w : Way) → way_of action ≡ w → AreDevices (begun_entry d v (Asks action))
    by_way Memory is = rw is tt
    by_way Interrupt is = rw is tt
    by_way Outside is = rw is tt
begun_theirs d v (Rests state) = by_items (nat_lt v.acted (length v.made)) refl
  where
    by_items : (b : Bool) → nat_lt v.acted (length v.made) ≡ b → AreDevices (begun_entry d v (Rests state))
    by_items true is = rw is tt
    by_items false is = rw is tt
begun_theirs d v (Loses state) = by_items (nat_lt v.acted (length v.made)) refl
  where
    by_items : (b : Bool) → nat_lt v.acted (length v.made) ≡ b → AreDevices (begun_entry d v (Loses state))
    by_items true is = rw is tt
    by_items false is = rw is tt

served_theirs : (d : ℕ) (n : Next DeviceState) → AreDevices (served_entry d n)
served_theirs d (Asks action) = by_way (way_of action) refl
  where
    by_way : (w : Way) → way_of action ≡ w → AreDevices (served_entry d (Asks action))
    by_way Memory is = rw is tt
    by_way Interrupt is = rw is tt
    by_way Outside is = rw is tt
served_theirs d (Rests state) = tt
served_theirs d (Loses state) = tt

phase_theirs : (d : ℕ) (v : DeviceRun) (answers : List Heard) (phase : Phase) → AreDevices (phase_entry d v answers phase)
phase_theirs d v answers Phase.Quiet = begun_theirs d v (next_of v)
phase_theirs d v answers Phase.Sent = served_theirs d (next_of v)
phase_theirs d v answers (Phase.Served reply) = tt
phase_theirs d v answers Phase.Intended = tt

answer_theirs : (d : ℕ) (v : DeviceRun) (answers : List Heard) (due replied : List Due) → AreDevices (answer_entry d v answers due replied)
answer_theirs d v answers due (w ∷ ws) = tt
answer_theirs d v answers (w ∷ ws) [] = tt
answer_theirs d v answers [] [] = phase_theirs d v answers v.phase

-- they show nothing, and are no events
record IsQuiet (s : State) (e : Entry) : Type 0 where
  pub bytes : bytes_of s (made e) ≡ []
  pub count : event_count (made e) ≡ 0
  pub ticks : is_tick e ≡ false

quiet : (s : State) (e : Entry) → IsDevices e → IsQuiet s e
quiet s (entry.Hart hart) theirs = absurd theirs
quiet s (entry.Take d) theirs = record { bytes = refl; count = refl; ticks = refl }
quiet s (entry.Send d) theirs = record { bytes = refl; count = refl; ticks = refl }
quiet s (entry.ServeMem d) theirs = record { bytes = refl; count = refl; ticks = refl }
quiet s (entry.ServeIrq d) theirs = record { bytes = refl; count = refl; ticks = refl }
quiet s (entry.Got d) theirs = record { bytes = refl; count = refl; ticks = refl }
quiet s (entry.Reply d) theirs = record { bytes = refl; count = refl; ticks = refl }
quiet s (entry.Deliver d) theirs = record { bytes = refl; count = refl; ticks = refl }
quiet s (entry.Intend d) theirs = record { bytes = refl; count = refl; ticks = refl }
quiet s (entry.Did d heard) theirs = record { bytes = refl; count = refl; ticks = refl }
quiet s (entry.Tick n) theirs = absurd theirs

-- 2. Parts that show nothing

pub record IsSilent (old new : Solo) : Type 0 where
  pub bytes : new.bytes ≡ old.bytes
  pub events : new.state.events ≡ old.state.events

silent_none : (solo : Solo) → IsSilent solo solo
silent_none solo = record { bytes = refl; events = refl }

silent_on : (next : Solo → Going) (solo : Solo) (g : Going) → IsSilent solo g.0 → ((s : Solo) → IsSilent s (next s).0) → IsSilent solo (onward next g).0
silent_on next solo (mid, None) a b = record { bytes = (b mid).bytes ∙ a.bytes; events = (b mid).events ∙ a.events }
silent_on next solo (mid, Some stopped) a b = a

-- an entry that is no event and shows nothing
silent_entry : (setup : Setup) (bounds : Bounds) (e : Entry) (solo : Solo) → bytes_of solo.state (made e) ≡ [] → event_count (made e) ≡ 0 → IsSilent solo (solo_entry setup bounds e solo).0
silent_entry setup bounds e solo none count = by_room (has_room bounds.room setup solo.state solo.entries e) refl
  where
    by_room : (b : Bool) → has_room bounds.room setup solo.state solo.entries e ≡ b → IsSilent solo (solo_entry setup bounds e solo).0
    by_room true is = rw is (record {
      bytes = ap (λ (xs : List ℕ). solo.bytes ++ xs) none ∙ append-nil solo.bytes;
      events = (let more = events_done setup solo.state (made e) in omega (arith, more, count));
    })
    by_room false is = rw is (silent_none solo)

silent_makes : (setup : Setup) (bounds : Bounds) (e : Entry) (solo : Solo) → IsDevices e → IsSilent solo (device_makes setup bounds e solo).0
silent_makes setup bounds e solo theirs =
    let q = quiet solo.state e theirs in
    let answered : Solo = record solo { answers = answers_after solo.answers e } in
    let s = silent_entry setup bounds e answered q.bytes q.count in
    record { bytes = s.bytes; events = s.events }

silent_turn : (setup : Setup) (bounds : Bounds) (d left : ℕ) (solo : Solo) → IsSilent solo (device_turn setup bounds d left solo).0
unfolding device_turn
silent_turn setup bounds d zero solo = silent_none solo
silent_turn setup bounds d (suc left) solo =
    by_entry (device_entry d (solo.state.devs d) (solo.answers d)) (answer_theirs d (solo.state.devs d) (solo.answers d) (solo.state.devs d).due (solo.state.devs d).replied)
    (λ s. silent_turn setup bounds d left s)
  where
    by_entry : (o : Option Entry) → AreDevices o → ((s : Solo) → IsSilent s (device_turn setup bounds d left s).0) → IsSilent solo (device_step setup bounds (device_turn setup bounds d left) solo o).0
    by_entry None theirs rest = silent_none solo
    by_entry (Some e) theirs rest = silent_on (device_turn setup bounds d left) solo (device_makes setup bounds e solo) (silent_makes setup bounds e solo theirs) rest

silent_turns : (setup : Setup) (bounds : Bounds) (d left : ℕ) (solo : Solo) → IsSilent solo (device_turns setup bounds d left solo).0
unfolding device_turns
silent_turns setup bounds d zero solo = silent_none solo
silent_turns setup bounds d (suc left) solo =
    silent_on (device_turns setup bounds (suc d) left) solo (device_turn setup bounds d (suc bounds.room) solo) (silent_turn setup bounds d (suc bounds.room) solo)
    (λ s. silent_turns setup bounds (suc d) left s)

pub silent_devices : (setup : Setup) (bounds : Bounds) (solo : Solo) → IsSilent solo (all_devices setup bounds solo).0
silent_devices setup bounds solo = silent_turns setup bounds 0 (length setup.devices) solo

pub silent_tick : (setup : Setup) (bounds : Bounds) (solo : Solo) → IsSilent solo (solo_tick setup bounds solo).0
silent_tick setup bounds solo = silent_entry setup bounds (entry.Tick 64) solo refl refl

-- and behind entries of devices the last one is no tick, if it was none before
abbrev StaysUnticked : Solo → Solo → Type 0
StaysUnticked old new = old.state.ticked ≡ false → new.state.ticked ≡ false

unticked_on : (next : Solo → Going) (solo : Solo) (g : Going) → StaysUnticked solo g.0 → ((s : Solo) → StaysUnticked s (next s).0) → StaysUnticked solo (onward next g).0
unticked_on next solo (mid, None) a b first = b mid (a first)
unticked_on next solo (mid, Some stopped) a b first = a first

unticked_makes : (setup : Setup) (bounds : Bounds) (e : Entry) (solo : Solo) → IsDevices e → StaysUnticked solo (device_makes setup bounds e solo).0
unticked_makes setup bounds e solo theirs first = by_room (has_room bounds.room setup solo.state solo.entries e) refl
  where
    by_room : (b : Bool) → has_room bounds.room setup solo.state solo.entries e ≡ b → (device_makes setup bounds e solo).0.state.ticked ≡ false
    by_room true is = rw is (quiet solo.state e theirs).ticks
    by_room false is = rw is first

unticked_turn : (setup : Setup) (bounds : Bounds) (d left : ℕ) (solo : Solo) → StaysUnticked solo (device_turn setup bounds d left solo).0
unfolding device_turn
unticked_turn setup bounds d zero solo first = first
unticked_turn setup bounds d (suc left) solo first =
    by_entry (device_entry d (solo.state.devs d) (solo.answers d)) (answer_theirs d (solo.state.devs d) (solo.answers d) (solo.state.devs d).due (solo.state.devs d).replied)
    (λ s. unticked_turn setup bounds d left s) first
  where
    by_entry : (o : Option Entry) → AreDevices o → ((s : Solo) → StaysUnticked s (device_turn setup bounds d left s).0) → StaysUnticked solo (device_step setup bounds (device_turn setup bounds d left) solo o).0
    by_entry None theirs rest = λ is. is
    by_entry (Some e) theirs rest = unticked_on (device_turn setup bounds d left) solo (device_makes setup bounds e solo) (unticked_makes setup bounds e solo theirs) rest

unticked_turns : (setup : Setup) (bounds : Bounds) (d left : ℕ) (solo : Solo) → StaysUnticked solo (device_turns setup bounds d left solo).0
unfolding device_turns
unticked_turns setup bounds d zero solo first = first
unticked_turns setup bounds d (suc left) solo first =
    unticked_on (device_turns setup bounds (suc d) left) solo (device_turn setup bounds d (suc bounds.room) solo) (unticked_turn setup bounds d (suc bounds.room) solo)
    (λ s. unticked_turns setup bounds (suc d) left s) first

-- 3. Bytes that are shown come behind the others

pub record IsGrown (old new : Solo) : Type 0 where
  pub more : List ℕ
  pub bytes : new.bytes ≡ old.bytes ++ more

grown_none : (solo : Solo) → IsGrown solo solo
grown_none solo = record { more = []; bytes = sym (append-nil solo.bytes) }

grown_silent : (old new : Solo) → IsSilent old new → IsGrown old new
grown_silent old new s = record { more = []; bytes = s.bytes ∙ sym (append-nil old.bytes) }

grown_on : (next : Solo → Going) (solo : Solo) (g : Going) → IsGrown solo g.0 → ((s : Solo) → IsGrown s (next s).0) → IsGrown solo (onward next g).0
grown_on next solo (mid, None) a b = record {
  more = a.more ++ (b mid).more;
  bytes = (b mid).bytes ∙ ap (λ (xs : List ℕ). xs ++ (b mid).more) a.bytes ∙ append_assoc solo.bytes a.more (b mid).more;
}
grown_on next solo (mid, Some stopped) a b = a

grown_entry : (setup : Setup) (bounds : Bounds) (e : Entry) (solo : Solo) → IsGrown solo (solo_entry setup bounds e solo).0
grown_entry setup bounds e solo = by_room (has_room bounds.room setup solo.state solo.entries e) refl
  where
    by_room : (b : Bool) → has_room bounds.room setup solo.state solo.entries e ≡ b → IsGrown solo (solo_entry setup bounds e solo).0
    by_room true is = rw is (record { more = bytes_of solo.state (made e); bytes = refl })
    by_room false is = rw is (grown_none solo)

grown_did : (setup : Setup) (bounds : Bounds) (hart : ℕ) (solo : Solo) (d : Did) → IsGrown solo (event_by setup bounds hart solo d).0
grown_did setup bounds hart solo did.Full = grown_none solo
grown_did setup bounds hart solo did.Retired = grown_entry setup bounds (entry.Hart hart) solo
grown_did setup bounds hart solo (did.Trapped cause) = grown_entry setup bounds (entry.Hart hart) solo
grown_did setup bounds hart solo did.Held = grown_entry setup bounds (entry.Hart hart) solo

grown_event : (setup : Setup) (bounds : Bounds) (hart : ℕ) (solo : Solo) → IsGrown solo (solo_event setup bounds hart solo).0
grown_event setup bounds hart solo = by_load (solo.state.pending hart)
  where
    by_load : (o : Option Pending) → IsGrown solo (event_unless setup bounds hart solo o).0
    by_load (Some load) = grown_none solo
    by_load None = grown_did setup bounds hart solo _

grown_turn : (setup : Setup) (bounds : Bounds) (hart left : ℕ) (solo : Solo) → IsGrown solo (turn setup bounds hart left solo).0
unfolding turn
grown_turn setup bounds hart zero solo = grown_none solo
grown_turn setup bounds hart (suc left) solo =
    grown_on (turn setup bounds hart left) solo (solo_event setup bounds hart solo) (grown_event setup bounds hart solo) (λ s. grown_turn setup bounds hart left s)

grown_turns : (setup : Setup) (bounds : Bounds) (hart left : ℕ) (solo : Solo) → IsGrown solo (turns setup bounds hart left solo).0
unfolding turns
grown_turns setup bounds hart zero solo = grown_none solo
grown_turns setup bounds hart (suc left) solo =
    grown_on (turns setup bounds (suc hart) left) solo (turn setup bounds hart 64 solo) (grown_turn setup bounds hart 64 solo) (λ s. grown_turns setup bounds (suc hart) left s)

grown_round : (setup : Setup) (bounds : Bounds) (solo : Solo) → IsGrown solo (round setup bounds solo).0
grown_round setup bounds solo =
    grown_on (solo_tick setup bounds) solo (onward (all_devices setup bounds) (turns setup bounds 0 setup.harts solo))
    (grown_on (all_devices setup bounds) solo (turns setup bounds 0 setup.harts solo) (grown_turns setup bounds 0 setup.harts solo) (λ s. grown_silent s (all_devices setup bounds s).0 (silent_devices setup bounds s)))
    (λ s. grown_silent s (solo_tick setup bounds s).0 (silent_tick setup bounds s))

-- 4. What a core showed

abbrev pub no_answers : ℕ → List Heard
no_answers d = []

-- an end that no entry made shows nothing
shown_by : (p : Seen) (o : Option Stop) → EndsBy o p → debug_of p ≡ (solo_of p no_answers).bytes
shown_by p None ends = ap (λ (outer : Option (ℕ × Why)). debug_bytes (setup_by p) (first_by p) (with_outer p.entries outer)) ends
shown_by p (Some (stop.Ended cause)) ends = ap (λ (outer : Option (ℕ × Why)). debug_bytes (setup_by p) (first_by p) (with_outer p.entries outer)) ends
shown_by p (Some stop.Full) ends =
    ap (λ (outer : Option (ℕ × Why)). debug_bytes (setup_by p) (first_by p) (with_outer p.entries outer)) ends ∙ end_bytes p why.Full 0

pub shown_in : (p : Seen) → EndsBy (stop_of p) p → debug_of p ≡ (solo_of p no_answers).bytes
shown_in p ends = shown_by p (stop_of p) ends

-- bytes after a part that shows none
pub silent_part : (part : Part) (old new : Seen) → old.outer ≡ None → ((setup : Setup) (bounds : Bounds) (solo : Solo) → IsSilent solo (part setup bounds solo).0) → IsPartOf part old new → debug_of new ≡ debug_of old
silent_part part old new none silent is =
    shown_in new is.ends
    ∙ ap (λ (g : Going). g.0.bytes) (is.made no_answers)
    ∙ (silent (setup_by old) (bounds_by old) (solo_of old no_answers)).bytes
    ∙ sym (shown_by old None none)

state_plain : (p : Seen) → p.outer ≡ None → state_of p ≡ (solo_of p no_answers).state
state_plain p none = ap (λ (outer : Option (ℕ × Why)). after (setup_by p) (first_by p) (with_outer p.entries outer)) none

pub silent_events : (part : Part) (old new : Seen) → old.outer ≡ None → new.outer ≡ None → ((setup : Setup) (bounds : Bounds) (solo : Solo) → IsSilent solo (part setup bounds solo).0) → IsPartOf part old new
    → (state_of new).events ≡ (state_of old).events
silent_events part old new none none_new silent is =
    ap (λ (s : State). s.events) (state_plain new none_new)
    ∙ ap (λ (g : Going). g.0.state.events) (is.made no_answers)
    ∙ (silent (setup_by old) (bounds_by old) (solo_of old no_answers)).events
    ∙ sym (ap (λ (s : State). s.events) (state_plain old none))

-- the devices leave the last entry no tick
pub unticked_devices : (old new : Seen) → old.outer ≡ None → new.outer ≡ None → IsPartOf all_devices old new → (state_of old).ticked ≡ false → (state_of new).ticked ≡ false
unticked_devices old new none none_new is first =
    ap (λ (s : State). s.ticked) (state_plain new none_new)
    ∙ ap (λ (g : Going). g.0.state.ticked) (is.made no_answers)
    ∙ unticked_turns (setup_by old) (bounds_by old) 0 (length (setup_by old).devices) (solo_of old no_answers) (sym (ap (λ (s : State). s.ticked) (state_plain old none)) ∙ first)

-- bytes after a round
pub record IsShownOn (old new : Seen) : Type 0 where
  pub more : List ℕ
  pub bytes : debug_of new ≡ debug_of old ++ more

pub round_shows : (old new : Seen) → old.outer ≡ None → IsPartOf round old new → IsShownOn old new
round_shows old new none is =
    let grown = grown_round (setup_by old) (bounds_by old) (solo_of old no_answers) in
    record {
      more = grown.more;
      bytes = shown_in new is.ends
          ∙ ap (λ (g : Going). g.0.bytes) (is.made no_answers)
          ∙ grown.bytes
          ∙ ap (λ (xs : List ℕ). xs ++ grown.more) (sym (shown_by old None none));
    }
