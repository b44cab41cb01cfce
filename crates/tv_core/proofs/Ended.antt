-- The call that ends a run, and the call that hands out debug bytes.
use Rattle.std.proofs.Common.{◌≡◌, ◌≢◌, ℕ, ◌+◌, ◌-◌, ◌<◌, ◌≤◌, ◌^◌, List, [], ◌∷◌, ◌++◌, length, take, drop, min, Some, None, refl, ap, ◌∙◌, subst, arith, length-append}
use Rattle.std.proofs.lemmas.List.{drop-drop, length-drop, length-take-le}
use Rattle.std.proofs.Math.Nat.{min-le_right}
use Rattle.std.proofs.Math.Seq.{take-append_seam}
use Rattle.circular_buffer.specs.Buffer.{Buffer, buffer}
use Rattle.tv_base.specs.declared.Why.{Why}
use Rattle.tv_base.specs.declared.limits.TheConstants.{DEBUG_RING_BYTES}
use Rattle.tv_guest.specs.GuestState.{GuestState}
use Rattle.tv_journal.specs.declared.Entry.TheVariants as entry
use Rattle.tv_journal.specs.Grammar.{cause_byte}
use Rattle.tv_journal.specs.Journals.{JournalState}
use Rattle.tv_spec.specs.declared.Mode.{Mode}
use Rattle.tv_spec.specs.declared.Mode.TheVariants as mode
use Rattle.tv_spec.specs.declared.Shown.{Shown}
use Rattle.tv_spec.specs.declared.Shown.TheVariants as shown
use Rattle.tv_spec.specs.Legal.{after}
use Rattle.tv_spec.specs.Setup.{Setup}
use Rattle.tv_spec.specs.Shows.{byte_shown, bytes_of, debug_bytes}
use Rattle.tv_spec.specs.State.{State}
use Rattle.tv_spec.specs.Step.{IsOpen, Move, made, ended, done, event_of}
use Rattle.tv_core.specs.Calls.{EndedIn, EndedSo, HandedSo}
use Rattle.tv_core.specs.Holds.{Holds, Parts, seen}
use Rattle.tv_core.specs.Seen.{Seen, debug_of, first_by, history, setup_by, state_of, with_end}
use Rattle.tv_core.proofs.Ending.{end_holds}
use Rattle.tv_core.proofs.Room.{event_count, events_done, run_of}

-- 1. An end

ended_in : (m : Mode) (old new : Seen) (cause : Why) (seat : ℕ) → IsOpen m → new ≡ with_end old cause seat → EndedIn m old new cause seat
ended_in (mode.Ending earlier) old new cause seat is_open is = absurd is_open
ended_in mode.Running old new cause seat is_open is = is

stays_ended : (m : Mode) (old : Seen) (cause : Why) (seat : ℕ) → (IsOpen m → ⊥) → EndedIn m old old cause seat
stays_ended (mode.Ending earlier) old cause seat over = refl
stays_ended mode.Running old cause seat over = absurd (over tt)

pub ended_call : (p : Parts) (cause : Why) (seat : ℕ) (guest : GuestState) (journal : JournalState)
    → guest ≡ record p.guest { mode = mode.Ending cause } → journal ≡ record p.journal { outer = Some (length p.journal.entries, cause) }
    → Holds p → IsOpen (state_of (seen p)).mode → cause_byte cause ≢ None
    → Holds (record p { guest = guest; journal = journal; seat = seat })
    × EndedSo (seen p) (seen (record p { guest = guest; journal = journal; seat = seat })) cause seat
ended_call p cause seat guest journal guest_is journal_is H is_open outer =
    rw (guest_is, journal_is) (
      end_holds p cause seat H is_open outer,
      ended_in (state_of (seen p)).mode (seen p) (with_end (seen p) cause seat) cause seat is_open refl,
    )

pub over_stays : (p : Parts) (start : Seen) (cause : Why) (seat : ℕ) → Holds p → (IsOpen p.guest.mode → ⊥) → seen p ≡ start → EndedSo start start cause seat
over_stays p start cause seat H over is =
    subst (λ (s : Seen). EndedSo s s cause seat) is
    (stays_ended (state_of (seen p)).mode (seen p) cause seat (λ o. over (subst (λ (m : Mode). IsOpen m) H.stands.mode_is o)))

-- the same, where what was seen before has another name
pub ended_as : (before old new : Seen) (cause : Why) (seat : ℕ) → before ≡ old → EndedSo before new cause seat → EndedSo old new cause seat
ended_as before old new cause seat is so = subst (λ (s : Seen). EndedSo s new cause seat) is so

-- 2. Debug bytes

shown_few : (s : Shown) → length (byte_shown s) ≤ 1
shown_few (shown.Byte byte) = omega arith
shown_few s = omega arith

bytes_few : (s : State) (move : Move) → length (bytes_of s move) ≤ event_count move
bytes_few s (made (entry.Hart hart)) = shown_few (event_of s hart).2.shown
bytes_few s (made e) = omega arith
bytes_few s (ended cause) = omega arith

-- at most one byte an event
debug_few : (setup : Setup) (s : State) (moves : List Move) → length (debug_bytes setup s moves) + s.events ≤ (after setup s moves).events
debug_few setup s [] = omega arith
debug_few setup s (move ∷ moves) =
    let r = debug_few setup (done setup s move) moves in
    let q = events_done setup s move in
    let few = bytes_few s move in
    rw (length-append (bytes_of s move) (debug_bytes setup (done setup s move) moves)) (omega (arith, r, q, few))

-- the count of bytes that were handed out stays within 64 bits
pub handed_small : (p : Parts) (out : List ℕ) (n : ℕ) → Holds p → n ≡ min (length out) (length p.ring.items) → p.handed + n ≤ length (debug_of (seen p))
handed_small p out n H is =
    let most : n ≤ length p.ring.items = rw is (min-le_right (length out) (length p.ring.items)) in
    let items : length p.ring.items ≡ length (debug_of (seen p)) - p.handed =
    ap (λ (b : Buffer ℕ). length b.items) H.ring_is ∙ length-drop p.handed (debug_of (seen p)) in
    let handed = H.handed in
    omega (arith, most, items, handed)

pub debug_small : (p : Parts) → Holds p → length (debug_of (seen p)) < 2 ^ 63
debug_small p H =
    let few = debug_few (setup_by (seen p)) (first_by (seen p)) (history (seen p)) in
    let most = (run_of p H).bounded.events in
    let steps = H.valid.steps.1 in
    omega (arith, few, most, steps)

pub handed_call : (p : Parts) (old out : List ℕ) (n : ℕ) (ring : Buffer ℕ) → n ≡ min (length old) (length p.ring.items)
    → out ≡ take n p.ring.items ++ drop n old → ring ≡ buffer (drop n p.ring.items) p.ring.capacity → Holds p
    → Holds (record p { ring = ring; handed = p.handed + n })
    × HandedSo (seen p) (seen (record p { ring = ring; handed = p.handed + n })) out (length old) n
handed_call p old out n ring count out_is ring_is H =
    let waiting : p.ring.items ≡ drop p.handed (debug_of (seen p)) = ap (λ (b : Buffer ℕ). b.items) H.ring_is in
    let room : p.ring.capacity ≡ DEBUG_RING_BYTES = ap (λ (b : Buffer ℕ). b.capacity) H.ring_is in
    let most : n ≤ length p.ring.items = rw count (min-le_right (length old) (length p.ring.items)) in
    let front : take n (take n p.ring.items ++ drop n old) ≡ take n p.ring.items =
    subst (λ (k : ℕ). take k (take n p.ring.items ++ drop n old) ≡ take n p.ring.items) (length-take-le n p.ring.items most)
    (take-append_seam (take n p.ring.items) (drop n old)) in
    let rest : ring ≡ buffer (drop (p.handed + n) (debug_of (seen p))) DEBUG_RING_BYTES =
    ring_is ∙ ap (λ (xs : List ℕ). buffer xs p.ring.capacity) (ap (drop n) waiting ∙ drop-drop n p.handed (debug_of (seen p)))
    ∙ ap (λ (k : ℕ). buffer (drop (p.handed + n) (debug_of (seen p))) k) room in (
      record {
        valid = H.valid;
        fits = H.fits;
        place = H.place;
        legal = H.legal;
        ends = H.ends;
        harts = H.harts;
        steps = H.steps;
        slots = H.slots;
        stands = H.stands;
        theirs = H.theirs;
        ring_is = rest;
        handed = handed_small p old n H count;
        record_room = H.record_room;
        payload_room = H.payload_room;
        no_bytes = H.no_bytes;
        room = H.room;
      },
      record {
        count = count ∙ ap (λ (xs : List ℕ). min (length old) (length xs)) waiting;
        bytes = ap (take n) out_is ∙ front ∙ ap (take n) waiting;
        new_is = refl;
      },
    )

pub handed_as : (before old new : Seen) (out : List ℕ) (most n : ℕ) → before ≡ old → HandedSo before new out most n → HandedSo old new out most n
handed_as before old new out most n is so = subst (λ (s : Seen). HandedSo s new out most n) is so
