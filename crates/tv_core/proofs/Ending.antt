-- The end of a run, and a worker that is told of it.
use Rattle.std.proofs.Common.{◌≡◌, ◌≢◌, ℕ, ◌<◌, ◌⊎◌, inl, inr, Bool, true, List, [], ◌∷◌, ◌++◌, length, get_or, set, Option, Some, None, refl, arith, length-set, append-nil}
use Rattle.std.proofs.lemmas.List.{map-set}
use Rattle.tv_base.specs.declared.Why.{Why}
use Rattle.tv_guest.specs.GuestState.{GuestState}
use Rattle.tv_journal.specs.Grammar.{cause_byte}
use Rattle.tv_side.specs.Sides.{SideState}
use Rattle.tv_spec.specs.declared.Mode.{Mode}
use Rattle.tv_spec.specs.declared.Mode.TheVariants as mode
use Rattle.tv_spec.specs.Legal.{with_outer}
use Rattle.tv_spec.specs.Shows.{cause_in}
use Rattle.tv_spec.specs.State.{State, DeviceRun}
use Rattle.tv_spec.specs.Step.{IsOpen, ended}
use Rattle.tv_spec.proofs.Updates.{both_kept}
use Rattle.tv_core.specs.Holds.{EndsFor, Holds, Parts, seen}
use Rattle.tv_core.specs.Seen.{first_by, history, is_told, setup_by, state_of}
use Rattle.tv_core.specs.Stands.{Stands, StandsFor}
use Rattle.tv_core.proofs.History.{is_more, outer_set}
use Rattle.tv_core.proofs.Keeping.{waits_kept}

pub open_or : (m : Mode) → IsOpen m ⊎ (IsOpen m → ⊥)
open_or (mode.Ending cause) = inr (λ open_. open_)
open_or mode.Running = inl tt

-- 1. A side of its own

-- one side replaced by another that stands for the device as well
pub side_stands : (tube : ℕ) (guest : GuestState) (withdrawn : List Bool) (sides : List SideState) (waits : List Bool) (reserved : ℕ) (s : State) (d : ℕ) (p none : SideState)
    → Stands tube guest withdrawn sides waits reserved s → d < length sides → p.proxy.harts ≡ (get_or sides d none).proxy.harts
    → StandsFor tube s.mode (s.devs d) p → Stands tube guest withdrawn (set sides d p) waits reserved s
side_stands tube guest withdrawn sides waits reserved s d p none T within e new =
    record {
      local_is = T.local_is;
      withdrawn_is = T.withdrawn_is;
      mode_is = T.mode_is;
      events_are = T.events_are;
      each_hart = T.each_hart;
      each_side = λ j any lt.
          let inside : j < length sides = (let r : j < length sides = rw length-set at lt in r) in
          both_kept (λ (k : ℕ) (_ : ℕ) (x : SideState). StandsFor tube s.mode (s.devs k) x) (λ k. k) sides d d p (length sides) refl new
          (λ k any2 lt2 _. T.each_side k any2 lt2) j any inside;
      each_wait = λ j any h lt hn. waits_kept sides d p none s.pending (length sides) refl within e T.each_wait j any h (let r : j < length sides = rw length-set at lt in r) hn;
      flags = T.flags;
      each_flag = T.each_flag;
      reserved_is = T.reserved_is;
    }

-- 2. A worker is told

pub told_is : (p : Parts) (d : ℕ) (none : SideState) → seen (record p { sides = set p.sides d (record (get_or p.sides d none) { told = true }) }) ≡ is_told (seen p) d
told_is p d none = rw (map-set (λ (side : SideState). side.told) p.sides d (record (get_or p.sides d none) { told = true })) refl

pub told_holds : (p : Parts) (d : ℕ) (none : SideState) → Holds p → d < length p.sides → (IsOpen (state_of (seen p)).mode → ⊥)
    → (get_or p.sides d none).memory.answered ≡ None → (get_or p.sides d none).interrupts.answered ≡ None
    → Holds (record p { sides = set p.sides d (record (get_or p.sides d none) { told = true }) })
told_holds p d none H within over memory interrupts =
    let old : SideState = get_or p.sides d none in
    let R = H.stands.each_side d none within in
    record {
      valid = H.valid;
      fits = H.fits;
      place = H.place;
      legal = H.legal;
      ends = H.ends;
      harts = H.harts;
      steps = H.steps;
      slots = rw length-set H.slots;
      stands = side_stands p.machine.tube p.guest p.grants.withdrawn p.sides p.waits p.journal.reserved_records (state_of (seen p)) d (record old { told = true }) none
          H.stands within refl
          (record {
            tube_is = R.tube_is;
            made = R.made;
            harts = R.harts;
            commands = R.commands;
            replies = R.replies;
            transit = R.transit;
            told = λ _. record { ending = over; memory = memory; interrupts = interrupts };
          });
      theirs = H.theirs;
      ring_is = H.ring_is;
      handed = H.handed;
      record_room = H.record_room;
      payload_room = H.payload_room;
      no_bytes = H.no_bytes;
      room = H.room;
    }

-- 3. An end that no entry made

-- where the run goes on, no such end was made
pub no_outer : (p : Parts) → Holds p → IsOpen (state_of (seen p)).mode → p.journal.outer ≡ None
no_outer p H is_open = by_mode p.journal.outer (state_of (seen p)).mode H.ends is_open refl
  where
    by_mode : (outer : Option (ℕ × Why)) (m : Mode) → EndsFor outer (cause_in m) → IsOpen m → p.journal.outer ≡ outer → p.journal.outer ≡ None
    by_mode None m ends is_open is = is
    by_mode (Some end) (mode.Ending cause) ends is_open is = absurd is_open
    by_mode (Some end) mode.Running ends is_open is = cc

ended_side : (tube : ℕ) (now : Mode) (cause : Why) (v : DeviceRun) (p : SideState) → IsOpen now → StandsFor tube now v p → StandsFor tube (mode.Ending cause) v p
ended_side tube now cause v p is_open R = record {
  tube_is = R.tube_is;
  made = R.made;
  harts = R.harts;
  commands = R.commands;
  replies = R.replies;
  transit = R.transit;
  told = λ is. absurd ((R.told is).ending is_open);
}

-- the moves with an end behind them
pub end_moves : (p : Parts) (cause : Why) → p.journal.outer ≡ None
    → with_outer p.journal.entries (Some (length p.journal.entries, cause)) ≡ history (seen p) ++ ended cause ∷ []
end_moves p cause none = rw none (outer_set p.journal.entries cause)

pub end_holds : (p : Parts) (cause : Why) (seat : ℕ) → Holds p → IsOpen (state_of (seen p)).mode → cause_byte cause ≢ None
    → Holds (record p {
      guest = record p.guest { mode = mode.Ending cause };
      journal = record p.journal { outer = Some (length p.journal.entries, cause) };
      seat = seat;
    })
end_holds p cause seat H is_open outer =
    let T = H.stands in
    let none = no_outer p H is_open in
    let more = is_more (setup_by (seen p)) (first_by (seen p)) (history (seen p)) (with_outer p.journal.entries (Some (length p.journal.entries, cause))) (ended cause)
    (end_moves p cause none) H.legal (record { is_open = is_open; outer = outer }) in
    record {
      valid = H.valid;
      fits = H.fits;
      place = omega arith;
      legal = more.legal;
      ends = rw more.state refl;
      harts = H.harts;
      steps = H.steps;
      slots = H.slots;
      stands = rw more.state record {
        local_is = T.local_is;
        withdrawn_is = T.withdrawn_is;
        mode_is = refl;
        events_are = T.events_are;
        each_hart = T.each_hart;
        each_side = λ d any lt. ended_side p.machine.tube (state_of (seen p)).mode cause ((state_of (seen p)).devs d) (get_or p.sides d any) is_open (T.each_side d any lt);
        each_wait = T.each_wait;
        flags = T.flags;
        each_flag = T.each_flag;
        reserved_is = T.reserved_is;
      };
      theirs = H.theirs;
      ring_is = rw (more.bytes, append-nil) H.ring_is;
      handed = rw (more.bytes, append-nil) H.handed;
      record_room = H.record_room;
      payload_room = H.payload_room;
      no_bytes = H.no_bytes;
      room = rw more.state H.room;
    }
