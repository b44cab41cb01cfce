-- A core with an entry more.
use Rattle.std.proofs.Common.{◌≡◌, ℕ, List, [], ◌∷◌, ◌++◌, length, drop, true, Bool, refl, ap, ◌∙◌, arith, length-append}
use Rattle.std.proofs.lemmas.List.{drop-append-le}
use Rattle.std.proofs.lemmas.Bool.{leb-true}
use Rattle.circular_buffer.specs.Buffer.{Buffer, buffer}
use Rattle.tv_base.specs.declared.limits.TheConstants.{DEBUG_RING_BYTES}
use Rattle.tv_journal.specs.declared.Entry.{Entry}
use Rattle.tv_journal.specs.Journals.{JournalState}
use Rattle.tv_grants.specs.Grants.{GrantState}
use Rattle.tv_grants.specs.Machines.{AreTheirs}
use Rattle.tv_guest.specs.GuestState.{GuestState}
use Rattle.tv_side.specs.Sides.{SideState}
use Rattle.tv_spec.specs.Legal.{with_outer}
use Rattle.tv_spec.specs.Shows.{bytes_of}
use Rattle.tv_spec.specs.Step.{Can, made, done}
use Rattle.tv_core.specs.Holds.{Holds, Parts, seen}
use Rattle.tv_core.specs.Seen.{debug_of, first_by, history, setup_by, state_of}
use Rattle.tv_core.specs.Calls.{has_room_in}
use Rattle.tv_core.specs.Stands.{Stands}
use Rattle.tv_core.proofs.History.{IsMore, ends_more, is_more, outer_more, place_more}

-- a journal with an entry more, and another reserve
pub record IsWith (old new : JournalState) (e : Entry) : Type 0 where
  pub entries : new.entries ≡ old.entries ++ e ∷ []
  pub outer : new.outer ≡ old.outer
  pub record_room : new.record_room ≡ old.record_room
  pub payload_room : new.payload_room ≡ old.payload_room
  pub reserved_bytes : new.reserved_bytes ≡ old.reserved_bytes

-- a fact of the state after an entry more
pub more_of : (p : Parts) (e : Entry) (later : JournalState) → Holds p → Can (setup_by (seen p)) (state_of (seen p)) (made e) → IsWith p.journal later e
    → IsMore (setup_by (seen p)) (first_by (seen p)) (history (seen p)) (with_outer later.entries later.outer) (made e)
more_of p e later H can with =
    is_more (setup_by (seen p)) (first_by (seen p)) (history (seen p)) (with_outer later.entries later.outer) (made e)
    (rw (with.entries, with.outer) (outer_more p.journal.entries e p.journal.outer H.place)) H.legal can

-- what changed, but for the journal
pub record IsKept (p : Parts) (guest : GuestState) (grants : GrantState) (sides : List SideState) : Type 0 where
  pub harts : length guest.harts ≡ length p.guest.harts
  pub steps : guest.steps ≡ p.guest.steps
  pub slots : length sides ≡ length p.sides
  pub theirs : AreTheirs p.machine.device grants

pub entry_holds : (p : Parts) (e : Entry) (guest : GuestState) (grants : GrantState) (sides : List SideState) (waits : List Bool) (ring : Buffer ℕ) (later : JournalState)
    → Holds p → Can (setup_by (seen p)) (state_of (seen p)) (made e) → IsWith p.journal later e → IsKept p guest grants sides
    → Stands p.machine.tube guest grants.withdrawn sides waits later.reserved_records (done (setup_by (seen p)) (state_of (seen p)) (made e))
    → ring ≡ buffer (p.ring.items ++ bytes_of (state_of (seen p)) (made e)) DEBUG_RING_BYTES
    → has_room_in (seen p) e ≡ true
    → Holds (record p { guest = guest; grants = grants; sides = sides; waits = waits; ring = ring; journal = later })
entry_holds p e guest grants sides waits ring later H can with kept stands bytes room =
    let more = more_of p e later H can with in
    let items : p.ring.items ≡ drop p.handed (debug_of (seen p)) = ap (λ (b : Buffer ℕ). b.items) H.ring_is in
    record {
      valid = H.valid;
      fits = H.fits;
      place = rw (with.entries, with.outer) (place_more p.journal.entries e p.journal.outer H.place);
      legal = more.legal;
      ends = rw (more.state, with.outer) (ends_more (setup_by (seen p)) (state_of (seen p)) e p.journal.outer can H.ends);
      harts = kept.harts ∙ H.harts;
      steps = kept.steps ∙ H.steps;
      slots = kept.slots ∙ H.slots;
      stands = rw more.state stands;
      theirs = kept.theirs;
      ring_is = bytes ∙ rw (more.bytes, drop-append-le p.handed (debug_of (seen p)) (bytes_of (state_of (seen p)) (made e)) H.handed, items) refl;
      handed = rw (more.bytes, length-append (debug_of (seen p)) (bytes_of (state_of (seen p)) (made e))) (let h = H.handed in omega (arith, h));
      record_room = with.record_room ∙ H.record_room;
      payload_room = with.payload_room ∙ H.payload_room;
      no_bytes = with.reserved_bytes ∙ H.no_bytes;
      room = rw (more.state, with.entries) (leb-true _ _ room);
    }
