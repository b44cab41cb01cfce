-- What is so of the fields of a core: its history is legal, and each part stands for the state after it.
use Rattle.std.specs.Prelude.{◌≡◌, ℕ, ◌+◌, ◌≤◌, List, length, map, drop, Bool, Option, Some, None}
use Rattle.circular_buffer.specs.Buffer.{Buffer, buffer}
use Rattle.tv_base.specs.declared.Why.{Why}
use Rattle.tv_base.specs.declared.limits.TheConstants.{DEBUG_RING_BYTES}
use Rattle.tv_journal.specs.Entries.{record_count}
use Rattle.tv_journal.specs.Journals.{JournalState}
use Rattle.tv_grants.specs.Grants.{GrantState}
use Rattle.tv_grants.specs.Machines.{AreTheirs}
use Rattle.tv_guest.specs.GuestState.{GuestState}
use Rattle.tv_machine.specs.declared.machine.Machine.{Machine}
use Rattle.tv_machine.specs.Valid.{IsValid}
use Rattle.tv_side.specs.Sides.{SideState}
use Rattle.tv_spec.specs.Legal.{IsLegal, HasPlace}
use Rattle.tv_spec.specs.Room.{owed}
use Rattle.tv_spec.specs.Shows.{cause_in}
use Rattle.tv_core.specs.Seen.{Seen, setup_by, first_by, history, state_of, debug_of}
use Rattle.tv_core.specs.Stands.{Stands}

-- the fields, each as contracts see it
pub record Parts : Type 0 where
  pub machine : Machine
  pub image : List ℕ
  pub guest : GuestState
  pub grants : GrantState
  pub sides : List SideState
  pub waits : List Bool
  pub ring : Buffer ℕ
  pub handed : ℕ
  pub journal : JournalState
  pub seat : ℕ

abbrev pub told_by : List SideState → List Bool
told_by sides = map (λ side. side.told) sides

-- what contracts see of them
abbrev pub seen : Parts → Seen
seen p = record {
  machine = p.machine;
  image = p.image;
  entries = p.journal.entries;
  outer = p.journal.outer;
  seat = p.seat;
  handed = p.handed;
  told = told_by p.sides;
}

-- the cause of an outer end is that of the ending
abbrev pub EndsFor : Option (ℕ × Why) → Option Why → Type 0
EndsFor None cause = Unit {0}
EndsFor (Some end) cause = cause ≡ Some end.1

pub record Holds (p : Parts) : Type 0 where
  pub valid : IsValid p.machine
  pub fits : length p.image ≤ p.machine.ram
  pub place : HasPlace p.journal.entries p.journal.outer
  pub legal : IsLegal (setup_by (seen p)) (first_by (seen p)) (history (seen p))
  pub ends : EndsFor p.journal.outer (cause_in (state_of (seen p)).mode)
  pub harts : length p.guest.harts ≡ p.machine.harts
  pub steps : p.guest.steps ≡ p.machine.steps
  pub slots : length p.sides ≡ length p.machine.device
  pub stands : Stands p.machine.tube p.guest p.grants.withdrawn p.sides p.waits p.journal.reserved_records (state_of (seen p))
  pub theirs : AreTheirs p.machine.device p.grants
  pub ring_is : p.ring ≡ buffer (drop p.handed (debug_of (seen p))) DEBUG_RING_BYTES
  pub handed : p.handed ≤ length (debug_of (seen p))
  pub record_room : p.journal.record_room ≡ p.machine.journal_entries
  pub payload_room : p.journal.payload_room ≡ p.machine.journal_bytes
  pub no_bytes : p.journal.reserved_bytes ≡ 0
  pub room : record_count p.journal.entries + owed (state_of (seen p)) ≤ p.machine.journal_entries
