-- What a burst of events does, of which a turn of a hart is made.
use Rattle.std.specs.Prelude.{◌≡◌, ◌||◌, ℕ, ◌+◌, ◌<◌, ◌≤◌, nat_le, List, length, Bool, true, false, not, None, slice_index_or, slice_set}
use Rattle.tv_base.specs.declared.Access.TheVariants as access
use Rattle.tv_base.specs.declared.Access.{Access}
use Rattle.tv_base.specs.declared.limits.TheConstants.{DEBUG_RING_BYTES}
use Rattle.tv_journal.specs.Journals.{JournalState, has_free, with_reserved}
use Rattle.tv_proxy.specs.Proxies.{Maker, waits_for}
use Rattle.tv_side.specs.Sides.{IsInPlace, SideState, with_access}
use Rattle.tv_spec.specs.declared.Closed.{Closed}
use Rattle.tv_spec.specs.declared.Shown.{Shown}
use Rattle.tv_spec.specs.declared.Shown.TheVariants as shown
use Rattle.tv_spec.specs.Reach.{is_closed}
use Rattle.tv_core.specs.declared.proxied.Turn.{Turn}
use Rattle.tv_core.specs.declared.proxied.Turn.TheVariants as turn
use Rattle.tv_core.specs.Calls.{Stalls, TurnedSo}
use Rattle.tv_core.specs.Seen.{Seen, with_events}

-- so many events, at none of which the hart stalled
pub record IsMadeBy (old new : Seen) (hart most n : ℕ) : Type 0 where
  pub some : 0 < n
  pub few : n ≤ most
  pub carried : (k : ℕ) → k < n → Stalls (with_events old hart k) hart → ⊥
  pub new_is : new ≡ with_events old hart n

-- a burst is a turn that may have fewer events than asked for without a reason
abbrev pub BurstSo : Seen → Seen → ℕ → ℕ → Turn → Type 0
BurstSo old new hart most (turn.Ran n) = IsMadeBy old new hart most n
BurstSo old new hart most turn.Ending = TurnedSo old new hart most turn.Ending
BurstSo old new hart most turn.Waits = TurnedSo old new hart most turn.Waits
BurstSo old new hart most turn.Stalled = TurnedSo old new hart most turn.Stalled

-- a hart's access finds the command tube full
abbrev pub is_full : SideState → Bool
is_full side = nat_le side.tube (length side.items)

-- what is closed for a burst: the debug port where the ring is full, a device's registers where its command tube is; and its loads
-- also where the journal has no room for a load
pub record AreGates (bytes : List ℕ) (sides : List SideState) (room : Bool) (closed : Closed) : Type 0 where
  pub debug : closed.debug ≡ nat_le DEBUG_RING_BYTES (length bytes)
  pub stores : (d : ℕ) (none : SideState) → d < length sides → is_closed closed.stores d ≡ is_full (slice_index_or sides d none)
  pub loads : (d : ℕ) (none : SideState) → d < length sides → is_closed closed.loads d ≡ (is_full (slice_index_or sides d none) || not room)

-- what an event shows finds the ring, or a command tube, full
abbrev pub is_held_up : List ℕ → List SideState → SideState → Shown → Bool
is_held_up bytes sides none (shown.Byte byte) = nat_le DEBUG_RING_BYTES (length bytes)
is_held_up bytes sides none (shown.Access d access) = is_full (slice_index_or sides d none)
is_held_up bytes sides none _ = false

-- an access can be issued at a device's side
pub record CanIssue (side : SideState) (hart : ℕ) (how : Access) : Type 0 where
  pub numbers : side.proxy.made + 1 < 4294967296
  pub free : waits_for side.proxy (Maker.hart hart) ≡ None
  pub place : IsInPlace how
  pub room : length side.items < side.tube

-- what an event showed finds its place
abbrev pub FindsByte : ℕ → ℕ → Shown → Type 0
FindsByte count capacity (shown.Byte byte) = count < capacity
FindsByte count capacity _ = Unit {0}

abbrev pub FindsSide : ℕ → List SideState → Shown → Type 0
FindsSide hart sides (shown.Access d how) = (d < length sides) × ((none : SideState) → CanIssue (slice_index_or sides d none) hart how)
FindsSide hart sides _ = Unit {0}

abbrev pub FindsRoom : JournalState → Shown → Type 0
FindsRoom journal (shown.Access d (access.Load width off)) = has_free journal 2 0 ≡ true
FindsRoom journal _ = Unit {0}

-- an access becomes the last item of its device
abbrev pub IssuesSo : ℕ → Shown → List SideState → List SideState → Type 0
IssuesSo hart (shown.Access d how) old new =
    (none : SideState) → new ≡ slice_set old d (with_access (slice_index_or old d none) hart how)
IssuesSo hart _ old new = new ≡ old

-- a hart waits for its load, for whose Reply and Deliver two records are reserved
abbrev pub waits_by : ℕ → Shown → List Bool → List Bool
waits_by hart (shown.Access d (access.Load width off)) waits = slice_set waits hart true
waits_by hart _ waits = waits

abbrev pub journal_by : Shown → JournalState → JournalState
journal_by (shown.Access d (access.Load width off)) journal = with_reserved journal 2 0
journal_by _ journal = journal
