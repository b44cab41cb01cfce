-- Events of a hart in a row. All but the last of them show nothing outside what harts reach directly.
use Rattle.std.specs.Prelude.{◌≡◌, ◌≢◌, ◌⊎◌, ◌==◌, ℕ, suc, ◌+◌, ◌<◌, ◌≤◌, if◌then◌else◌, List, length, replicate, false, None, slice_index_or, slice_set}
use Rattle.tv_hart.specs.declared.Did.TheVariants as did
use Rattle.tv_hart.specs.Hart.{first_hart}
use Rattle.tv_hart.specs.HartState.{HartState}
use Rattle.tv_spec.specs.declared.Closed.{Closed}
use Rattle.tv_journal.specs.declared.Entry.TheVariants as entry
use Rattle.tv_spec.specs.declared.Mode.{Mode}
use Rattle.tv_spec.specs.declared.Mode.TheVariants as mode
use Rattle.tv_spec.specs.declared.Shown.{Shown}
use Rattle.tv_spec.specs.declared.Shown.TheVariants as shown
use Rattle.tv_spec.specs.Legal.{IsLegal, after}
use Rattle.tv_spec.specs.LocalState.{LocalState}
use Rattle.tv_spec.specs.Setup.{Setup}
use Rattle.tv_spec.specs.Shows.{byte_shown, debug_bytes}
use Rattle.tv_spec.specs.State.{State}
use Rattle.tv_spec.specs.Step.{Move, made, end_at, end_shown, event_of, event_where, issued, mode_by}
use Rattle.tv_spec.specs.Update.{update}
use Rattle.tv_guest.specs.GuestState.{GuestState}

-- so many events of a hart
abbrev pub events_of : ℕ → ℕ → List Move
events_of hart count = replicate count (made (entry.Hart hart))

-- the state after so many events of a hart, by the hart, what it reaches and the mode after them, and what the last one showed: an
-- access is issued
abbrev pub after_events : State → ℕ → ℕ → HartState → LocalState → Mode → Shown → State
after_events s hart count later local now seen = issued hart seen (record s {
  harts = update s.harts hart later;
  local = local;
  mode = now;
  events = s.events + count;
  ticked = if count == 0 then s.ticked else false;
})

-- they may stand there, and lead to that state; the last one showed this, and those before it nothing; and none of them needed
-- what was closed
pub record IsBurst (setup : Setup) (s : State) (hart count : ℕ) (later : HartState) (local : LocalState) (now : Mode) (closed : Closed) (seen : Shown) : Type 0 where
  pub legal : IsLegal setup s (events_of hart count)
  pub state : after setup s (events_of hart count) ≡ after_events s hart count later local now seen
  pub bytes : debug_bytes setup s (events_of hart count) ≡ byte_shown seen
  pub last : (n : ℕ) → count ≡ suc n → seen ≡ (event_of (after setup s (events_of hart n)) hart).2.shown
  pub carried : (n : ℕ) → n < count → (event_where closed (after setup s (events_of hart n)) hart).0 ≢ did.Full

-- a state in which a run that goes on has a hart with what it reaches; it waits for nothing, and so many further events are within
-- the limit
pub record Stands (setup : Setup) (s : State) (hart : ℕ) (here : HartState) (local : LocalState) (most : ℕ) : Type 0 where
  pub exists : hart < setup.harts
  pub running : s.mode ≡ mode.Running
  pub free : s.pending hart ≡ None
  pub hart_is : s.harts hart ≡ here
  pub local_is : s.local ≡ local
  pub limit : s.events < setup.steps
  pub within : s.events + most ≤ setup.steps

-- the mode after so many events, of which the last one showed this
abbrev pub mode_then : Setup → State → ℕ → Shown → Mode
mode_then setup s count seen = mode_by (end_at (s.events + count == setup.steps) (end_shown seen))

-- a state for which the guest stands where this hart makes events: the hart waits for nothing, and it, what it reaches and how far
-- the run is are as in the guest. Other harts may differ: one whose load was acted on has its value in the state alone
pub record Hosts (setup : Setup) (s : State) (hart : ℕ) (guest : GuestState) : Type 0 where
  pub exists : hart < setup.harts
  pub count : length guest.harts ≡ setup.harts
  pub steps : guest.steps ≡ setup.steps
  pub free : s.pending hart ≡ None
  pub ready : (s.harts hart).waits ≡ None
  pub hart_is : s.harts hart ≡ slice_index_or guest.harts hart (first_hart hart)
  pub local_is : s.local ≡ guest.local
  pub mode_is : s.mode ≡ guest.mode
  pub events_are : s.events ≡ guest.events

-- why a burst is shorter than asked for: its last event showed something, or the run doesn't go on, or one more event needs what
-- is closed
abbrev pub Stops : Closed → State → ℕ → Shown → Type 0
Stops closed s hart seen =
    (seen ≢ shown.Nothing) ⊎ (s.mode ≢ mode.Running) ⊎ ((event_where closed s hart).0 ≡ did.Full)

-- a burst of up to so many events, where this is closed: what it made of the guest, and of each state that the guest stands for
pub record IsBurstOf (old new : GuestState) (hart most : ℕ) (closed : Closed) (count : ℕ) (seen : Shown) : Type 0 where
  pub later : HartState
  pub harts : new.harts ≡ slice_set old.harts hart later
  pub steps : new.steps ≡ old.steps
  pub burst : (setup : Setup) (s : State) → Hosts setup s hart old → IsBurst setup s hart count later new.local new.mode closed seen
  pub events : new.events ≡ old.events + count
  pub few : count ≤ most
  pub stops : (setup : Setup) (s : State) → Hosts setup s hart old → count < most → Stops closed (after setup s (events_of hart count)) hart seen
  pub same : count ≡ 0 → (new ≡ old) × (seen ≡ shown.Nothing)
