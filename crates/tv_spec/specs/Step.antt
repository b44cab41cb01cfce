-- One step of the in-process monitor, by cases: where it may stand, and what it makes of the state.
use Rattle.std.specs.Prelude.{◌≡◌, ◌≢◌, ◌==◌, ℕ, ◌+◌, ◌<◌, if◌then◌else◌, Bool, true, false, List, [], ◌∷◌, length, Option, Some, None, slice_get}
use Rattle.tv_base.specs.declared.Access.{Access}
use Rattle.tv_base.specs.declared.Access.TheVariants as access
use Rattle.tv_base.specs.declared.Why.{Why}
use Rattle.tv_base.specs.declared.Why.TheVariants as why
use Rattle.tv_hart.specs.Hart.{Outcome, stepped, finished}
use Rattle.tv_intc.specs.declared.ending.Finish.TheVariants as finisher
use Rattle.tv_items.specs.declared.action.Heard.{Heard}
use Rattle.tv_items.specs.declared.action.Heard.TheVariants as heard
use Rattle.tv_items.specs.declared.action.Way.TheVariants.{Memory, Interrupt}
use Rattle.tv_journal.specs.Grammar.{cause_byte}
use Rattle.tv_plan.specs.Devices.{DeviceState, Acted}
use Rattle.tv_script.specs.Services.{Next, Asks, Rests, Loses}
use Rattle.tv_spec.specs.declared.Closed.{Closed}
use Rattle.tv_journal.specs.declared.Entry.{Entry}
use Rattle.tv_journal.specs.declared.Entry.TheVariants as entry
use Rattle.tv_spec.specs.declared.Mode.{Mode}
use Rattle.tv_spec.specs.declared.Mode.TheVariants as mode
use Rattle.tv_spec.specs.declared.Shown.{Shown}
use Rattle.tv_spec.specs.declared.Shown.TheVariants as shown
use Rattle.tv_spec.specs.Devices.{CanTake, CanBegin, CanServe, CanHear, GoesInside, GoesOutside, IsServed, act_on, answers_of, due_for, item_of, next_of, with_act, with_got, with_heard, with_item, with_phase, with_reply}
use Rattle.tv_spec.specs.Direct.{Direct, direct}
use Rattle.tv_spec.specs.Local.{local_meaning}
use Rattle.tv_spec.specs.LocalState.{after_tick, lines_of}
use Rattle.tv_spec.specs.Reach.{Reach, all_open}
use Rattle.tv_spec.specs.Setup.{Setup}
use Rattle.tv_spec.specs.declared.Made.{Made}
use Rattle.tv_spec.specs.declared.Maker.{Maker}
use Rattle.tv_spec.specs.declared.Answer.{Answer}
use Rattle.tv_spec.specs.declared.Due.{Due}
use Rattle.tv_spec.specs.declared.Phase.{Phase}
use Rattle.tv_spec.specs.declared.Pending.{Pending}
use Rattle.tv_spec.specs.State.{DeviceRun, State, device_in}
use Rattle.tv_spec.specs.Update.{update}

-- what a history has: entries of the journal, and an end that no entry made
pub data Move : Type 0 where
  made : Entry → Move
  ended : Why → Move

-- 1. Harts

-- the event that a hart would make now where this is closed to it: what it did, the hart after it, and its place after it with
-- what it showed
abbrev pub event_where : Closed → State → ℕ → Outcome Reach
event_where closed s hart =
    stepped local_meaning (s.harts hart) (record { local = s.local; closed = closed; shown = shown.Nothing }) (lines_of s.local hart)

-- the event that it would make where nothing is closed
abbrev pub event_of : State → ℕ → Outcome Reach
event_of s hart = event_where all_open s hart

-- the cause for which an event ends the run by itself
abbrev pub end_shown : Shown → Option Why
end_shown (shown.Finish finisher.Off) = Some why.PowerOff
end_shown (shown.Finish (finisher.Failed code)) = Some (why.Failed code)
end_shown _ = None

-- the same, or the limit of events where the last event did not end the run by itself
abbrev pub end_at : Bool → Option Why → Option Why
end_at last (Some cause) = Some cause
end_at last None = if last then Some why.Steps else None

abbrev pub mode_by : Option Why → Mode
mode_by None = mode.Running
mode_by (Some cause) = mode.Ending cause

-- the cause for which the event that a hart would make now ends the run
abbrev pub end_of_event : Setup → State → ℕ → Option Why
end_of_event setup s hart = end_at (s.events + 1 == setup.steps) (end_shown (event_of s hart).2.shown)

-- a hart waits for the load that it issued, and for no store
abbrev pub pending_by : ℕ → ℕ → Access → Option Pending
pending_by dev tag (access.Load width off) = Some (record { dev = dev; tag = tag; replied = false })
pending_by dev tag (access.Store width off value) = None

-- an access to a device becomes the last of its items
abbrev pub issued : ℕ → Shown → State → State
issued hart (shown.Access d access) s = record s {
  devs = update s.devs d (with_item (s.devs d) (record { item = item_of access; maker = Maker.Hart hart }));
  pending = update s.pending hart (pending_by d (length (s.devs d).made) access);
}
issued hart _ s = s

-- after the event of a hart, but for an access that it issues
abbrev pub after_event : Setup → State → ℕ → State
after_event setup s hart = record s {
  harts = update s.harts hart (event_of s hart).1;
  local = (event_of s hart).2.local;
  mode = mode_by (end_of_event setup s hart);
  events = s.events + 1;
}

abbrev pub hart_done : Setup → State → ℕ → State
hart_done setup s hart = issued hart (event_of s hart).2.shown (after_event setup s hart)

-- 2. Devices

abbrev pub put_dev : State → ℕ → DeviceRun → State
put_dev s d v = record s { devs = update s.devs d v }

-- the value of a load reaches its hart as soon as the device acts
abbrev pub reached : State → List Due → State
reached s [] = s
reached s (w ∷ ws) = reached_at s w.maker w.answer
  where
    reached_at : State → Maker → Answer → State
    reached_at s (Maker.Hart h) (Answer.Value n) = record s { harts = update s.harts h (finished (s.harts h) n) }
    reached_at s _ _ = s

-- a device acted on an item, and made this of it
abbrev pub took_as : State → ℕ → Made → Acted → State
took_as s d m a = put_dev (reached s (due_for (s.devs d).acted m.maker (answers_of m.item a))) d (with_act (s.devs d) m a)

abbrev pub took : State → ℕ → Option Made → State
took s d None = s
took s d (Some m) = took_as s d m (act_on (s.devs d) m)

-- a service did the next action of a device
abbrev pub served_as : State → ℕ → Direct → State
served_as s d done = record (put_dev s d (with_phase (s.devs d) (Phase.Served done.heard))) {
  local = done.local;
  withdrawn = done.withdrawn;
}

abbrev pub served : Setup → State → ℕ → Next DeviceState → State
served setup s d (Asks action) = served_as s d (direct (device_in setup.devices d) d s.local s.withdrawn action)
served setup s d (Rests state) = s
served setup s d (Loses state) = s

-- bytes of a put were lost, which ends a run that goes on
abbrev pub mode_after : Mode → ℕ → Heard → Mode
mode_after (mode.Ending cause) d h = mode.Ending cause
mode_after mode.Running d (heard.Taken n) = mode.Ending (why.Lost d)
mode_after mode.Running d _ = mode.Running

abbrev pub heard_done : State → ℕ → Heard → State
heard_done s d h = record (put_dev s d (with_heard (s.devs d) h)) { mode = mode_after s.mode d h }

-- the Reply to a load is noted with its hart
abbrev pub noted : State → ℕ → List Due → State
noted s d [] = s
noted s d (w ∷ ws) = noted_at s d w.tag w.maker
  where
    noted_at : State → ℕ → ℕ → Maker → State
    noted_at s d tag (Maker.Hart h) =
        record s { pending = update s.pending h (Some (record { dev = d; tag = tag; replied = true })) }
    noted_at s d tag (Maker.Line c) = s

-- the oldest of these Replies comes to its maker
abbrev pub landed : State → ℕ → List Due → State
landed s d [] = s
landed s d (w ∷ ws) = put_dev (landed_at s w.maker) d (record (s.devs d) { replied = ws })
  where
    landed_at : State → Maker → State
    landed_at s (Maker.Hart h) = record s { pending = update s.pending h None }
    landed_at s (Maker.Line c) = s

-- 3. Where a move may stand

-- the run has not ended
abbrev pub IsOpen : Mode → Type 0
IsOpen (mode.Ending cause) = ⊥
IsOpen _ = Unit {0}

-- an event of a hart: the machine has that hart, the run goes on, and the hart waits for no load
pub record CanStep (setup : Setup) (s : State) (hart : ℕ) : Type 0 where
  pub exists : hart < setup.harts
  pub running : s.mode ≡ mode.Running
  pub ready : s.pending hart ≡ None

-- a tick: the run goes on, the entry before is no tick, and time goes on by something
pub record CanTick (s : State) (n : ℕ) : Type 0 where
  pub running : s.mode ≡ mode.Running
  pub first : s.ticked ≡ false
  pub some : 0 < n

-- an end that no entry made: the run has not ended, and the cause is one of those
pub record CanEnd (s : State) (cause : Why) : Type 0 where
  pub is_open : IsOpen s.mode
  pub outer : cause_byte cause ≢ None

-- the machine has that device
abbrev pub Has : Setup → ℕ → Type 0
Has setup d = d < length setup.devices

-- where a move may stand. After the end of a run a device still gets what was served, hears of what it intended, and answers
abbrev pub Can : Setup → State → Move → Type 0
Can setup s (made (entry.Hart hart)) = CanStep setup s hart
Can setup s (made (entry.Take d)) = Has setup d × IsOpen s.mode × CanTake (s.devs d)
Can setup s (made (entry.Send d)) = Has setup d × IsOpen s.mode × CanBegin (s.devs d) GoesInside
Can setup s (made (entry.ServeMem d)) = Has setup d × IsOpen s.mode × CanServe (s.devs d) Memory
Can setup s (made (entry.ServeIrq d)) = Has setup d × IsOpen s.mode × CanServe (s.devs d) Interrupt
Can setup s (made (entry.Got d)) = Has setup d × IsServed (s.devs d).phase
Can setup s (made (entry.Reply d)) = Has setup d × (0 < length (s.devs d).due)
Can setup s (made (entry.Deliver d)) = Has setup d × (0 < length (s.devs d).replied)
Can setup s (made (entry.Intend d)) = Has setup d × IsOpen s.mode × CanBegin (s.devs d) GoesOutside
Can setup s (made (entry.Did d heard)) = Has setup d × CanHear (s.devs d) heard
Can setup s (made (entry.Tick n)) = CanTick s n
Can setup s (ended cause) = CanEnd s cause

-- 4. What a move makes of the state; where it may not stand, this says nothing

abbrev pub entry_done : Setup → State → Entry → State
entry_done setup s (entry.Hart hart) = hart_done setup s hart
entry_done setup s (entry.Take d) = took s d (slice_get (s.devs d).made (s.devs d).acted)
entry_done setup s (entry.Send d) = put_dev s d (with_phase (s.devs d) Phase.Sent)
entry_done setup s (entry.ServeMem d) = served setup s d (next_of (s.devs d))
entry_done setup s (entry.ServeIrq d) = served setup s d (next_of (s.devs d))
entry_done setup s (entry.Got d) = put_dev s d (with_got (s.devs d))
entry_done setup s (entry.Reply d) = put_dev (noted s d (s.devs d).due) d (with_reply (s.devs d) (s.devs d).due)
entry_done setup s (entry.Deliver d) = landed s d (s.devs d).replied
entry_done setup s (entry.Intend d) = put_dev s d (with_phase (s.devs d) Phase.Intended)
entry_done setup s (entry.Did d heard) = heard_done s d heard
entry_done setup s (entry.Tick n) = record s { local = after_tick s.local n }

-- whether an entry is a tick
abbrev pub is_tick : Entry → Bool
is_tick (entry.Tick n) = true
is_tick _ = false

abbrev pub done : Setup → State → Move → State
done setup s (made e) = record (entry_done setup s e) { ticked = is_tick e }
done setup s (ended cause) = record s { mode = mode.Ending cause }
