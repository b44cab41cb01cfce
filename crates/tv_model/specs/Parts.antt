-- The monitor's parts as contracts see them, and what the entries make of each.
use Rattle.std.specs.Prelude.{◌≡◌, ℕ, List, length, Option, Some, None, true, false, Result, ⊤, slice_index_or, slice_set}
use Rattle.tv_base.specs.declared.Access.{Access}
use Rattle.tv_guest.specs.GuestState.{GuestState}
use Rattle.tv_hart.specs.Hart.{finished, first_hart}
use Rattle.tv_items.specs.declared.action.Way.{Way}
use Rattle.tv_items.specs.declared.action.Way.TheVariants.{Memory, Interrupt, Outside}
use Rattle.tv_journal.specs.declared.Entry.TheVariants as entry
use Rattle.tv_spec.specs.declared.Maker.{Maker}
use Rattle.tv_spec.specs.declared.Pending.{Pending}
use Rattle.tv_spec.specs.declared.Shown.{Shown}
use Rattle.tv_spec.specs.declared.Shown.TheVariants as shown
use Rattle.tv_spec.specs.Devices.{item_of, with_item}
use Rattle.tv_spec.specs.Sound.{load_at}
use Rattle.tv_spec.specs.State.{DeviceRun}
use Rattle.tv_spec.specs.Step.{pending_by}
use Rattle.tv_model.specs.declared.fault.StepFault.{StepFault}
use Rattle.tv_model.specs.declared.parts.Parts.{Parts}
use Rattle.tv_model.specs.Monitor.{StepsSo}
use Rattle.tv_model.specs.MonitorState.{MonitorState, SlotState, run_at}

abbrev pub seen : {D : Type 0} → Parts D → MonitorState
seen p = record {
  guest = p.guest;
  grants = p.grants;
  slots = p.slots.items;
  pending = p.pending;
  ticked = p.ticked;
  console = p.console.items;
}

abbrev pub run_of : SlotState → DeviceRun
run_of slot = slot.run

-- there is memory for an item more
abbrev pub HasRoom : SlotState → Type 0
HasRoom slot = slot.spare ≡ true

-- an action that was sent, served by a service of its way
abbrev pub ServesSo : MonitorState → MonitorState → ℕ → Way → Result ⊤ StepFault → Type 0
ServesSo old new dev Memory result = StepsSo old new (entry.ServeMem dev) result
ServesSo old new dev Interrupt result = StepsSo old new (entry.ServeIrq dev) result
ServesSo old new dev Outside result = Unit {0}

-- an access that was shown is an item of its device, and the hart waits for a load
pub record IsIssued (hart dev : ℕ) (access : Access) (slots later : List SlotState) (pending waiting : List (Option Pending)) : Type 0 where
  pub slots_are : later ≡ slice_set slots dev (record { run = with_item (run_at slots dev) (record { item = item_of access; maker = Maker.Hart hart }); spare = false })
  pub pending_is : waiting ≡ slice_set pending hart (pending_by dev (length (run_at slots dev).made) access)

abbrev pub IssuesSo : ℕ → Shown → List SlotState → List SlotState → List (Option Pending) → List (Option Pending) → Type 0
IssuesSo hart (shown.Access dev access) slots later pending waiting = IsIssued hart dev access slots later pending waiting
IssuesSo hart _ slots later pending waiting = (later ≡ slots) × (waiting ≡ pending)

-- by the number of a hart what it waits for, after the Reply to its load
abbrev pub noted_in : List (Option Pending) → ℕ → ℕ → Maker → List (Option Pending)
noted_in pending dev tag (Maker.Hart hart) = slice_set pending hart (Some (load_at dev tag true))
noted_in pending dev tag (Maker.Line line) = pending

-- and after it was delivered
abbrev pub freed_in : List (Option Pending) → Maker → List (Option Pending)
freed_in pending (Maker.Hart hart) = slice_set pending hart None
freed_in pending (Maker.Line line) = pending

-- harts after the value of a load reached one of them
abbrev pub finished_in : GuestState → Option (ℕ × ℕ) → GuestState
finished_in guest None = guest
finished_in guest (Some (hart, value)) =
    record guest { harts = slice_set guest.harts hart (finished (slice_index_or guest.harts hart (first_hart hart)) value) }
