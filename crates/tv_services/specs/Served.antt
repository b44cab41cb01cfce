-- What the memory and the interrupt service answer to the messages of a device's worker.
use Rattle.std.specs.Prelude.{ℕ, ◌+◌, if◌then◌else◌, List, Option, Some, None}
use Rattle.tv_grants.specs.Direct.{Direct, direct_action}
use Rattle.tv_grants.specs.Grants.{GrantState, owns_source}
use Rattle.tv_intc.specs.Controller.{raise_of}
use Rattle.tv_intc.specs.ControllerState.{Controller}
use Rattle.tv_items.specs.declared.action.Action.{Action}
use Rattle.tv_items.specs.declared.action.Action.TheVariants as action
use Rattle.tv_items.specs.declared.action.Heard.{Heard}
use Rattle.tv_items.specs.declared.action.Heard.TheVariants as heard
use Rattle.tv_wire.specs.declared.Msg.{Msg}
use Rattle.tv_wire.specs.declared.Msg.TheVariants as msg
use Rattle.tv_wire.specs.Spelling.{parts_of}

-- the tag of a message
abbrev pub tag_of : Msg → ℕ
tag_of m = (parts_of m).tag

-- the action on memory that a message asks for, if it asks for one
abbrev pub memory_action : Msg → Option Action
memory_action (msg.Read tag addr len) = Some (action.Read addr len)
memory_action (msg.Write tag addr bytes) = Some (action.Write addr bytes)
memory_action (msg.Release tag page hold) = Some (action.Release page hold)
memory_action (msg.Regain tag page) = Some (action.Regain page)
memory_action m = None

-- the message with this tag that tells a device what it hears of an action on memory
abbrev pub memory_reply : ℕ → Heard → Msg
memory_reply tag (heard.Bytes bytes) = msg.Bytes tag bytes
memory_reply tag heard.Done = msg.MemDone tag
memory_reply tag h = msg.MemRefused tag

-- a reply, and memory and the grants after it
pub record Served : Type 0 where
  pub reply : Msg
  pub ram : List ℕ
  pub grants : GrantState

abbrev pub with_reply : ℕ → Direct → Served
with_reply tag d = record { reply = memory_reply tag d.heard; ram = d.ram; grants = d.grants }

-- what the memory service does for a device at a message that asks for an action: the action itself, with the reply under the
-- same tag
abbrev pub memory_served : ℕ → List ℕ → GrantState → ℕ → Action → Served
memory_served dev ram s tag a = with_reply tag (direct_action dev ram s a)

-- what the interrupt service does for a device: where the device has an interrupt source, the source is raised, whose number is
-- the one after the device's slot
abbrev pub interrupt_served : ℕ → GrantState → Controller → ℕ → Msg × Controller
interrupt_served dev s c tag = if owns_source s dev then (msg.IrqDone tag, raise_of c (dev + 1)) else (msg.IrqRefused tag, c)
