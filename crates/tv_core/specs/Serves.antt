-- Requests to the services as actions, and what the services reply.
use Rattle.std.specs.Prelude.{ℕ, Option, Some, None}
use Rattle.tv_items.specs.declared.action.Action.{Action}
use Rattle.tv_items.specs.declared.action.Action.TheVariants as action
use Rattle.tv_items.specs.declared.action.Heard.{Heard}
use Rattle.tv_items.specs.declared.action.Heard.TheVariants as heard
use Rattle.tv_items.specs.declared.action.Way.{Way}
use Rattle.tv_items.specs.declared.action.Way.TheVariants.{Memory, Interrupt, Outside}
use Rattle.tv_journal.specs.declared.Entry.{Entry}
use Rattle.tv_journal.specs.declared.Entry.TheVariants as entry
use Rattle.tv_wire.specs.declared.Msg.{Msg}
use Rattle.tv_wire.specs.declared.Msg.TheVariants as msg

-- the tag and the action of a request; None where the message is no request
abbrev pub request_in : Msg → Option (ℕ × Action)
request_in (msg.Read tag addr len) = Some (tag, action.Read addr len)
request_in (msg.Write tag addr bytes) = Some (tag, action.Write addr bytes)
request_in (msg.Release tag page hold) = Some (tag, action.Release page hold)
request_in (msg.Regain tag page) = Some (tag, action.Regain page)
request_in (msg.Raise tag) = Some (tag, action.Raise)
request_in m = None

abbrev pub request_by : Option Msg → Option (ℕ × Action)
request_by None = None
request_by (Some m) = request_in m

-- the message that tells a worker what came of its request
abbrev pub reply_message : Way → ℕ → Heard → Msg
reply_message Memory tag (heard.Bytes bytes) = msg.Bytes tag bytes
reply_message Memory tag heard.Done = msg.MemDone tag
reply_message Memory tag h = msg.MemRefused tag
reply_message Interrupt tag heard.Done = msg.IrqDone tag
reply_message Interrupt tag h = msg.IrqRefused tag
reply_message Outside tag h = msg.IrqRefused tag

-- the entry of the service that serves this way
abbrev pub serve_entry : Way → ℕ → Entry
serve_entry Memory d = entry.ServeMem d
serve_entry Interrupt d = entry.ServeIrq d
serve_entry Outside d = entry.ServeIrq d
