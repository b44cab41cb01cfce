-- Items, verdicts, actions and what is heard of them, as messages.
use Rattle.std.specs.Prelude.{ℕ, ◌%◌, ◌^◌, Option, Some, None}
use Rattle.tv_base.specs.declared.Access.{Access}
use Rattle.tv_base.specs.declared.Access.TheVariants as access
use Rattle.tv_base.specs.Width.{width_bytes}
use Rattle.tv_items.specs.declared.action.Action.{Action}
use Rattle.tv_items.specs.declared.action.Action.TheVariants as action
use Rattle.tv_items.specs.declared.action.Heard.{Heard}
use Rattle.tv_items.specs.declared.action.Heard.TheVariants as heard
use Rattle.tv_items.specs.declared.item.Item.{Item}
use Rattle.tv_items.specs.declared.item.Item.TheVariants as item
use Rattle.tv_items.specs.declared.item.Verdict.{Verdict}
use Rattle.tv_wire.specs.declared.Msg.{Msg}
use Rattle.tv_wire.specs.declared.Msg.TheVariants as msg

-- the item that an access makes: of a store's value only the bytes of its width count
abbrev pub item_of : Access → Item
item_of (access.Load width off) = item.Load width off
item_of (access.Store width off value) = item.Store width off (value % 256 ^ width_bytes width)

-- the item is a command, and no access
abbrev pub IsCommand : Item → Type 0
IsCommand (item.Load width off) = ⊥
IsCommand (item.Store width off value) = ⊥
IsCommand i = Unit {0}

-- the message of an item with its tag
abbrev pub item_message : ℕ → Item → Msg
item_message tag (item.Load width off) = msg.Load tag width off
item_message tag (item.Store width off value) = msg.Store tag width off value
item_message tag (item.Target pages) = msg.Target tag pages
item_message tag item.Stats = msg.Stats tag
item_message tag (item.Resize sectors) = msg.Resize tag sectors

-- the tag and the item of a message; None where it is of no item
abbrev pub item_in : Msg → Option (ℕ × Item)
item_in (msg.Load tag width off) = Some (tag, item.Load width off)
item_in (msg.Store tag width off value) = Some (tag, item.Store width off value)
item_in (msg.Target tag pages) = Some (tag, item.Target pages)
item_in (msg.Stats tag) = Some (tag, item.Stats)
item_in (msg.Resize tag sectors) = Some (tag, item.Resize sectors)
item_in m = None

-- the message of a verdict
abbrev pub verdict_message : Verdict → Msg
verdict_message verdict = msg.Answer verdict.tag verdict.status verdict.other verdict.stats

-- the request of an action with its tag; None where no service does the action
abbrev pub request_message : ℕ → Action → Option Msg
request_message tag (action.Read addr len) = Some (msg.Read tag addr len)
request_message tag (action.Write addr bytes) = Some (msg.Write tag addr bytes)
request_message tag (action.Release page hold) = Some (msg.Release tag page hold)
request_message tag (action.Regain page) = Some (msg.Regain tag page)
request_message tag action.Raise = Some (msg.Raise tag)
request_message tag a = None

-- what a service's reply says; None where the message is no such reply
abbrev pub heard_in : Msg → Option Heard
heard_in (msg.Bytes tag bytes) = Some (heard.Bytes bytes)
heard_in (msg.MemDone tag) = Some heard.Done
heard_in (msg.MemRefused tag) = Some heard.Refused
heard_in (msg.IrqDone tag) = Some heard.Done
heard_in (msg.IrqRefused tag) = Some heard.Refused
heard_in m = None
