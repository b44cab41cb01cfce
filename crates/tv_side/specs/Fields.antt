-- The fields of a side.
use Rattle.std.specs.Prelude.{◌≡◌, ℕ, ◌+◌, map, All, Option, Some, None, IfSome}
use Rattle.tv_base.specs.declared.limits.TheConstants.{LINES}
use Rattle.tv_items.specs.declared.item.Item.{Item}
use Rattle.tv_items.specs.declared.item.Item.TheVariants as item
use Rattle.tv_wire.specs.declared.Msg.{Msg}
use Rattle.tv_proxy.specs.Messages.{item_in}
use Rattle.tv_side.specs.declared.TheConstants.{REPLIES}
use Rattle.tv_side.specs.declared.side.Side.TheInside.{Inside}
use Rattle.tv_side.specs.Sides.{IsReply, SideState}

-- an item after its tag, or any other
abbrev pub tagged_or_any : Option (ℕ × Item) → ℕ × Item
tagged_or_any (Some tagged) = tagged
tagged_or_any None = (0, item.Stats)

-- the item of a message after its tag
abbrev pub tagged_in : Msg → ℕ × Item
tagged_in m = tagged_or_any (item_in m)

-- the message is of an item
abbrev pub HasItem : Msg → Type 0
HasItem m = item_in m ≡ Some (tagged_in m)

abbrev pub seen : Inside → SideState
seen s = record {
  proxy = s.proxy;
  items = map tagged_in s.commands.messages;
  tube = s.tube;
  replies = s.replies.messages;
  requests = s.requests;
  memory = record { asked = s.memory.asked; answered = s.memory.answered };
  interrupts = record { asked = s.interrupts.asked; answered = s.interrupts.answered };
  intended = s.intended;
  told = s.told;
}

-- what is true of them: the command tube has items, and room for a command of each line beside those of harts; the reply
-- tube has its places; and each lane's reply is a service's
pub record AreFields (s : Inside) : Type 0 where
  pub commands : All HasItem s.commands.messages
  pub room : s.commands.places ≡ s.tube + LINES
  pub places : s.replies.places ≡ REPLIES
  pub memory : IfSome s.memory.answered IsReply
  pub interrupts : IfSome s.interrupts.answered IsReply
