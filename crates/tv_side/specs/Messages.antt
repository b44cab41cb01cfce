-- A tube of messages as contracts see it, and the messages that its bytes spell.
use Rattle.std.specs.Prelude.{◌≡◌, ℕ, ◌≤◌, List, [], ◌∷◌, ◌++◌, length, All, Option, Some, None}
use Rattle.tv_tube.specs.Messages.{TubeState}
use Rattle.tv_wire.specs.Reading.{reading}
use Rattle.tv_wire.specs.Spelling.{IsMessage}
use Rattle.tv_wire.specs.declared.Msg.{Msg}
use Rattle.tv_wire.specs.declared.Msg.TheVariants as msg

-- the messages that lie in it, the first one first, and how many there may be
pub record MessagesState : Type 0 where
  pub messages : List Msg
  pub places : ℕ

-- no message
abbrev pub no_messages : ℕ → MessagesState
no_messages places = record { messages = []; places = places }

-- with one message more, before the others
abbrev pub with_first : Msg → MessagesState → MessagesState
with_first m t = record t { messages = m ∷ t.messages }

-- with one message more, behind the others
abbrev pub with_last : MessagesState → Msg → MessagesState
with_last t m = record t { messages = t.messages ++ m ∷ [] }

-- the message that was read, or any other where none was
abbrev pub read_or_any : Option Msg → Msg
read_or_any (Some m) = m
read_or_any None = msg.Stats 0

-- the message that bytes spell
abbrev pub message_in : List ℕ → Msg
message_in bytes = read_or_any (reading bytes)

-- bytes that spell a message
pub record IsSpelt (bytes : List ℕ) : Type 0 where
  pub spelt : reading bytes ≡ Some (message_in bytes)
  pub legal : IsMessage (message_in bytes)

-- what is true of a tube of messages: each of its messages is spelt, and there are no more than places
pub record AreMessages (tube : TubeState) : Type 0 where
  pub spelt : All IsSpelt tube.messages
  pub within : length tube.messages ≤ tube.places

-- the first of these messages, if there is one
abbrev pub first_of : List Msg → Option Msg
first_of [] = None
first_of (m ∷ later) = Some m

-- what is true of the messages of one place
pub record IsSlot (m : MessagesState) : Type 0 where
  pub one : m.places ≡ 1
  pub few : length m.messages ≤ 1
