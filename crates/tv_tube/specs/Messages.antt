-- A tube as contracts see it: a queue of messages, each a list of bytes.
use Rattle.std.specs.Prelude.{◌≡◌, ℕ, ◌-◌, ◌*◌, ◌≤◌, List, [], ◌∷◌, ◌++◌, Bool, true, false, nat_lt, if◌then◌else◌, length, take, drop}
use Rattle.circular_buffer.specs.Buffer.{Buffer}
use Rattle.tv_tube.specs.declared.TheConstants.{PLACES, PLACE_BYTES}

-- its messages, the first one first, and how many there may be
pub record TubeState : Type 0 where
  pub messages : List (List ℕ)
  pub places : ℕ

-- a tube with one message more, before the others
abbrev pub with_first : List ℕ → TubeState → TubeState
with_first message tube = record tube { messages = message ∷ tube.messages }

-- a tube with one message more, behind the others
abbrev pub with_last : TubeState → List ℕ → TubeState
with_last tube message = record tube { messages = tube.messages ++ message ∷ [] }

-- a message is added exactly where a place is free
abbrev pub pushed : TubeState → List ℕ → Bool × TubeState
pushed tube message =
    if nat_lt (length tube.messages) tube.places then (true, with_last tube message) else (false, tube)

-- the messages of these lengths whose bytes lie one after the other
abbrev pub messages_of : List ℕ → List ℕ → List (List ℕ)
messages_of [] bytes = []
messages_of (n ∷ lengths) bytes = take n bytes ∷ messages_of lengths (drop n bytes)

-- messages of these lengths, each of at most a place's bytes, have so many bytes
abbrev pub HaveBytes : List ℕ → ℕ → Type 0
HaveBytes [] total = total ≡ 0
HaveBytes (n ∷ lengths) total = (n ≤ PLACE_BYTES) × (n ≤ total) × HaveBytes lengths (total - n)

-- what is true of a tube's lengths and bytes: there is room for the longest message in each place
pub record IsTube (lengths bytes : Buffer ℕ) : Type 0 where
  pub held : HaveBytes lengths.items (length bytes.items)
  pub within : length lengths.items ≤ lengths.capacity
  pub few : lengths.capacity ≤ PLACES
  pub room : bytes.capacity ≡ lengths.capacity * PLACE_BYTES
