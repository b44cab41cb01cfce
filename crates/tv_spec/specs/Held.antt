-- The device that a worker holds: what the worker's own entries brought to it, one after the other, and nothing else.
use Rattle.std.specs.Prelude.{ℕ, ◌==◌, if◌then◌else◌, List, [], ◌∷◌, ◌++◌, map, Bool, true, false, Option, Some, None, slice_get}
use Rattle.tv_items.specs.declared.action.Heard.{Heard}
use Rattle.tv_items.specs.declared.item.Item.{Item}
use Rattle.tv_plan.specs.Devices.{DeviceState, Acted, act, next}
use Rattle.tv_script.specs.Services.{Next}
use Rattle.tv_journal.specs.declared.Entry.TheVariants as entry
use Rattle.tv_spec.specs.Devices.{answers_of, rested}
use Rattle.tv_spec.specs.Setup.{Setup}
use Rattle.tv_spec.specs.declared.Answer.{Answer}
use Rattle.tv_spec.specs.declared.Due.{Due}
use Rattle.tv_spec.specs.declared.Made.{Made}
use Rattle.tv_spec.specs.declared.Phase.{Phase}
use Rattle.tv_spec.specs.State.{DeviceRun, State}
use Rattle.tv_spec.specs.Step.{Move, made, done}

-- what an entry brings to a worker: an item with its tag; that an action was begun; what was heard of it; that the oldest answer
-- has its Reply
pub data Brought : Type 0 where
  Took : ℕ → Item → Brought
  Began : Brought
  Learned : Heard → Brought
  Replied : Brought

-- an answer that the worker owes, by the tag of its item
pub record Owes : Type 0 where
  pub tag : ℕ
  pub answer : Answer

-- the device where it last acted, what it heard since then, whether an action is under way, and the answers without a Reply
pub record Held : Type 0 where
  pub device : DeviceState
  pub heard : List Heard
  pub busy : Bool
  pub due : List Owes

-- what the device does next
abbrev pub next_held : Held → Next DeviceState
next_held held = next held.device held.heard

abbrev pub owes_for : ℕ → List Answer → List Owes
owes_for tag [] = []
owes_for tag (answer ∷ answers) = record { tag = tag; answer = answer } ∷ owes_for tag answers

abbrev pub acted_so : Held → ℕ → Item → Acted → Held
acted_so held tag item a =
    record { device = a.device; heard = []; busy = false; due = held.due ++ owes_for tag (answers_of item a) }

abbrev pub without_first : List Owes → List Owes
without_first [] = []
without_first (w ∷ ws) = ws

abbrev pub held_by : Held → Brought → Held
held_by held (Took tag item) = acted_so held tag item (act (rested held.device (next_held held)) tag item)
held_by held Began = record held { busy = true }
held_by held (Learned heard) = record held { heard = held.heard ++ heard ∷ []; busy = false }
held_by held Replied = record held { due = without_first held.due }

abbrev pub held_from : Held → List Brought → Held
held_from held [] = held
held_from held (b ∷ bs) = held_from (held_by held b) bs

-- the same of a device of the state: a reply that it has not got is still away
abbrev pub is_busy : Phase → Bool
is_busy Phase.Quiet = false
is_busy _ = true

abbrev pub owes : Due → Owes
owes w = record { tag = w.tag; answer = w.answer }

abbrev pub held_of : DeviceRun → Held
held_of v = record { device = v.device; heard = v.got; busy = is_busy v.phase; due = map owes v.due }

-- what a move brings to the worker of a device, in the state before it
abbrev pub item_brought : ℕ → Option Made → List Brought
item_brought tag None = []
item_brought tag (Some m) = Took tag m.item ∷ []

abbrev pub reply_brought : Phase → List Brought
reply_brought (Phase.Served reply) = Learned reply ∷ []
reply_brought _ = []

abbrev pub if_own : ℕ → ℕ → List Brought → List Brought
if_own d other brought = if d == other then brought else []

abbrev pub brought_by : State → ℕ → Move → List Brought
brought_by s d (made (entry.Take e)) = if_own d e (item_brought (s.devs e).acted (slice_get (s.devs e).made (s.devs e).acted))
brought_by s d (made (entry.Send e)) = if_own d e (Began ∷ [])
brought_by s d (made (entry.Got e)) = if_own d e (reply_brought (s.devs e).phase)
brought_by s d (made (entry.Reply e)) = if_own d e (Replied ∷ [])
brought_by s d (made (entry.Intend e)) = if_own d e (Began ∷ [])
brought_by s d (made (entry.Did e heard)) = if_own d e (Learned heard ∷ [])
brought_by s d _ = []

-- and what moves bring
abbrev pub own : Setup → State → ℕ → List Move → List Brought
own setup s d [] = []
own setup s d (move ∷ moves) = brought_by s d move ++ own setup (done setup s move) d moves
