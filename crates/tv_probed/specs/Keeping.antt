-- What the worker of one device keeps of a proxied machine, and what calls bring to it.
use Rattle.std.specs.Prelude.{◌≡◌, ℕ, List, [], ◌∷◌, Bool, true, false, Option, Some, None}
use Rattle.tv_items.specs.declared.action.Heard.{Heard}
use Rattle.tv_items.specs.declared.item.Item.{Item}
use Rattle.tv_items.specs.declared.item.Item.TheVariants as item
use Rattle.tv_plan.specs.Devices.{DeviceState, next}
use Rattle.tv_script.specs.Answers.{IsHeard}
use Rattle.tv_spec.specs.Held.{Brought, Took, Began, Learned, Owes, held_from, held_of}
use Rattle.tv_spec.specs.declared.Answer.{Answer}
use Rattle.tv_core.specs.Seen.{Seen, HasDevice, dev_of}

-- a call brought this to the worker of a device, and the machine is the same
pub record BringsSo (old new : Seen) (d : ℕ) (brought : List Brought) : Type 0 where
  pub machine : new.machine ≡ old.machine
  pub held : held_of (dev_of new d) ≡ held_from (held_of (dev_of old d)) brought

-- by what a call answers
abbrev pub taken : Option (ℕ × Item) → List Brought
taken None = []
taken (Some tagged) = Took tagged.0 tagged.1 ∷ []

abbrev pub begun : Bool → List Brought
begun true = Began ∷ []
begun false = []

abbrev pub learned : Option Heard → List Brought
learned None = []
learned (Some heard) = Learned heard ∷ []

-- the answer that a worker owes, if it owes one
abbrev pub due_by : Option (ℕ × ℕ) → List Owes
due_by None = []
due_by (Some due) = record { tag = due.0; answer = Answer.Value due.1 } ∷ []

-- what a worker keeps of its device is what the state has: the device where it last acted, what it heard since, whether an action
-- is under way, and the value that it owes
pub record Keeps (core : Seen) (d count : ℕ) (device : DeviceState) (heard : List Heard) (busy : Bool) (due : Option (ℕ × ℕ)) : Type 0 where
  pub exists : HasDevice core d
  pub harts : core.machine.harts ≡ count
  pub held : held_of (dev_of core d) ≡ record { device = device; heard = heard; busy = busy; due = due_by due }
  pub fits : IsHeard (next device) heard

-- the value that a worker owes for an item on which its device acted
abbrev pub value_due : ℕ → Item → ℕ → Option (ℕ × ℕ)
value_due tag (item.Load width off) value = Some (tag, value)
value_due tag i value = None
