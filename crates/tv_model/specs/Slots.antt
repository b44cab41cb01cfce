-- What the moves of a device make of its slot.
use Rattle.std.specs.Prelude.{◌≡◌, ℕ, List, ◌∷◌, Option, Some, None, Result, Ok, Err, slice_get}
use Rattle.tv_items.specs.declared.action.Action.{Action}
use Rattle.tv_items.specs.declared.action.Way.{Way}
use Rattle.tv_items.specs.declared.item.Item.{Item}
use Rattle.tv_items.specs.declared.item.Item.TheVariants as item
use Rattle.tv_items.specs.Fits.{IsAction, way_of}
use Rattle.tv_plan.specs.Devices.{DeviceState}
use Rattle.tv_script.specs.Services.{Next, Asks}
use Rattle.tv_spec.specs.declared.Due.{Due}
use Rattle.tv_spec.specs.declared.Made.{Made}
use Rattle.tv_spec.specs.declared.Maker.{Maker}
use Rattle.tv_spec.specs.Devices.{IsOver, act_on, next_of, rested, with_act, with_reply}
use Rattle.tv_spec.specs.State.{DeviceRun}
use Rattle.tv_model.specs.declared.fault.StepFault.{StepFault}
use Rattle.tv_model.specs.declared.fault.StepFault.TheVariants as step_fault

-- a call by its answer: it made something that fits, or there is no such move, or there was no memory; nothing changes then
abbrev pub AnswersSo : {A : Type 0} → Type 0 → DeviceRun → DeviceRun → (A → Type 0) → Result A StepFault → Type 0
AnswersSo Can old new Fits (Ok a) = Can × Fits a
AnswersSo Can old new Fits (Err step_fault.Illegal) = (Can → ⊥) × (new ≡ old)
AnswersSo Can old new Fits (Err step_fault.Memory) = new ≡ old

-- the hart that an item on which a device acted gives a value, and that value
abbrev pub value_of : Maker → ℕ → Option (ℕ × ℕ)
value_of (Maker.Hart hart) value = Some (hart, value)
value_of (Maker.Line line) value = None

abbrev pub reached_as : Item → Maker → ℕ → Option (ℕ × ℕ)
reached_as (item.Load width off) maker value = value_of maker value
reached_as _ maker value = None

abbrev pub reached_by : Made → ℕ → Option (ℕ × ℕ)
reached_by m value = reached_as m.item m.maker value

-- a device acted on its next item
pub record IsTaken (old new : DeviceRun) (reached : Option (ℕ × ℕ)) : Type 0 where
  pub made : Made
  pub at : slice_get old.made old.acted ≡ Some made
  pub new_is : new ≡ with_act old made (act_on old made)
  pub reached_is : reached ≡ reached_by made (act_on old made).value

-- a copy of a device where its service is over
pub record IsRested (next : Next DeviceState) (device now : DeviceState) : Type 0 where
  pub over : IsOver next
  pub device_is : now ≡ rested device next

-- the action that a service is to serve
pub record IsSent (v : DeviceRun) (way : Way) (action : Action) : Type 0 where
  pub asks : next_of v ≡ Asks action
  pub goes : way_of action ≡ way
  pub fits : IsAction action

-- an answer moved on, of an item with this tag and maker
pub record IsAnswered (old new : DeviceRun) (tag : ℕ) (maker : Maker) : Type 0 where
  pub first : Due
  pub rest : List Due
  pub due : old.due ≡ first ∷ rest
  pub tag_is : first.tag ≡ tag
  pub maker_is : first.maker ≡ maker
  pub new_is : new ≡ with_reply old (first ∷ rest)

pub record IsLanded (old new : DeviceRun) (maker : Maker) : Type 0 where
  pub first : Due
  pub rest : List Due
  pub replied : old.replied ≡ first ∷ rest
  pub maker_is : first.maker ≡ maker
  pub new_is : new ≡ record old { replied = rest }
