-- What each state of a legal run has, for proofs alone: what is under way at devices fits what harts wait for. It reads the
-- loads that were not delivered and the devices, so a move that changes neither keeps it as it is.
use Rattle.std.specs.Prelude.{◌≡◌, ◌≢◌, ℕ, ◌<◌, ◌≤◌, Bool, true, false, List, [], ◌∷◌, ◌++◌, length, Option, Some, None, slice_get}
use Rattle.tv_items.specs.declared.item.Item.{Item}
use Rattle.tv_items.specs.declared.item.Item.TheVariants as item
use Rattle.tv_spec.specs.Setup.{Setup}
use Rattle.tv_spec.specs.declared.Made.{Made}
use Rattle.tv_spec.specs.declared.Maker.{Maker}
use Rattle.tv_spec.specs.declared.Due.{Due}
use Rattle.tv_spec.specs.declared.Pending.{Pending}
use Rattle.tv_spec.specs.State.{State, DeviceRun}

abbrev pub IsLoad : Item → Type 0
IsLoad (item.Load width off) = Unit {0}
IsLoad _ = ⊥

-- the item is a load of this hart
abbrev pub IsLoadOf : ℕ → Option Made → Type 0
IsLoadOf hart None = ⊥
IsLoadOf hart (Some m) = (m.maker ≡ Maker.Hart hart) × IsLoad m.item

-- none of these answers is to the item with the tag
abbrev pub NoTag : ℕ → List Due → Type 0
NoTag tag [] = Unit {0}
NoTag tag (w ∷ ws) = (w.tag ≢ tag) × NoTag tag ws

-- no two answers are to one item
abbrev pub AreDistinct : List Due → Type 0
AreDistinct [] = Unit {0}
AreDistinct (w ∷ ws) = NoTag w.tag ws × AreDistinct ws

abbrev pub load_at : ℕ → ℕ → Bool → Pending
load_at d tag replied = record { dev = d; tag = tag; replied = replied }

-- the maker of an item still waits for its answer
abbrev pub Awaits : (ℕ → Option Pending) → ℕ → ℕ → Bool → Maker → Type 0
Awaits pending d tag replied (Maker.Hart h) = pending h ≡ Some (load_at d tag replied)
Awaits pending d tag replied (Maker.Line c) = Unit {0}

-- each answer is to one of the items before a place, and its maker waits for it
abbrev pub AreAwaited : (ℕ → Option Pending) → ℕ → ℕ → Bool → List Due → Type 0
AreAwaited pending d limit replied [] = Unit {0}
AreAwaited pending d limit replied (w ∷ ws) =
    (w.tag < limit) × Awaits pending d w.tag replied w.maker × AreAwaited pending d limit replied ws

-- a device acted on items that there are; what a hart waits for is a load of its own; a load on which the device did not act is
-- waited for, and so is each answer, to no item two; and only harts of the machine wait
pub record IsSound (harts : ℕ) (pending : ℕ → Option Pending) (devs : ℕ → DeviceRun) : Type 0 where
  pub within : (d : ℕ) → (devs d).acted ≤ length (devs d).made
  pub owner : (h : ℕ) (p : Pending) → pending h ≡ Some p → IsLoadOf h (slice_get (devs p.dev).made p.tag)
  pub unacted : (d tag h : ℕ) → (devs d).acted ≤ tag → IsLoadOf h (slice_get (devs d).made tag) → pending h ≡ Some (load_at d tag false)
  pub due : (d : ℕ) → AreAwaited pending d (devs d).acted false (devs d).due
  pub replied : (d : ℕ) → AreAwaited pending d (devs d).acted true (devs d).replied
  pub distinct : (d : ℕ) → AreDistinct ((devs d).replied ++ (devs d).due)
  pub few : (h : ℕ) → harts ≤ h → pending h ≡ None

abbrev pub Sound : Setup → State → Type 0
Sound setup s = IsSound setup.harts s.pending s.devs
