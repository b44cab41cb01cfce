-- Events of a hart in a row that stay in memory.
use Rattle.std.specs.Prelude.{◌≡◌, ℕ, zero, suc}
use Rattle.tv_hart.specs.declared.Did.TheVariants as did
use Rattle.tv_hart.specs.Hart.{stepped}
use Rattle.tv_hart.specs.HartState.{HartState}
use Rattle.tv_spec.specs.Local.{local_meaning}
use Rattle.tv_spec.specs.Reach.{Reach}

-- memory and reservations alone may have changed
abbrev pub IsCalm : Reach → Reach → Type 0
IsCalm old new = new ≡ record old { local = record old.local { ram = new.local.ram; reservations = new.local.reservations } }

-- an event, while these lines are up, that retired its instruction and changed nothing but the hart, memory and reservations
pub record IsCalmEvent (lines : ℕ) (here : HartState) (now : Reach) (later : HartState) (place : Reach) : Type 0 where
  pub event : stepped local_meaning here now lines ≡ (did.Retired, later, place)
  pub calm : IsCalm now place
  pub waits : later.waits ≡ here.waits

-- so many of them, of which the last is named first
abbrev pub IsRow : ℕ → HartState → Reach → ℕ → HartState → Reach → Type 0
IsRow lines first reach zero later place = (later ≡ first) × (place ≡ reach)
IsRow lines first reach (suc n) later place =
    (here : HartState) × (now : Reach) × IsRow lines first reach n here now × IsCalmEvent lines here now later place
