-- Events that compute, jump, or load and store in memory, without their count: in a row of them no interrupt becomes pending, and the counters
-- can be raised once for all.
use Rattle.std.specs.Prelude.{◌≡◌, ℕ, ◌%◌, None, true}
use Rattle.tv_base.specs.declared.Width.{Width}
use Rattle.tv_base.specs.Width.{width_bytes}
use Rattle.tv_hart.specs.declared.Did.TheVariants.{Retired}
use Rattle.tv_hart.specs.declared.loads.Extension.{Extension}
use Rattle.tv_hart.specs.declared.place.Loaded.TheVariants as loaded
use Rattle.tv_hart.specs.declared.place.Stored.TheVariants as stored
use Rattle.tv_hart.specs.Hart.{at_pc, next_pc, put, stepped, with_csrs}
use Rattle.tv_hart.specs.HartState.{HartState}
use Rattle.tv_hart.specs.Loads.{extended}
use Rattle.tv_hart.specs.Place.{Meaning}
use Rattle.tv_trap.specs.CsrState.{CsrState}
use Rattle.tv_trap.specs.Traps.{counted, pending_interrupt}

-- the hart that goes on at a pc with a value in a register, uncounted
abbrev pub moved : HartState → ℕ → ℕ → ℕ → HartState
moved hart pc rd value = put (at_pc hart pc) rd value

-- whatever the control and status registers of this hart are, the event is its instruction where no interrupt is pending: it is retired, and these
-- are left but for its count
abbrev pub IsPlainEvent : {P : Type 0} → Meaning P → HartState → P → HartState → P → Type 0
IsPlainEvent m old before new after =
    (csrs : CsrState) (lines : ℕ) → csrs.hart ≡ old.csrs.hart → pending_interrupt csrs lines ≡ None
    → stepped m (with_csrs old csrs) before lines ≡ (Retired, with_csrs new (counted csrs true None), after)

-- what such an event leaves
pub record RestsOf (old new : HartState) : Type 0 where
  pub csrs : new.csrs ≡ old.csrs
  pub waits : new.waits ≡ old.waits

pub record IsNumberLoaded {P : Type 0} (m : Meaning P) (old : HartState) (place : P) (width : Width) (extension : Extension) (rd addr : ℕ) (new : HartState) : Type 0 where
  pub aligned : addr % width_bytes width ≡ 0
  pub value : ℕ
  pub load : (hart : ℕ) → m.load place hart width addr ≡ (loaded.Value value, place)
  pub hart : new ≡ moved old (next_pc old) rd (extended extension width value)

pub record IsNumberStored {P : Type 0} (m : Meaning P) (old : HartState) (before : P) (width : Width) (addr value : ℕ) (new : HartState) (after : P) : Type 0 where
  pub aligned : addr % width_bytes width ≡ 0
  pub store : m.store before old.csrs.hart width addr value ≡ (stored.Done, after)
  pub hart : new ≡ moved old (next_pc old) 0 0
