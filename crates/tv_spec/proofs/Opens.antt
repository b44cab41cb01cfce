-- Where nothing is closed each event is made.
use Rattle.std.proofs.Common.{◌≡◌, ℕ, ◌%◌, ◌==◌, Bool, true, false, if◌then◌else◌, Option, Some, None}
use Rattle.tv_base.specs.declared.Width.{Width}
use Rattle.tv_base.specs.Width.{width_bytes}
use Rattle.tv_bus.specs.declared.Target.{Target}
use Rattle.tv_bus.specs.declared.Target.TheVariants as target
use Rattle.tv_hart.specs.declared.Did.{Did}
use Rattle.tv_hart.specs.declared.Did.TheVariants as did
use Rattle.tv_hart.specs.declared.effect.Effect.{Effect}
use Rattle.tv_hart.specs.declared.effect.Effect.TheVariants as effect
use Rattle.tv_hart.specs.declared.loads.Extension.{Extension}
use Rattle.tv_hart.specs.declared.operation.CsrOp.{CsrOp}
use Rattle.tv_hart.specs.declared.place.Loaded.{Loaded}
use Rattle.tv_hart.specs.declared.place.Loaded.TheVariants as loaded
use Rattle.tv_hart.specs.declared.place.Stored.{Stored}
use Rattle.tv_hart.specs.declared.place.Stored.TheVariants as stored
use Rattle.tv_hart.specs.Effect.{effect_of, csr_value}
use Rattle.tv_hart.specs.Hart.{Outcome, stepped, interrupted, fetched, row, carried, after_load, after_store, after_number, after_conditional, after_csr_read, after_csr_write}
use Rattle.tv_hart.specs.HartState.{HartState}
use Rattle.tv_hart.specs.Operation.{operation_of}
use Rattle.tv_isa.specs.declared.Instr.{Instr}
use Rattle.tv_isa.specs.Table.{reading}
use Rattle.tv_spec.specs.declared.Closed.{Closed}
use Rattle.tv_spec.specs.Local.{local_meaning, load_from, store_to, target_at}
use Rattle.tv_spec.specs.Reach.{Reach, is_closed}
use Rattle.tv_trap.specs.CsrState.{CsrState}
use Rattle.tv_trap.specs.Registers.{csr_read, csr_write}
use Rattle.tv_trap.specs.Traps.{pending_interrupt}

pub record IsAllOpen (closed : Closed) : Type 0 where
  pub debug : closed.debug ≡ false
  pub loads : (slot : ℕ) → is_closed closed.loads slot ≡ false
  pub stores : (slot : ℕ) → is_closed closed.stores slot ≡ false

abbrev pub IsDone : Did → Type 0
IsDone did.Full = ⊥
IsDone _ = Unit {0}

abbrev pub IsLoaded : Loaded → Type 0
IsLoaded loaded.Full = ⊥
IsLoaded _ = Unit {0}

abbrev pub IsStored : Stored → Type 0
IsStored stored.Full = ⊥
IsStored _ = Unit {0}

load_open : (p : Reach) (width : Width) (addr : ℕ) (place : Option (Target × ℕ)) → IsAllOpen p.closed → IsLoaded (load_from p width addr place).0
load_open p width addr None is = tt
load_open p width addr (Some (target.Ram, off)) is = tt
load_open p width addr (Some (target.Finisher, off)) is = tt
load_open p width addr (Some (target.Timer, off)) is = tt
load_open p width addr (Some (target.Intc, off)) is = tt
load_open p width addr (Some (target.Debug, off)) is = tt
load_open p width addr (Some (target.Device slot, off)) is = rw (is.loads slot) tt

store_open : (p : Reach) (hart : ℕ) (width : Width) (addr value : ℕ) (place : Option (Target × ℕ)) → IsAllOpen p.closed → IsStored (store_to p hart width addr value place).0
store_open p hart width addr value None is = tt
store_open p hart width addr value (Some (target.Ram, off)) is = tt
store_open p hart width addr value (Some (target.Finisher, off)) is = tt
store_open p hart width addr value (Some (target.Timer, off)) is = tt
store_open p hart width addr value (Some (target.Intc, off)) is = tt
store_open p hart width addr value (Some (target.Debug, off)) is = rw is.debug tt
store_open p hart width addr value (Some (target.Device slot, off)) is = rw (is.stores slot) tt

after_load_done : (hart : HartState) (width : Width) (extension : Extension) (rd addr : ℕ) (r : Loaded × Reach) → IsLoaded r.0 → IsDone (after_load hart width extension rd addr r).0
after_load_done hart width extension rd addr (loaded.Value n, p) l = tt
after_load_done hart width extension rd addr (loaded.Held, p) l = tt
after_load_done hart width extension rd addr (loaded.Full, p) l = l
after_load_done hart width extension rd addr (loaded.Nothing, p) l = tt

after_store_done : (hart : HartState) (addr : ℕ) (r : Stored × Reach) → IsStored r.0 → IsDone (after_store hart addr r).0
after_store_done hart addr (stored.Done, p) l = tt
after_store_done hart addr (stored.Full, p) l = l
after_store_done hart addr (stored.Nothing, p) l = tt

number_done : (hart : HartState) (cause : ℕ) (width : Width) (rd addr : ℕ) (r : Option ℕ × Reach) → IsDone (after_number hart cause width rd addr r).0
number_done hart cause width rd addr (None, p) = tt
number_done hart cause width rd addr (Some value, p) = tt

conditional_done : (hart : HartState) (rd addr : ℕ) (r : Option Bool × Reach) → IsDone (after_conditional hart rd addr r).0
conditional_done hart rd addr (None, p) = tt
conditional_done hart rd addr (Some done, p) = tt

either_done : (b : Bool) (one other : Outcome Reach) → IsDone one.0 → IsDone other.0 → IsDone (if b then one else other).0
either_done true one other first second = first
either_done false one other first second = second

csr_write_done : (hart : HartState) (p : Reach) (word rd csr old : ℕ) (csrs : Option CsrState) → IsDone (after_csr_write hart p word rd csr old csrs).0
csr_write_done hart p word rd csr old None = tt
csr_write_done hart p word rd csr old (Some csrs) = tt

csr_done : (hart : HartState) (p : Reach) (word : ℕ) (op : CsrOp) (rd csr operand : ℕ) (writes : Bool) (old : Option ℕ) → IsDone (after_csr_read hart p word op rd csr operand writes old).0
csr_done hart p word op rd csr operand writes None = tt
csr_done hart p word op rd csr operand writes (Some old) =
    either_done writes _ _ (csr_write_done hart p word rd csr old (csr_write hart.csrs csr (csr_value op old operand))) tt

carried_done : (hart : HartState) (p : Reach) (lines word : ℕ) (e : Effect) → IsAllOpen p.closed → IsDone (carried local_meaning hart p lines word e).0
carried_done hart p lines word (effect.Put rd value) is = tt
carried_done hart p lines word (effect.Jump rd target) is = either_done (target % 4 == 0) _ _ tt tt
carried_done hart p lines word (effect.Goto target) is = either_done (target % 4 == 0) _ _ tt tt
carried_done hart p lines word (effect.Load width extension rd addr) is =
    let place : Option (Target × ℕ) = target_at p addr (width_bytes width) in
    either_done (addr % width_bytes width == 0) _ _ (after_load_done hart width extension rd addr (load_from p width addr place) (load_open p width addr place is)) tt
carried_done hart p lines word (effect.Store width addr value) is =
    let place : Option (Target × ℕ) = target_at p addr (width_bytes width) in
    either_done (addr % width_bytes width == 0) _ _
    (after_store_done hart addr (store_to p hart.csrs.hart width addr value place) (store_open p hart.csrs.hart width addr value place is)) tt
carried_done hart p lines word (effect.Reserve width rd addr) is =
    either_done (addr % width_bytes width == 0) _ _ (number_done hart 5 width rd addr (local_meaning.reserve p hart.csrs.hart width addr)) tt
carried_done hart p lines word (effect.Conditional width rd addr value) is =
    either_done (addr % width_bytes width == 0) _ _ (conditional_done hart rd addr (local_meaning.conditional p hart.csrs.hart width addr value)) tt
carried_done hart p lines word (effect.Amo op width rd addr value) is =
    either_done (addr % width_bytes width == 0) _ _ (number_done hart 7 width rd addr (local_meaning.amo p hart.csrs.hart width addr op value)) tt
carried_done hart p lines word (effect.Csr op rd csr operand writes) is = csr_done hart p word op rd csr operand writes (csr_read hart.csrs csr lines)
carried_done hart p lines word (effect.Trap cause) is = tt
carried_done hart p lines word effect.Return is = tt
carried_done hart p lines word effect.Pass is = tt

row_done : (hart : HartState) (p : Reach) (lines word : ℕ) (instr : Option Instr) → IsAllOpen p.closed → IsDone (row local_meaning hart p lines word instr).0
row_done hart p lines word None is = tt
row_done hart p lines word (Some instr) is = carried_done hart p lines word (effect_of (operation_of instr) hart.registers hart.pc) is

fetched_done : (hart : HartState) (p : Reach) (lines : ℕ) (word : Option ℕ) → IsAllOpen p.closed → IsDone (fetched local_meaning hart p lines word).0
fetched_done hart p lines None is = tt
fetched_done hart p lines (Some word) is = row_done hart p lines word (reading word) is

interrupted_done : (hart : HartState) (p : Reach) (lines : ℕ) (cause : Option ℕ) → IsAllOpen p.closed → IsDone (interrupted local_meaning hart p lines cause).0
interrupted_done hart p lines None is = fetched_done hart p lines (local_meaning.fetch p hart.pc) is
interrupted_done hart p lines (Some cause) is = tt

pub open_done : (hart : HartState) (p : Reach) (lines : ℕ) → IsAllOpen p.closed → IsDone (stepped local_meaning hart p lines).0
open_done hart p lines is = interrupted_done hart p lines (pending_interrupt hart.csrs lines) is

-- so it doesn't stall
pub open_made : (hart : HartState) (p : Reach) (lines : ℕ) → IsAllOpen p.closed → (stepped local_meaning hart p lines).0 ≡ did.Full → ⊥
open_made hart p lines is full = let done = open_done hart p lines is in let r : IsDone did.Full = rw full at done in r
