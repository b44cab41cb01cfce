-- After an event a hart waits exactly where the event is Held.
use Rattle.std.proofs.Common.{◌≡◌, ℕ, ◌%◌, ◌==◌, Bool, true, false, if◌then◌else◌, Option, Some, None, refl}
use Rattle.tv_base.specs.declared.Width.{Width}
use Rattle.tv_base.specs.Width.{width_bytes}
use Rattle.tv_hart.specs.declared.effect.Effect.{Effect}
use Rattle.tv_hart.specs.declared.effect.Effect.TheVariants as effect
use Rattle.tv_hart.specs.declared.loads.Extension.{Extension}
use Rattle.tv_hart.specs.declared.loads.Waiting.{Waiting}
use Rattle.tv_hart.specs.declared.operation.CsrOp.{CsrOp}
use Rattle.tv_hart.specs.declared.place.Loaded.{Loaded}
use Rattle.tv_hart.specs.declared.place.Loaded.TheVariants as loaded
use Rattle.tv_hart.specs.declared.place.Stored.{Stored}
use Rattle.tv_hart.specs.declared.place.Stored.TheVariants as stored
use Rattle.tv_hart.specs.Effect.{effect_of, csr_value}
use Rattle.tv_hart.specs.Hart.{Outcome, WaitsAfter, stepped, interrupted, fetched, row, carried, finished, finished_by, after_load, after_store, after_number, after_conditional, after_csr_read, after_csr_write}
use Rattle.tv_hart.specs.HartState.{HartState}
use Rattle.tv_hart.specs.Operation.{operation_of}
use Rattle.tv_hart.specs.Place.{Meaning}
use Rattle.tv_isa.specs.declared.Instr.{Instr}
use Rattle.tv_isa.specs.Table.{reading}
use Rattle.tv_trap.specs.CsrState.{CsrState}
use Rattle.tv_trap.specs.Registers.{csr_read, csr_write}
use Rattle.tv_trap.specs.Traps.{pending_interrupt}

abbrev pub WaitsSo : {P : Type 0} → Outcome P → Type 0
WaitsSo (result, hart, p) = WaitsAfter result hart.waits

load_waits : {P : Type 0} → (hart : HartState) (width : Width) (extension : Extension) (rd addr : ℕ) (answer : Loaded × P) → hart.waits ≡ None
    → WaitsSo (after_load hart width extension rd addr answer)
load_waits hart width extension rd addr (loaded.Value n, p) none = none
load_waits hart width extension rd addr (loaded.Held, p) none = refl
load_waits hart width extension rd addr (loaded.Full, p) none = none
load_waits hart width extension rd addr (loaded.Nothing, p) none = none

store_waits : {P : Type 0} → (hart : HartState) (addr : ℕ) (answer : Stored × P) → hart.waits ≡ None → WaitsSo (after_store hart addr answer)
store_waits hart addr (stored.Done, p) none = none
store_waits hart addr (stored.Full, p) none = none
store_waits hart addr (stored.Nothing, p) none = none

number_waits : {P : Type 0} → (hart : HartState) (cause : ℕ) (width : Width) (rd addr : ℕ) (answer : Option ℕ × P) → hart.waits ≡ None
    → WaitsSo (after_number hart cause width rd addr answer)
number_waits hart cause width rd addr (None, p) none = none
number_waits hart cause width rd addr (Some value, p) none = none

conditional_waits : {P : Type 0} → (hart : HartState) (rd addr : ℕ) (answer : Option Bool × P) → hart.waits ≡ None
    → WaitsSo (after_conditional hart rd addr answer)
conditional_waits hart rd addr (None, p) none = none
conditional_waits hart rd addr (Some done, p) none = none

either_waits : {P : Type 0} → (b : Bool) (one other : Outcome P) → WaitsSo one → WaitsSo other → WaitsSo (if b then one else other)
either_waits true one other first second = first
either_waits false one other first second = second

csr_write_waits : {P : Type 0} → (hart : HartState) (p : P) (word rd csr old : ℕ) (csrs : Option CsrState) → hart.waits ≡ None
    → WaitsSo (after_csr_write hart p word rd csr old csrs)
csr_write_waits hart p word rd csr old None none = none
csr_write_waits hart p word rd csr old (Some csrs) none = none

csr_waits : {P : Type 0} → (hart : HartState) (p : P) (word : ℕ) (op : CsrOp) (rd csr operand : ℕ) (writes : Bool) (old : Option ℕ) → hart.waits ≡ None
    → WaitsSo (after_csr_read hart p word op rd csr operand writes old)
csr_waits hart p word op rd csr operand writes None none = none
csr_waits hart p word op rd csr operand writes (Some old) none =
    either_waits writes _ _ (csr_write_waits hart p word rd csr old (csr_write hart.csrs csr (csr_value op old operand)) none) none

carried_waits : {P : Type 0} → (m : Meaning P) (hart : HartState) (p : P) (lines word : ℕ) (e : Effect) → hart.waits ≡ None
    → WaitsSo (carried m hart p lines word e)
carried_waits m hart p lines word (effect.Put rd value) none = none
carried_waits m hart p lines word (effect.Jump rd target) none = either_waits (target % 4 == 0) _ _ none none
carried_waits m hart p lines word (effect.Goto target) none = either_waits (target % 4 == 0) _ _ none none
carried_waits m hart p lines word (effect.Load width extension rd addr) none =
    either_waits (addr % width_bytes width == 0) _ _ (load_waits hart width extension rd addr (m.load p hart.csrs.hart width addr) none) none
carried_waits m hart p lines word (effect.Store width addr value) none =
    either_waits (addr % width_bytes width == 0) _ _ (store_waits hart addr (m.store p hart.csrs.hart width addr value) none) none
carried_waits m hart p lines word (effect.Reserve width rd addr) none =
    either_waits (addr % width_bytes width == 0) _ _ (number_waits hart 5 width rd addr (m.reserve p hart.csrs.hart width addr) none) none
carried_waits m hart p lines word (effect.Conditional width rd addr value) none =
    either_waits (addr % width_bytes width == 0) _ _ (conditional_waits hart rd addr (m.conditional p hart.csrs.hart width addr value) none) none
carried_waits m hart p lines word (effect.Amo op width rd addr value) none =
    either_waits (addr % width_bytes width == 0) _ _ (number_waits hart 7 width rd addr (m.amo p hart.csrs.hart width addr op value) none) none
carried_waits m hart p lines word (effect.Csr op rd csr operand writes) none =
    csr_waits hart p word op rd csr operand writes (csr_read hart.csrs csr lines) none
carried_waits m hart p lines word (effect.Trap cause) none = none
carried_waits m hart p lines word effect.Return none = none
carried_waits m hart p lines word effect.Pass none = none

row_waits : {P : Type 0} → (m : Meaning P) (hart : HartState) (p : P) (lines word : ℕ) (instr : Option Instr) → hart.waits ≡ None
    → WaitsSo (row m hart p lines word instr)
row_waits m hart p lines word None none = none
row_waits m hart p lines word (Some instr) none = carried_waits m hart p lines word (effect_of (operation_of instr) hart.registers hart.pc) none

fetched_waits : {P : Type 0} → (m : Meaning P) (hart : HartState) (p : P) (lines : ℕ) (word : Option ℕ) → hart.waits ≡ None
    → WaitsSo (fetched m hart p lines word)
fetched_waits m hart p lines None none = none
fetched_waits m hart p lines (Some word) none = row_waits m hart p lines word (reading word) none

interrupted_waits : {P : Type 0} → (m : Meaning P) (hart : HartState) (p : P) (lines : ℕ) (cause : Option ℕ) → hart.waits ≡ None
    → WaitsSo (interrupted m hart p lines cause)
interrupted_waits m hart p lines None none = fetched_waits m hart p lines (m.fetch p hart.pc) none
interrupted_waits m hart p lines (Some cause) none = none

-- a hart that waited for nothing makes an event
pub stepped_waits : {P : Type 0} → (m : Meaning P) (hart : HartState) (p : P) (lines : ℕ) → hart.waits ≡ None → WaitsSo (stepped m hart p lines)
stepped_waits m hart p lines none = interrupted_waits m hart p lines (pending_interrupt hart.csrs lines) none

-- a hart that has the value of its load waits for nothing
pub finished_waits : (hart : HartState) (value : ℕ) → (finished hart value).waits ≡ None
finished_waits hart value = by_load hart.waits refl
  where
    by_load : (load : Option Waiting) → hart.waits ≡ load → (finished_by hart load value).waits ≡ None
    by_load None e = e
    by_load (Some load) e = refl
