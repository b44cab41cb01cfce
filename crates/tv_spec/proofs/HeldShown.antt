-- An event is Held exactly where it showed a load of a device: so what it showed tells whether its hart waits.
use Rattle.std.proofs.Common.{◌≡◌, ℕ, ◌%◌, ◌==◌, Bool, true, false, if◌then◌else◌, Option, Some, None, refl}
use Rattle.tv_base.specs.declared.Access.TheVariants as access
use Rattle.tv_base.specs.declared.Width.{Width}
use Rattle.tv_base.specs.Width.{width_bytes}
use Rattle.tv_bus.specs.declared.Target.{Target}
use Rattle.tv_bus.specs.declared.Target.TheVariants as target
use Rattle.tv_hart.specs.declared.Did.TheVariants as did
use Rattle.tv_hart.specs.declared.effect.Effect.{Effect}
use Rattle.tv_hart.specs.declared.effect.Effect.TheVariants as effect
use Rattle.tv_hart.specs.declared.loads.Extension.{Extension}
use Rattle.tv_hart.specs.declared.operation.CsrOp.{CsrOp}
use Rattle.tv_hart.specs.declared.place.Loaded.{Loaded}
use Rattle.tv_hart.specs.declared.place.Loaded.TheVariants as loaded
use Rattle.tv_hart.specs.declared.place.Stored.{Stored}
use Rattle.tv_hart.specs.declared.place.Stored.TheVariants as stored
use Rattle.tv_hart.specs.Effect.{effect_of, csr_value}
use Rattle.tv_hart.specs.Hart.{Outcome, stepped, interrupted, fetched, row, carried, after_load, after_store, after_number, after_conditional, after_csr_read, after_csr_write}
use Rattle.tv_hart.specs.HartState.{HartState}
use Rattle.tv_hart.specs.Operation.{operation_of}
use Rattle.tv_intc.specs.declared.ending.Finish.{Finish}
use Rattle.tv_isa.specs.declared.AmoOp.{AmoOp}
use Rattle.tv_isa.specs.declared.Instr.{Instr}
use Rattle.tv_isa.specs.Table.{reading}
use Rattle.tv_ram.specs.Memory.{loaded as number_in}
use Rattle.tv_spec.specs.declared.Shown.{Shown}
use Rattle.tv_spec.specs.declared.Shown.TheVariants as shown
use Rattle.tv_spec.specs.Local.{local_meaning, load_from, store_to, target_at, finish_by, after_finish, after_amo, after_reserve, after_conditional as conditional_at}
use Rattle.tv_spec.specs.Reach.{Reach, is_closed}
use Rattle.tv_spec.specs.Reservations.{is_reserved, reserved_by}
use Rattle.tv_trap.specs.CsrState.{CsrState}
use Rattle.tv_trap.specs.Registers.{csr_read, csr_write}
use Rattle.tv_trap.specs.Traps.{pending_interrupt}

-- 1. What is said of an event, and of an access

abbrev pub IsLoadShown : Shown → Type 0
IsLoadShown (shown.Access d (access.Load width off)) = Unit {0}
IsLoadShown _ = ⊥

abbrev pub HeldShows : Outcome Reach → Type 0
HeldShows (did.Held, hart, p) = IsLoadShown p.shown
HeldShows (_, hart, p) = IsLoadShown p.shown → ⊥

abbrev pub LoadShows : Loaded × Reach → Type 0
LoadShows (loaded.Held, p) = IsLoadShown p.shown
LoadShows (_, p) = IsLoadShown p.shown → ⊥

-- 2. Accesses

load_shows : (p : Reach) (width : Width) (addr : ℕ) (place : Option (Target × ℕ)) → (IsLoadShown p.shown → ⊥) → LoadShows (load_from p width addr place)
load_shows p width addr None quiet = quiet
load_shows p width addr (Some (target.Ram, off)) quiet = quiet
load_shows p width addr (Some (target.Finisher, off)) quiet = quiet
load_shows p width addr (Some (target.Timer, off)) quiet = quiet
load_shows p width addr (Some (target.Intc, off)) quiet = quiet
load_shows p width addr (Some (target.Debug, off)) quiet = quiet
load_shows p width addr (Some (target.Device slot, off)) quiet = by_closed (is_closed p.closed.loads slot) refl
  where
    by_closed : (b : Bool) → is_closed p.closed.loads slot ≡ b → LoadShows (load_from p width addr (Some (target.Device slot, off)))
    by_closed true e = rw e quiet
    by_closed false e = rw e tt

finish_shows : (p : Reach) (finish : Option Finish) → (IsLoadShown p.shown → ⊥) → IsLoadShown (after_finish p finish).shown → ⊥
finish_shows p None quiet = quiet
finish_shows p (Some finish) quiet = λ l. l

store_shows : (p : Reach) (hart : ℕ) (width : Width) (addr value : ℕ) (place : Option (Target × ℕ)) → (IsLoadShown p.shown → ⊥)
    → IsLoadShown (store_to p hart width addr value place).1.shown → ⊥
store_shows p hart width addr value None quiet = quiet
store_shows p hart width addr value (Some (target.Ram, off)) quiet = quiet
store_shows p hart width addr value (Some (target.Finisher, off)) quiet = finish_shows p (finish_by width value) quiet
store_shows p hart width addr value (Some (target.Timer, off)) quiet = quiet
store_shows p hart width addr value (Some (target.Intc, off)) quiet = quiet
store_shows p hart width addr value (Some (target.Debug, off)) quiet = by_closed p.closed.debug refl
  where
    by_closed : (b : Bool) → p.closed.debug ≡ b → IsLoadShown (store_to p hart width addr value (Some (target.Debug, off))).1.shown → ⊥
    by_closed true e = rw e quiet
    by_closed false e = rw e (λ l. l)
store_shows p hart width addr value (Some (target.Device slot, off)) quiet = by_closed (is_closed p.closed.stores slot) refl
  where
    by_closed : (b : Bool) → is_closed p.closed.stores slot ≡ b → IsLoadShown (store_to p hart width addr value (Some (target.Device slot, off))).1.shown → ⊥
    by_closed true e = rw e quiet
    by_closed false e = rw e (λ l. l)

amo_shows : (p : Reach) (hart : ℕ) (width : Width) (addr : ℕ) (op : AmoOp) (value : ℕ) (old : Option ℕ)
    → (after_amo p hart width addr op value old).1.shown ≡ p.shown
amo_shows p hart width addr op value None = refl
amo_shows p hart width addr op value (Some old) = refl

reserve_shows : (p : Reach) (hart addr : ℕ) (value : Option ℕ) → (after_reserve p hart addr value).1.shown ≡ p.shown
reserve_shows p hart addr None = refl
reserve_shows p hart addr (Some value) = refl

conditional_shows : (p : Reach) (hart : ℕ) (width : Width) (addr value : ℕ) (old : Option ℕ)
    → (conditional_at p hart width addr value old).1.shown ≡ p.shown
conditional_shows p hart width addr value None = refl
conditional_shows p hart width addr value (Some old) = by_reserved (is_reserved (reserved_by p.local.reservations hart) addr) refl
  where
    by_reserved : (b : Bool) → is_reserved (reserved_by p.local.reservations hart) addr ≡ b → (conditional_at p hart width addr value (Some old)).1.shown ≡ p.shown
    by_reserved true e = rw e refl
    by_reserved false e = rw e refl

-- 3. What an instruction makes of the answer to its access

after_load_shows : (hart : HartState) (width : Width) (extension : Extension) (rd addr : ℕ) (r : Loaded × Reach) → LoadShows r → HeldShows (after_load hart width extension rd addr r)
after_load_shows hart width extension rd addr (loaded.Value n, p) l = l
after_load_shows hart width extension rd addr (loaded.Held, p) l = l
after_load_shows hart width extension rd addr (loaded.Full, p) l = l
after_load_shows hart width extension rd addr (loaded.Nothing, p) l = l

after_store_shows : (hart : HartState) (addr : ℕ) (r : Stored × Reach) → (IsLoadShown r.1.shown → ⊥) → HeldShows (after_store hart addr r)
after_store_shows hart addr (stored.Done, p) l = l
after_store_shows hart addr (stored.Full, p) l = l
after_store_shows hart addr (stored.Nothing, p) l = l

number_shows : (hart : HartState) (cause : ℕ) (width : Width) (rd addr : ℕ) (p : Reach) (r : Option ℕ × Reach) → (IsLoadShown p.shown → ⊥) → r.1.shown ≡ p.shown
    → HeldShows (after_number hart cause width rd addr r)
number_shows hart cause width rd addr p (None, q) quiet same = rw same quiet
number_shows hart cause width rd addr p (Some value, q) quiet same = rw same quiet

stored_shows : (hart : HartState) (rd addr : ℕ) (p : Reach) (r : Option Bool × Reach) → (IsLoadShown p.shown → ⊥) → r.1.shown ≡ p.shown → HeldShows (after_conditional hart rd addr r)
stored_shows hart rd addr p (None, q) quiet same = rw same quiet
stored_shows hart rd addr p (Some done, q) quiet same = rw same quiet

-- 4. Effects, and events

either_shows : (b : Bool) (one other : Outcome Reach) → HeldShows one → HeldShows other → HeldShows (if b then one else other)
either_shows true one other first second = first
either_shows false one other first second = second

csr_write_shows : (hart : HartState) (p : Reach) (word rd csr old : ℕ) (csrs : Option CsrState) → (IsLoadShown p.shown → ⊥) → HeldShows (after_csr_write hart p word rd csr old csrs)
csr_write_shows hart p word rd csr old None quiet = quiet
csr_write_shows hart p word rd csr old (Some csrs) quiet = quiet

csr_shows : (hart : HartState) (p : Reach) (word : ℕ) (op : CsrOp) (rd csr operand : ℕ) (writes : Bool) (old : Option ℕ) → (IsLoadShown p.shown → ⊥)
    → HeldShows (after_csr_read hart p word op rd csr operand writes old)
csr_shows hart p word op rd csr operand writes None quiet = quiet
csr_shows hart p word op rd csr operand writes (Some old) quiet =
    either_shows writes _ _ (csr_write_shows hart p word rd csr old (csr_write hart.csrs csr (csr_value op old operand)) quiet) quiet

carried_shows : (hart : HartState) (p : Reach) (lines word : ℕ) (e : Effect) → (IsLoadShown p.shown → ⊥) → HeldShows (carried local_meaning hart p lines word e)
carried_shows hart p lines word (effect.Put rd value) quiet = quiet
carried_shows hart p lines word (effect.Jump rd target) quiet = either_shows (target % 4 == 0) _ _ quiet quiet
carried_shows hart p lines word (effect.Goto target) quiet = either_shows (target % 4 == 0) _ _ quiet quiet
carried_shows hart p lines word (effect.Load width extension rd addr) quiet =
    let place : Option (Target × ℕ) = target_at p addr (width_bytes width) in
    either_shows (addr % width_bytes width == 0) _ _
    (after_load_shows hart width extension rd addr (load_from p width addr place) (load_shows p width addr place quiet)) quiet
carried_shows hart p lines word (effect.Store width addr value) quiet =
    let place : Option (Target × ℕ) = target_at p addr (width_bytes width) in
    either_shows (addr % width_bytes width == 0) _ _
    (after_store_shows hart addr (store_to p hart.csrs.hart width addr value place) (store_shows p hart.csrs.hart width addr value place quiet)) quiet
carried_shows hart p lines word (effect.Reserve width rd addr) quiet =
    let found : Option ℕ = number_in p.local.ram addr (width_bytes width) in
    either_shows (addr % width_bytes width == 0) _ _
    (number_shows hart 5 width rd addr p (after_reserve p hart.csrs.hart addr found) quiet (reserve_shows p hart.csrs.hart addr found)) quiet
carried_shows hart p lines word (effect.Conditional width rd addr value) quiet =
    let found : Option ℕ = number_in p.local.ram addr (width_bytes width) in
    either_shows (addr % width_bytes width == 0) _ _
    (stored_shows hart rd addr p (conditional_at p hart.csrs.hart width addr value found) quiet (conditional_shows p hart.csrs.hart width addr value found)) quiet
carried_shows hart p lines word (effect.Amo op width rd addr value) quiet =
    let found : Option ℕ = number_in p.local.ram addr (width_bytes width) in
    either_shows (addr % width_bytes width == 0) _ _
    (number_shows hart 7 width rd addr p (after_amo p hart.csrs.hart width addr op value found) quiet (amo_shows p hart.csrs.hart width addr op value found)) quiet
carried_shows hart p lines word (effect.Csr op rd csr operand writes) quiet =
    csr_shows hart p word op rd csr operand writes (csr_read hart.csrs csr lines) quiet
carried_shows hart p lines word (effect.Trap cause) quiet = quiet
carried_shows hart p lines word effect.Return quiet = quiet
carried_shows hart p lines word effect.Pass quiet = quiet

row_shows : (hart : HartState) (p : Reach) (lines word : ℕ) (instr : Option Instr) → (IsLoadShown p.shown → ⊥) → HeldShows (row local_meaning hart p lines word instr)
row_shows hart p lines word None quiet = quiet
row_shows hart p lines word (Some instr) quiet =
    carried_shows hart p lines word (effect_of (operation_of instr) hart.registers hart.pc) quiet

fetched_shows : (hart : HartState) (p : Reach) (lines : ℕ) (word : Option ℕ) → (IsLoadShown p.shown → ⊥) → HeldShows (fetched local_meaning hart p lines word)
fetched_shows hart p lines None quiet = quiet
fetched_shows hart p lines (Some word) quiet = row_shows hart p lines word (reading word) quiet

interrupted_shows : (hart : HartState) (p : Reach) (lines : ℕ) (cause : Option ℕ) → (IsLoadShown p.shown → ⊥) → HeldShows (interrupted local_meaning hart p lines cause)
interrupted_shows hart p lines None quiet = fetched_shows hart p lines (local_meaning.fetch p hart.pc) quiet
interrupted_shows hart p lines (Some cause) quiet = quiet

-- an event is Held exactly where it showed a load of a device
pub stepped_shows : (hart : HartState) (p : Reach) (lines : ℕ) → (IsLoadShown p.shown → ⊥) → HeldShows (stepped local_meaning hart p lines)
stepped_shows hart p lines quiet = interrupted_shows hart p lines (pending_interrupt hart.csrs lines) quiet
