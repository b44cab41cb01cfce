-- What is closed to a hart decides only whether its event is made: an event that is not Full is the same where all is open.
use Rattle.std.proofs.Common.{◌≡◌, ◌≢◌, ℕ, ◌%◌, ◌==◌, if◌then◌else◌, Bool, true, false, Option, Some, None, refl, ap, ◌∙◌}
use Rattle.tv_base.specs.declared.Width.{Width}
use Rattle.tv_base.specs.Width.{width_bytes}
use Rattle.tv_bus.specs.declared.Target.{Target}
use Rattle.tv_bus.specs.declared.Target.TheVariants as target
use Rattle.tv_hart.specs.declared.Did.{Did}
use Rattle.tv_hart.specs.declared.Did.TheVariants as did
use Rattle.tv_hart.specs.declared.effect.Effect.{Effect}
use Rattle.tv_hart.specs.declared.effect.Effect.TheVariants as effect
use Rattle.tv_hart.specs.declared.loads.Extension.{Extension}
use Rattle.tv_hart.specs.declared.operation.CsrOp.{CsrOp}
use Rattle.tv_hart.specs.declared.place.Loaded.{Loaded}
use Rattle.tv_hart.specs.declared.place.Loaded.TheVariants as loaded
use Rattle.tv_hart.specs.declared.place.Stored.{Stored}
use Rattle.tv_hart.specs.declared.place.Stored.TheVariants as stored
use Rattle.tv_hart.specs.Effect.{effect_of, csr_value}
use Rattle.tv_hart.specs.Hart.{Outcome, stepped, interrupted, fetched, row, carried, after_load, after_store, after_number, after_conditional, after_csr_read, after_csr_write}
use Rattle.tv_hart.specs.HartState.{HartState}
use Rattle.tv_hart.specs.Operation.{operation_of}
use Rattle.tv_isa.specs.declared.AmoOp.{AmoOp}
use Rattle.tv_isa.specs.declared.Instr.{Instr}
use Rattle.tv_isa.specs.Table.{reading}
use Rattle.tv_ram.specs.Memory.{loaded as number_in}
use Rattle.tv_spec.specs.Local.{local_meaning, load_from, store_to, target_at, finish_by, after_amo, after_reserve, after_conditional as conditional_at}
use Rattle.tv_spec.specs.Reach.{Reach, all_open, is_closed}
use Rattle.tv_spec.specs.Reservations.{is_reserved, reserved_by}
use Rattle.tv_trap.specs.CsrState.{CsrState}
use Rattle.tv_trap.specs.Registers.{csr_read, csr_write}
use Rattle.tv_trap.specs.Traps.{pending_interrupt}

-- 1. The place with all open, and what an access or an event leaves there

abbrev pub opened : Reach → Reach
opened p = record p { closed = all_open }

abbrev pub opened_pair : {A : Type 0} → A × Reach → A × Reach
opened_pair (answer, p) = (answer, opened p)

abbrev pub opened_outcome : Outcome Reach → Outcome Reach
opened_outcome (what, hart, p) = (what, hart, opened p)

-- 2. Accesses

load_opened : (p : Reach) (width : Width) (addr : ℕ) (place : Option (Target × ℕ)) → (load_from p width addr place).0 ≢ loaded.Full
    → load_from (opened p) width addr place ≡ opened_pair (load_from p width addr place)
load_opened p width addr None carried = refl
load_opened p width addr (Some (target.Ram, off)) carried = refl
load_opened p width addr (Some (target.Finisher, off)) carried = refl
load_opened p width addr (Some (target.Timer, off)) carried = refl
load_opened p width addr (Some (target.Intc, off)) carried = refl
load_opened p width addr (Some (target.Debug, off)) carried = refl
load_opened p width addr (Some (target.Device slot, off)) carried = by_closed (is_closed p.closed.loads slot) refl
  where
    by_closed : (b : Bool) → is_closed p.closed.loads slot ≡ b
        → load_from (opened p) width addr (Some (target.Device slot, off)) ≡ opened_pair (load_from p width addr (Some (target.Device slot, off)))
    by_closed true e = absurd (carried (rw e refl))
    by_closed false e = rw e refl

store_opened : (p : Reach) (hart : ℕ) (width : Width) (addr value : ℕ) (place : Option (Target × ℕ)) → (store_to p hart width addr value place).0 ≢ stored.Full
    → store_to (opened p) hart width addr value place ≡ opened_pair (store_to p hart width addr value place)
store_opened p hart width addr value None carried = refl
store_opened p hart width addr value (Some (target.Ram, off)) carried = refl
store_opened p hart width addr value (Some (target.Finisher, off)) carried = by_finish (finish_by width value) refl
  where
    by_finish : (f : Option _) → finish_by width value ≡ f
        → store_to (opened p) hart width addr value (Some (target.Finisher, off)) ≡ opened_pair (store_to p hart width addr value (Some (target.Finisher, off)))
    by_finish None e = rw e refl
    by_finish (Some finish) e = rw e refl
store_opened p hart width addr value (Some (target.Timer, off)) carried = refl
store_opened p hart width addr value (Some (target.Intc, off)) carried = refl
store_opened p hart width addr value (Some (target.Debug, off)) carried = by_closed p.closed.debug refl
  where
    by_closed : (b : Bool) → p.closed.debug ≡ b
        → store_to (opened p) hart width addr value (Some (target.Debug, off)) ≡ opened_pair (store_to p hart width addr value (Some (target.Debug, off)))
    by_closed true e = absurd (carried (rw e refl))
    by_closed false e = rw e refl
store_opened p hart width addr value (Some (target.Device slot, off)) carried = by_closed (is_closed p.closed.stores slot) refl
  where
    by_closed : (b : Bool) → is_closed p.closed.stores slot ≡ b
        → store_to (opened p) hart width addr value (Some (target.Device slot, off)) ≡ opened_pair (store_to p hart width addr value (Some (target.Device slot, off)))
    by_closed true e = absurd (carried (rw e refl))
    by_closed false e = rw e refl

amo_opened : (p : Reach) (hart : ℕ) (width : Width) (addr : ℕ) (op : AmoOp) (value : ℕ) (old : Option ℕ)
    → after_amo (opened p) hart width addr op value old ≡ opened_pair (after_amo p hart width addr op value old)
amo_opened p hart width addr op value None = refl
amo_opened p hart width addr op value (Some old) = refl

reserve_opened : (p : Reach) (hart addr : ℕ) (value : Option ℕ) → after_reserve (opened p) hart addr value ≡ opened_pair (after_reserve p hart addr value)
reserve_opened p hart addr None = refl
reserve_opened p hart addr (Some value) = refl

conditional_opened : (p : Reach) (hart : ℕ) (width : Width) (addr value : ℕ) (old : Option ℕ)
    → conditional_at (opened p) hart width addr value old ≡ opened_pair (conditional_at p hart width addr value old)
conditional_opened p hart width addr value None = refl
conditional_opened p hart width addr value (Some old) = by_reserved (is_reserved (reserved_by p.local.reservations hart) addr) refl
  where
    by_reserved : (b : Bool) → is_reserved (reserved_by p.local.reservations hart) addr ≡ b
        → conditional_at (opened p) hart width addr value (Some old) ≡ opened_pair (conditional_at p hart width addr value (Some old))
    by_reserved true e = rw e refl
    by_reserved false e = rw e refl

-- 3. What an instruction makes of the answer to its access

full_load : (hart : HartState) (width : Width) (extension : Extension) (rd addr : ℕ) (r : Loaded × Reach)
    → (after_load hart width extension rd addr r).0 ≢ did.Full → r.0 ≢ loaded.Full
full_load hart width extension rd addr (loaded.Value n, p) carried = λ e. cc
full_load hart width extension rd addr (loaded.Held, p) carried = λ e. cc
full_load hart width extension rd addr (loaded.Full, p) carried = λ e. carried refl
full_load hart width extension rd addr (loaded.Nothing, p) carried = λ e. cc

full_store : (hart : HartState) (addr : ℕ) (r : Stored × Reach) → (after_store hart addr r).0 ≢ did.Full → r.0 ≢ stored.Full
full_store hart addr (stored.Done, p) carried = λ e. cc
full_store hart addr (stored.Full, p) carried = λ e. carried refl
full_store hart addr (stored.Nothing, p) carried = λ e. cc

after_load_opened : (hart : HartState) (width : Width) (extension : Extension) (rd addr : ℕ) (r : Loaded × Reach)
    → after_load hart width extension rd addr (opened_pair r) ≡ opened_outcome (after_load hart width extension rd addr r)
after_load_opened hart width extension rd addr (loaded.Value n, p) = refl
after_load_opened hart width extension rd addr (loaded.Held, p) = refl
after_load_opened hart width extension rd addr (loaded.Full, p) = refl
after_load_opened hart width extension rd addr (loaded.Nothing, p) = refl

after_store_opened : (hart : HartState) (addr : ℕ) (r : Stored × Reach) → after_store hart addr (opened_pair r) ≡ opened_outcome (after_store hart addr r)
after_store_opened hart addr (stored.Done, p) = refl
after_store_opened hart addr (stored.Full, p) = refl
after_store_opened hart addr (stored.Nothing, p) = refl

number_opened : (hart : HartState) (cause : ℕ) (width : Width) (rd addr : ℕ) (r : Option ℕ × Reach)
    → after_number hart cause width rd addr (opened_pair r) ≡ opened_outcome (after_number hart cause width rd addr r)
number_opened hart cause width rd addr (None, p) = refl
number_opened hart cause width rd addr (Some value, p) = refl

stored_opened : (hart : HartState) (rd addr : ℕ) (r : Option Bool × Reach)
    → after_conditional hart rd addr (opened_pair r) ≡ opened_outcome (after_conditional hart rd addr r)
stored_opened hart rd addr (None, p) = refl
stored_opened hart rd addr (Some done, p) = refl

-- 4. Effects, and events

-- one of two outcomes
either_opened : (b : Bool) (one other near far : Outcome Reach)
    → (one.0 ≢ did.Full → near ≡ opened_outcome one) → far ≡ opened_outcome other
    → ◌≢◌ {A = Did} (if b then one else other).0 did.Full
    → ◌≡◌ {A = Outcome Reach} (if b then near else far) (opened_outcome (if b then one else other))
either_opened true one other near far first second carried = first carried
either_opened false one other near far first second carried = second

csr_write_opened : (hart : HartState) (p : Reach) (word rd csr old : ℕ) (csrs : Option CsrState)
    → after_csr_write hart (opened p) word rd csr old csrs ≡ opened_outcome (after_csr_write hart p word rd csr old csrs)
csr_write_opened hart p word rd csr old None = refl
csr_write_opened hart p word rd csr old (Some csrs) = refl

csr_opened : (hart : HartState) (p : Reach) (word : ℕ) (op : CsrOp) (rd csr operand : ℕ) (writes : Bool) (old : Option ℕ)
    → (after_csr_read hart p word op rd csr operand writes old).0 ≢ did.Full
    → after_csr_read hart (opened p) word op rd csr operand writes old ≡ opened_outcome (after_csr_read hart p word op rd csr operand writes old)
csr_opened hart p word op rd csr operand writes None carried = refl
csr_opened hart p word op rd csr operand writes (Some old) carried =
    either_opened writes _ _ _ _ (λ _. csr_write_opened hart p word rd csr old (csr_write hart.csrs csr (csr_value op old operand))) refl carried

carried_opened : (hart : HartState) (p : Reach) (lines word : ℕ) (e : Effect) → (carried local_meaning hart p lines word e).0 ≢ did.Full
    → carried local_meaning hart (opened p) lines word e ≡ opened_outcome (carried local_meaning hart p lines word e)
carried_opened hart p lines word (effect.Put rd value) made = refl
carried_opened hart p lines word (effect.Jump rd target) made = either_opened (target % 4 == 0) _ _ _ _ (λ _. refl) refl made
carried_opened hart p lines word (effect.Goto target) made = either_opened (target % 4 == 0) _ _ _ _ (λ _. refl) refl made
carried_opened hart p lines word (effect.Load width extension rd addr) made =
    let place : Option (Target × ℕ) = target_at p addr (width_bytes width) in
    let r : Loaded × Reach = load_from p width addr place in
    either_opened (addr % width_bytes width == 0) _ _ _ _
    (λ some. ap (after_load hart width extension rd addr) (load_opened p width addr place (full_load hart width extension rd addr r some)) ∙ after_load_opened hart width extension rd addr r)
    refl made
carried_opened hart p lines word (effect.Store width addr value) made =
    let place : Option (Target × ℕ) = target_at p addr (width_bytes width) in
    let r : Stored × Reach = store_to p hart.csrs.hart width addr value place in
    either_opened (addr % width_bytes width == 0) _ _ _ _
    (λ some. ap (after_store hart addr) (store_opened p hart.csrs.hart width addr value place (full_store hart addr r some)) ∙ after_store_opened hart addr r)
    refl made
carried_opened hart p lines word (effect.Reserve width rd addr) made =
    let found : Option ℕ = number_in p.local.ram addr (width_bytes width) in
    either_opened (addr % width_bytes width == 0) _ _ _ _
    (λ _. ap (after_number hart 5 width rd addr) (reserve_opened p hart.csrs.hart addr found) ∙ number_opened hart 5 width rd addr (after_reserve p hart.csrs.hart addr found))
    refl made
carried_opened hart p lines word (effect.Conditional width rd addr value) made =
    let found : Option ℕ = number_in p.local.ram addr (width_bytes width) in
    either_opened (addr % width_bytes width == 0) _ _ _ _
    (λ _. ap (after_conditional hart rd addr) (conditional_opened p hart.csrs.hart width addr value found) ∙ stored_opened hart rd addr (conditional_at p hart.csrs.hart width addr value found))
    refl made
carried_opened hart p lines word (effect.Amo op width rd addr value) made =
    let found : Option ℕ = number_in p.local.ram addr (width_bytes width) in
    either_opened (addr % width_bytes width == 0) _ _ _ _
    (λ _. ap (after_number hart 7 width rd addr) (amo_opened p hart.csrs.hart width addr op value found) ∙ number_opened hart 7 width rd addr (after_amo p hart.csrs.hart width addr op value found))
    refl made
carried_opened hart p lines word (effect.Csr op rd csr operand writes) made =
    csr_opened hart p word op rd csr operand writes (csr_read hart.csrs csr lines) made
carried_opened hart p lines word (effect.Trap cause) made = refl
carried_opened hart p lines word effect.Return made = refl
carried_opened hart p lines word effect.Pass made = refl

row_opened : (hart : HartState) (p : Reach) (lines word : ℕ) (instr : Option Instr) → (row local_meaning hart p lines word instr).0 ≢ did.Full
    → row local_meaning hart (opened p) lines word instr ≡ opened_outcome (row local_meaning hart p lines word instr)
row_opened hart p lines word None made = refl
row_opened hart p lines word (Some instr) made =
    carried_opened hart p lines word (effect_of (operation_of instr) hart.registers hart.pc) made

fetched_opened : (hart : HartState) (p : Reach) (lines : ℕ) (word : Option ℕ) → (fetched local_meaning hart p lines word).0 ≢ did.Full
    → fetched local_meaning hart (opened p) lines word ≡ opened_outcome (fetched local_meaning hart p lines word)
fetched_opened hart p lines None made = refl
fetched_opened hart p lines (Some word) made = row_opened hart p lines word (reading word) made

interrupted_opened : (hart : HartState) (p : Reach) (lines : ℕ) (cause : Option ℕ) → (interrupted local_meaning hart p lines cause).0 ≢ did.Full
    → interrupted local_meaning hart (opened p) lines cause ≡ opened_outcome (interrupted local_meaning hart p lines cause)
interrupted_opened hart p lines None made = fetched_opened hart p lines (local_meaning.fetch p hart.pc) made
interrupted_opened hart p lines (Some cause) made = refl

-- an event that is not Full is the same where all is open
pub stepped_opened : (hart : HartState) (p : Reach) (lines : ℕ) → (stepped local_meaning hart p lines).0 ≢ did.Full
    → stepped local_meaning hart (opened p) lines ≡ opened_outcome (stepped local_meaning hart p lines)
stepped_opened hart p lines made = interrupted_opened hart p lines (pending_interrupt hart.csrs lines) made
