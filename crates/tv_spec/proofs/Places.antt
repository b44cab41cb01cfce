-- What each access of a hart keeps of its place, each event keeps.
use Rattle.std.proofs.Common.{ℕ, ◌%◌, ◌==◌, Bool, true, false, if◌then◌else◌, Option, Some, None}
use Rattle.tv_base.specs.declared.Width.{Width}
use Rattle.tv_base.specs.Width.{width_bytes}
use Rattle.tv_hart.specs.declared.effect.Effect.{Effect}
use Rattle.tv_hart.specs.declared.effect.Effect.TheVariants as effect
use Rattle.tv_hart.specs.declared.loads.Extension.{Extension}
use Rattle.tv_hart.specs.declared.operation.CsrOp.{CsrOp}
use Rattle.tv_hart.specs.declared.place.Loaded.{Loaded}
use Rattle.tv_hart.specs.declared.place.Loaded.TheVariants as loaded
use Rattle.tv_hart.specs.declared.place.Stored.{Stored}
use Rattle.tv_hart.specs.declared.place.Stored.TheVariants as stored
use Rattle.tv_hart.specs.Effect.{effect_of, csr_value}
use Rattle.tv_hart.specs.Hart.{Outcome, stepped, interrupted, fetched, row, carried, after_load, after_store, after_number, after_conditional, after_csr_read, after_csr_write}
use Rattle.tv_hart.specs.HartState.{HartState}
use Rattle.tv_hart.specs.Operation.{operation_of}
use Rattle.tv_hart.specs.Place.{Meaning}
use Rattle.tv_isa.specs.declared.AmoOp.{AmoOp}
use Rattle.tv_isa.specs.declared.Instr.{Instr}
use Rattle.tv_isa.specs.Table.{reading}
use Rattle.tv_trap.specs.CsrState.{CsrState}
use Rattle.tv_trap.specs.Registers.{csr_read, csr_write}
use Rattle.tv_trap.specs.Traps.{pending_interrupt}

-- each access keeps it
pub record Keeps {P : Type 0} (m : Meaning P) (Kept : P → Type 0) : Type 0 where
  pub loads : (p : P) (hart : ℕ) (width : Width) (addr : ℕ) → Kept p → Kept (m.load p hart width addr).1
  pub stores : (p : P) (hart : ℕ) (width : Width) (addr value : ℕ) → Kept p → Kept (m.store p hart width addr value).1
  pub amos : (p : P) (hart : ℕ) (width : Width) (addr : ℕ) (op : AmoOp) (value : ℕ) → Kept p → Kept (m.amo p hart width addr op value).1
  pub reserves : (p : P) (hart : ℕ) (width : Width) (addr : ℕ) → Kept p → Kept (m.reserve p hart width addr).1
  pub conditionals : (p : P) (hart : ℕ) (width : Width) (addr value : ℕ) → Kept p → Kept (m.conditional p hart width addr value).1

kept_load : {P : Type 0} → (Kept : P → Type 0) (hart : HartState) (width : Width) (extension : Extension) (rd addr : ℕ) (r : Loaded × P)
    → Kept r.1
    → Kept (after_load hart width extension rd addr r).2
kept_load Kept hart width extension rd addr (loaded.Value value, p) kept = kept
kept_load Kept hart width extension rd addr (loaded.Held, p) kept = kept
kept_load Kept hart width extension rd addr (loaded.Full, p) kept = kept
kept_load Kept hart width extension rd addr (loaded.Nothing, p) kept = kept

kept_store : {P : Type 0} → (Kept : P → Type 0) (hart : HartState) (addr : ℕ) (r : Stored × P) → Kept r.1 → Kept (after_store hart addr r).2
kept_store Kept hart addr (stored.Done, p) kept = kept
kept_store Kept hart addr (stored.Full, p) kept = kept
kept_store Kept hart addr (stored.Nothing, p) kept = kept

kept_number : {P : Type 0} → (Kept : P → Type 0) (hart : HartState) (cause : ℕ) (width : Width) (rd addr : ℕ) (r : Option ℕ × P)
    → Kept r.1
    → Kept (after_number hart cause width rd addr r).2
kept_number Kept hart cause width rd addr (None, p) kept = kept
kept_number Kept hart cause width rd addr (Some value, p) kept = kept

kept_conditional : {P : Type 0} → (Kept : P → Type 0) (hart : HartState) (rd addr : ℕ) (r : Option Bool × P)
    → Kept r.1
    → Kept (after_conditional hart rd addr r).2
kept_conditional Kept hart rd addr (None, p) kept = kept
kept_conditional Kept hart rd addr (Some done, p) kept = kept

kept_either : {P : Type 0} → (Kept : P → Type 0) (b : Bool) (one other : Outcome P) → Kept one.2 → Kept other.2 → Kept (if b then one else other).2
kept_either Kept true one other first second = first
kept_either Kept false one other first second = second

kept_csr_write : {P : Type 0} → (Kept : P → Type 0) (hart : HartState) (p : P) (word rd csr old : ℕ) (csrs : Option CsrState)
    → Kept p
    → Kept (after_csr_write hart p word rd csr old csrs).2
kept_csr_write Kept hart p word rd csr old None kept = kept
kept_csr_write Kept hart p word rd csr old (Some csrs) kept = kept

kept_csr : {P : Type 0} → (Kept : P → Type 0) (hart : HartState) (p : P) (word : ℕ) (op : CsrOp) (rd csr operand : ℕ) (writes : Bool) (old : Option ℕ)
    → Kept p
    → Kept (after_csr_read hart p word op rd csr operand writes old).2
kept_csr Kept hart p word op rd csr operand writes None kept = kept
kept_csr Kept hart p word op rd csr operand writes (Some old) kept =
    kept_either Kept writes _ _ (kept_csr_write Kept hart p word rd csr old (csr_write hart.csrs csr (csr_value op old operand)) kept) kept

kept_effect : {P : Type 0} → (m : Meaning P) (Kept : P → Type 0) (hart : HartState) (p : P) (lines word : ℕ) (e : Effect) → Keeps m Kept → Kept p
    → Kept (carried m hart p lines word e).2
kept_effect m Kept hart p lines word (effect.Put rd value) keeps kept = kept
kept_effect m Kept hart p lines word (effect.Jump rd target) keeps kept = kept_either Kept (target % 4 == 0) _ _ kept kept
kept_effect m Kept hart p lines word (effect.Goto target) keeps kept = kept_either Kept (target % 4 == 0) _ _ kept kept
kept_effect m Kept hart p lines word (effect.Load width extension rd addr) keeps kept =
    kept_either Kept (addr % width_bytes width == 0) _ _
    (kept_load Kept hart width extension rd addr (m.load p hart.csrs.hart width addr) (keeps.loads p hart.csrs.hart width addr kept))
    kept
kept_effect m Kept hart p lines word (effect.Store width addr value) keeps kept =
    kept_either Kept (addr % width_bytes width == 0) _ _
    (kept_store Kept hart addr (m.store p hart.csrs.hart width addr value) (keeps.stores p hart.csrs.hart width addr value kept))
    kept
kept_effect m Kept hart p lines word (effect.Reserve width rd addr) keeps kept =
    kept_either Kept (addr % width_bytes width == 0) _ _
    (kept_number Kept hart 5 width rd addr (m.reserve p hart.csrs.hart width addr) (keeps.reserves p hart.csrs.hart width addr kept))
    kept
kept_effect m Kept hart p lines word (effect.Conditional width rd addr value) keeps kept =
    kept_either Kept (addr % width_bytes width == 0) _ _
    (kept_conditional Kept hart rd addr (m.conditional p hart.csrs.hart width addr value) (keeps.conditionals p hart.csrs.hart width addr value kept))
    kept
kept_effect m Kept hart p lines word (effect.Amo op width rd addr value) keeps kept =
    kept_either Kept (addr % width_bytes width == 0) _ _
    (kept_number Kept hart 7 width rd addr (m.amo p hart.csrs.hart width addr op value) (keeps.amos p hart.csrs.hart width addr op value kept))
    kept
kept_effect m Kept hart p lines word (effect.Csr op rd csr operand writes) keeps kept =
    kept_csr Kept hart p word op rd csr operand writes (csr_read hart.csrs csr lines) kept
kept_effect m Kept hart p lines word (effect.Trap cause) keeps kept = kept
kept_effect m Kept hart p lines word effect.Return keeps kept = kept
kept_effect m Kept hart p lines word effect.Pass keeps kept = kept

kept_row : {P : Type 0} → (m : Meaning P) (Kept : P → Type 0) (hart : HartState) (p : P) (lines word : ℕ) (instr : Option Instr) → Keeps m Kept → Kept p
    → Kept (row m hart p lines word instr).2
kept_row m Kept hart p lines word None keeps kept = kept
kept_row m Kept hart p lines word (Some instr) keeps kept =
    kept_effect m Kept hart p lines word (effect_of (operation_of instr) hart.registers hart.pc) keeps kept

kept_fetched : {P : Type 0} → (m : Meaning P) (Kept : P → Type 0) (hart : HartState) (p : P) (lines : ℕ) (word : Option ℕ) → Keeps m Kept → Kept p
    → Kept (fetched m hart p lines word).2
kept_fetched m Kept hart p lines None keeps kept = kept
kept_fetched m Kept hart p lines (Some word) keeps kept = kept_row m Kept hart p lines word (reading word) keeps kept

kept_interrupted : {P : Type 0} → (m : Meaning P) (Kept : P → Type 0) (hart : HartState) (p : P) (lines : ℕ) (cause : Option ℕ) → Keeps m Kept → Kept p
    → Kept (interrupted m hart p lines cause).2
kept_interrupted m Kept hart p lines None keeps kept = kept_fetched m Kept hart p lines (m.fetch p hart.pc) keeps kept
kept_interrupted m Kept hart p lines (Some cause) keeps kept = kept

pub kept_step : {P : Type 0} → (m : Meaning P) (Kept : P → Type 0) (hart : HartState) (p : P) (lines : ℕ) → Keeps m Kept → Kept p
    → Kept (stepped m hart p lines).2
kept_step m Kept hart p lines keeps kept = kept_interrupted m Kept hart p lines (pending_interrupt hart.csrs lines) keeps kept
