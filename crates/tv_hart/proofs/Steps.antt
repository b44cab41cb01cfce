-- Events over a place that answers each access at once.
use Rattle.std.proofs.Common.{◌≡◌, ◌==◌, ℕ, ◌%◌, Bool, true, false, Option, Some, None, if◌then◌else◌}
use Rattle.tv_base.specs.declared.Width.{Width}
use Rattle.tv_base.specs.Width.{width_bytes}
use Rattle.tv_isa.specs.declared.Instr.{Instr}
use Rattle.tv_isa.specs.Table.{reading}
use Rattle.tv_hart.specs.declared.Did.{Did}
use Rattle.tv_hart.specs.declared.Did.TheVariants.{Retired, Trapped, Held, Full}
use Rattle.tv_hart.specs.declared.effect.Effect.{Effect}
use Rattle.tv_hart.specs.declared.effect.Effect.TheVariants as effect
use Rattle.tv_hart.specs.declared.loads.Extension.{Extension}
use Rattle.tv_hart.specs.declared.place.Loaded.{Loaded}
use Rattle.tv_hart.specs.declared.place.Loaded.TheVariants as loaded
use Rattle.tv_hart.specs.declared.place.Stored.{Stored}
use Rattle.tv_hart.specs.declared.place.Stored.TheVariants as stored
use Rattle.tv_hart.specs.Effect.{effect_of, csr_value}
use Rattle.tv_hart.specs.declared.operation.CsrOp.{CsrOp}
use Rattle.tv_trap.specs.CsrState.{CsrState}
use Rattle.tv_trap.specs.Registers.{csr_read, csr_write}
use Rattle.tv_trap.specs.Traps.{pending_interrupt}
use Rattle.tv_hart.specs.Hart.{Outcome, stepped, interrupted, fetched, row, carried, WaitsAfter}
use Rattle.tv_hart.specs.Hart.{after_load, after_store, after_number, after_conditional, after_csr_read, after_csr_write}
use Rattle.tv_hart.specs.declared.loads.Waiting.{Waiting}
use Rattle.tv_hart.specs.HartState.{HartState}
use Rattle.tv_hart.specs.Operation.{operation_of}
use Rattle.tv_hart.specs.Place.{Meaning}

-- an event that was made, and whose instruction waits for nothing
abbrev pub IsOver : Did → Type 0
IsOver Retired = Unit {0}
IsOver (Trapped cause) = Unit {0}
IsOver Held = ⊥
IsOver Full = ⊥

-- a load that was answered, and a store that was
abbrev pub IsAnswered : Loaded → Type 0
IsAnswered (loaded.Value value) = Unit {0}
IsAnswered loaded.Nothing = Unit {0}
IsAnswered loaded.Held = ⊥
IsAnswered loaded.Full = ⊥

abbrev pub IsSettled : Stored → Type 0
IsSettled stored.Done = Unit {0}
IsSettled stored.Nothing = Unit {0}
IsSettled stored.Full = ⊥

-- the place answers each access at once
pub record AnswersAtOnce {P : Type 0} (m : Meaning P) (p : P) : Type 0 where
  pub loads : (hart : ℕ) (width : Width) (addr : ℕ) → IsAnswered (m.load p hart width addr).0
  pub stores : (hart : ℕ) (width : Width) (addr value : ℕ) → IsSettled (m.store p hart width addr value).0

-- after an event that is over the hart waits for nothing
pub over_waits : (result : Did) (waits : Option Waiting) → IsOver result → WaitsAfter result waits → waits ≡ None
over_waits Retired waits over is = is
over_waits (Trapped cause) waits over is = is
over_waits Held waits over is = absurd over
over_waits Full waits over is = absurd over

over_load : {P : Type 0}
    → (hart : HartState) (width : Width) (extension : Extension) (rd addr : ℕ) (answer : Loaded × P)
    → IsAnswered answer.0
    → IsOver (after_load hart width extension rd addr answer).0
over_load hart width extension rd addr (loaded.Value value, p) answered = tt
over_load hart width extension rd addr (loaded.Held, p) answered = answered
over_load hart width extension rd addr (loaded.Full, p) answered = answered
over_load hart width extension rd addr (loaded.Nothing, p) answered = tt

over_store : {P : Type 0} → (hart : HartState) (addr : ℕ) (answer : Stored × P)
    → IsSettled answer.0
    → IsOver (after_store hart addr answer).0
over_store hart addr (stored.Done, p) settled = tt
over_store hart addr (stored.Full, p) settled = settled
over_store hart addr (stored.Nothing, p) settled = tt

over_number : {P : Type 0} → (hart : HartState) (cause : ℕ) (width : Width) (rd addr : ℕ) (answer : Option ℕ × P)
    → IsOver (after_number hart cause width rd addr answer).0
over_number hart cause width rd addr (None, p) = tt
over_number hart cause width rd addr (Some value, p) = tt

over_conditional : {P : Type 0} → (hart : HartState) (rd addr : ℕ) (answer : Option Bool × P)
    → IsOver (after_conditional hart rd addr answer).0
over_conditional hart rd addr (None, p) = tt
over_conditional hart rd addr (Some done, p) = tt

-- one of two outcomes, each of which is over
over_either : {P : Type 0} → (test : Bool) (one other : Outcome P)
    → IsOver one.0
    → IsOver other.0
    → IsOver (if test then one else other).0
over_either true one other first second = first
over_either false one other first second = second

over_write : {P : Type 0} → (hart : HartState) (p : P) (word rd csr old : ℕ) (csrs : Option CsrState)
    → IsOver (after_csr_write hart p word rd csr old csrs).0
over_write hart p word rd csr old None = tt
over_write hart p word rd csr old (Some csrs) = tt

over_csr : {P : Type 0}
    → (hart : HartState) (p : P) (word : ℕ) (op : CsrOp) (rd csr operand : ℕ) (writes : Bool) (old : Option ℕ)
    → IsOver (after_csr_read hart p word op rd csr operand writes old).0
over_csr hart p word op rd csr operand writes None = tt
over_csr hart p word op rd csr operand writes (Some old) =
    over_either writes _ _ (over_write hart p word rd csr old (csr_write hart.csrs csr (csr_value op old operand))) tt

over_effect : {P : Type 0} → (m : Meaning P) (hart : HartState) (p : P) (lines word : ℕ) (effect : Effect)
    → AnswersAtOnce m p
    → IsOver (carried m hart p lines word effect).0
over_effect m hart p lines word (effect.Put rd value) at_once = tt
over_effect m hart p lines word (effect.Jump rd target) at_once = over_either (target % 4 == 0) _ _ tt tt
over_effect m hart p lines word (effect.Goto target) at_once = over_either (target % 4 == 0) _ _ tt tt
over_effect m hart p lines word (effect.Load width extension rd addr) at_once =
    over_either (addr % width_bytes width == 0) _ _
    (over_load hart width extension rd addr (m.load p hart.csrs.hart width addr) (at_once.loads hart.csrs.hart width addr))
    tt
over_effect m hart p lines word (effect.Store width addr value) at_once =
    over_either (addr % width_bytes width == 0) _ _
    (over_store hart addr (m.store p hart.csrs.hart width addr value) (at_once.stores hart.csrs.hart width addr value))
    tt
over_effect m hart p lines word (effect.Reserve width rd addr) at_once =
    over_either (addr % width_bytes width == 0) _ _
    (over_number hart 5 width rd addr (m.reserve p hart.csrs.hart width addr)) tt
over_effect m hart p lines word (effect.Conditional width rd addr value) at_once =
    over_either (addr % width_bytes width == 0) _ _
    (over_conditional hart rd addr (m.conditional p hart.csrs.hart width addr value)) tt
over_effect m hart p lines word (effect.Amo op width rd addr value) at_once =
    over_either (addr % width_bytes width == 0) _ _
    (over_number hart 7 width rd addr (m.amo p hart.csrs.hart width addr op value)) tt
over_effect m hart p lines word (effect.Csr op rd csr operand writes) at_once =
    over_csr hart p word op rd csr operand writes (csr_read hart.csrs csr lines)
over_effect m hart p lines word (effect.Trap cause) at_once = tt
over_effect m hart p lines word effect.Return at_once = tt
over_effect m hart p lines word effect.Pass at_once = tt

over_row : {P : Type 0} → (m : Meaning P) (hart : HartState) (p : P) (lines word : ℕ) (instr : Option Instr)
    → AnswersAtOnce m p
    → IsOver (row m hart p lines word instr).0
over_row m hart p lines word None at_once = tt
over_row m hart p lines word (Some instr) at_once =
    over_effect m hart p lines word (effect_of (operation_of instr) hart.registers hart.pc) at_once

over_fetched : {P : Type 0} → (m : Meaning P) (hart : HartState) (p : P) (lines : ℕ) (word : Option ℕ)
    → AnswersAtOnce m p
    → IsOver (fetched m hart p lines word).0
over_fetched m hart p lines None at_once = tt
over_fetched m hart p lines (Some word) at_once = over_row m hart p lines word (reading word) at_once

over_interrupted : {P : Type 0} → (m : Meaning P) (hart : HartState) (p : P) (lines : ℕ) (cause : Option ℕ)
    → AnswersAtOnce m p
    → IsOver (interrupted m hart p lines cause).0
over_interrupted m hart p lines None at_once = over_fetched m hart p lines (m.fetch p hart.pc) at_once
over_interrupted m hart p lines (Some cause) at_once = tt

-- an event over such a place
pub over_step : {P : Type 0} → (m : Meaning P) (hart : HartState) (p : P) (lines : ℕ)
    → AnswersAtOnce m p
    → IsOver (stepped m hart p lines).0
over_step m hart p lines at_once = over_interrupted m hart p lines (pending_interrupt hart.csrs lines) at_once
