-- One event of a hart: a pending interrupt, or the row of the word at its pc, carried out over the place (RISC-V
-- Unprivileged ISA, chapters "RV32I", "RV64I", "M", "A" and "Zicsr"; Privileged Architecture, chapter "Machine-Level ISA").
use Rattle.std.specs.Prelude.{◌≡◌, ◌==◌, ℕ, ◌%◌, Bool, true, false, if◌then◌else◌, replicate, slice_set}
use Rattle.std.specs.Prelude.{Option, Some, None, IsSome}
use Rattle.tv_base.specs.declared.Width.{Width}
use Rattle.tv_base.specs.Width.{width_bytes}
use Rattle.tv_isa.specs.declared.Instr.{Instr}
use Rattle.tv_isa.specs.Table.{reading}
use Rattle.tv_hart.specs.declared.Did.{Did}
use Rattle.tv_hart.specs.declared.Did.TheVariants.{Retired, Trapped, Held, Full}
use Rattle.tv_hart.specs.declared.loads.Extension.{Extension}
use Rattle.tv_hart.specs.declared.loads.Extension.TheVariants as extension
use Rattle.tv_hart.specs.declared.effect.Effect.{Effect}
use Rattle.tv_hart.specs.declared.effect.Effect.TheVariants as effect
use Rattle.tv_hart.specs.declared.operation.CsrOp.{CsrOp}
use Rattle.tv_hart.specs.declared.place.Loaded.{Loaded}
use Rattle.tv_hart.specs.declared.place.Loaded.TheVariants as loaded
use Rattle.tv_hart.specs.declared.place.Stored.{Stored}
use Rattle.tv_hart.specs.declared.place.Stored.TheVariants as stored
use Rattle.tv_hart.specs.Effect.{effect_of, csr_value, with_register, sum_64}
use Rattle.tv_hart.specs.declared.loads.Waiting.{Waiting}
use Rattle.tv_hart.specs.HartState.{HartState}
use Rattle.tv_hart.specs.Loads.{extended}
use Rattle.tv_hart.specs.Operation.{operation_of}
use Rattle.tv_hart.specs.Place.{Meaning}
use Rattle.tv_trap.specs.CsrState.{CsrState}
use Rattle.tv_trap.specs.Registers.{csr_read, csr_write}
use Rattle.tv_trap.specs.Traps.{counted, first_csrs, pending_interrupt, trap_entry, trap_return}

-- a hart at the start of memory, with its number in x10
abbrev pub first_hart : ℕ → HartState
first_hart number =
    record { registers = slice_set (replicate 32 0) 10 number; pc = 0x80000000; csrs = first_csrs number; waits = None }

-- what an event did, its hart and the place after it
abbrev pub Outcome : Type 0 → Type 0
Outcome P = Did × HartState × P

-- the hart with a value in a register
abbrev pub put : HartState → ℕ → ℕ → HartState
put hart rd value = record hart { registers = with_register hart.registers rd value }

-- the hart at another pc
abbrev pub at_pc : HartState → ℕ → HartState
at_pc hart pc = record hart { pc = pc }

-- the hart with other control and status registers
abbrev pub with_csrs : HartState → CsrState → HartState
with_csrs hart csrs = record hart { csrs = csrs }

-- instructions are 4 bytes long
abbrev pub next_pc : HartState → ℕ
next_pc hart = sum_64 hart.pc 4

-- the hart that carried out its instruction, goes on at a pc with a value in a register, and counts the event
abbrev pub retired : HartState → ℕ → ℕ → ℕ → HartState
retired hart pc rd value = with_csrs (put (at_pc hart pc) rd value) (counted hart.csrs true None)

-- the hart that trapped: its registers tell of it, and it goes on at the handler
abbrev pub trapped : HartState → ℕ → ℕ → HartState
trapped hart cause tval =
    with_csrs (at_pc hart hart.csrs.mtvec) (counted (trap_entry hart.csrs cause tval hart.pc) false None)

-- the hart that goes on and waits for the value of a load; the event is counted now
abbrev pub waiting_for : HartState → Width → Extension → ℕ → HartState
waiting_for hart width extension rd = record (with_csrs (at_pc hart (next_pc hart)) (counted hart.csrs true None)) {
  waits = Some (record { rd = rd; width = width; extension = extension });
}

-- the hart that wrote a control and status register, which left these: the old value is in a register, and the register
-- that was written doesn't count the event
abbrev pub csr_written : HartState → ℕ → ℕ → ℕ → CsrState → HartState
csr_written hart rd csr old csrs =
    with_csrs (put (at_pc hart (next_pc hart)) rd old) (counted csrs true (Some csr))

-- the hart that returned from a trap
abbrev pub returned : HartState → HartState
returned hart = with_csrs (at_pc hart hart.csrs.mepc) (counted (trap_return hart.csrs) true None)

-- a trap with its cause and the value that it tells. The causes are 0 for a jump's target that isn't aligned, 1 for a
-- fetch outside memory, 2 for no instruction, 3 for EBREAK, 4 and 5 for a load that isn't aligned or leads nowhere, 6 and
-- 7 for a store, and 11 for ECALL
abbrev pub traps : {P : Type 0} → HartState → P → ℕ → ℕ → Outcome P
traps hart p cause tval = (Trapped cause, trapped hart cause tval, p)

-- an instruction that puts a value into a register
abbrev pub puts : {P : Type 0} → HartState → P → ℕ → ℕ → Outcome P
puts hart p rd value = (Retired, retired hart (next_pc hart) rd value, p)

-- a jump with the next pc in a register, unless its target isn't a multiple of 4
abbrev pub jumps : {P : Type 0} → HartState → P → ℕ → ℕ → Outcome P
jumps hart p rd target =
    if target % 4 == 0 then (Retired, retired hart target rd (next_pc hart), p) else traps hart p 0 target

-- a load by what the place answered, and a store by what it did
abbrev pub after_load : {P : Type 0} → HartState → Width → Extension → ℕ → ℕ → Loaded × P → Outcome P
after_load hart width extension rd addr (loaded.Value value, p) = puts hart p rd (extended extension width value)
after_load hart width extension rd addr (loaded.Held, p) = (Held, waiting_for hart width extension rd, p)
after_load hart width extension rd addr (loaded.Full, p) = (Full, hart, p)
after_load hart width extension rd addr (loaded.Nothing, p) = traps hart p 5 addr

abbrev pub after_store : {P : Type 0} → HartState → ℕ → Stored × P → Outcome P
after_store hart addr (stored.Done, p) = puts hart p 0 0
after_store hart addr (stored.Full, p) = (Full, hart, p)
after_store hart addr (stored.Nothing, p) = traps hart p 7 addr

-- LR and AMO by the number that was there, which is sign-extended; where there is none, a trap with this cause
abbrev pub after_number : {P : Type 0} → HartState → ℕ → Width → ℕ → ℕ → Option ℕ × P → Outcome P
after_number hart cause width rd addr (Some value, p) = puts hart p rd (extended extension.Sign width value)
after_number hart cause width rd addr (None, p) = traps hart p cause addr

-- SC by whether the value was stored
abbrev pub after_conditional : {P : Type 0} → HartState → ℕ → ℕ → Option Bool × P → Outcome P
after_conditional hart rd addr (Some done, p) = puts hart p rd (if done then 0 else 1)
after_conditional hart rd addr (None, p) = traps hart p 7 addr

-- a CSR instruction that writes, by the registers after the write; none where that is refused
abbrev pub after_csr_write : {P : Type 0} → HartState → P → ℕ → ℕ → ℕ → ℕ → Option CsrState → Outcome P
after_csr_write hart p word rd csr old None = traps hart p 2 word
after_csr_write hart p word rd csr old (Some csrs) =
    (Retired, csr_written hart rd csr old csrs, p)

-- a CSR instruction by the old value; none where there is no such register
abbrev pub after_csr_read : {P : Type 0} → HartState → P → ℕ → CsrOp → ℕ → ℕ → ℕ → Bool → Option ℕ → Outcome P
after_csr_read hart p word op rd csr operand writes None = traps hart p 2 word
after_csr_read hart p word op rd csr operand writes (Some old) =
    if writes then after_csr_write hart p word rd csr old (csr_write hart.csrs csr (csr_value op old operand))
    else puts hart p rd old

-- an access of a width where its address is aligned; else a trap with this cause
abbrev pub if_aligned : {P : Type 0} → HartState → P → ℕ → Width → ℕ → Outcome P → Outcome P
if_aligned hart p cause width addr access =
    if addr % width_bytes width == 0 then access else traps hart p cause addr

-- an effect of a word carried out, while these interrupt lines are up
abbrev pub carried : {P : Type 0} → Meaning P → HartState → P → ℕ → ℕ → Effect → Outcome P
carried m hart p lines word (effect.Put rd value) = puts hart p rd value
carried m hart p lines word (effect.Jump rd target) = jumps hart p rd target
carried m hart p lines word (effect.Goto target) = jumps hart p 0 target
carried m hart p lines word (effect.Load width extension rd addr) =
    if_aligned hart p 4 width addr (after_load hart width extension rd addr (m.load p hart.csrs.hart width addr))
carried m hart p lines word (effect.Store width addr value) =
    if_aligned hart p 6 width addr (after_store hart addr (m.store p hart.csrs.hart width addr value))
carried m hart p lines word (effect.Reserve width rd addr) =
    if_aligned hart p 4 width addr (after_number hart 5 width rd addr (m.reserve p hart.csrs.hart width addr))
carried m hart p lines word (effect.Conditional width rd addr value) =
    if_aligned hart p 6 width addr (after_conditional hart rd addr (m.conditional p hart.csrs.hart width addr value))
carried m hart p lines word (effect.Amo op width rd addr value) =
    if_aligned hart p 6 width addr (after_number hart 7 width rd addr (m.amo p hart.csrs.hart width addr op value))
carried m hart p lines word (effect.Csr op rd csr operand writes) =
    after_csr_read hart p word op rd csr operand writes (csr_read hart.csrs csr lines)
carried m hart p lines word (effect.Trap cause) = traps hart p cause 0
carried m hart p lines word effect.Return = (Retired, returned hart, p)
carried m hart p lines word effect.Pass = puts hart p 0 0

-- the row of a word's instruction; a word without a row traps
abbrev pub row : {P : Type 0} → Meaning P → HartState → P → ℕ → ℕ → Option Instr → Outcome P
row m hart p lines word None = traps hart p 2 word
row m hart p lines word (Some instr) =
    carried m hart p lines word (effect_of (operation_of instr) hart.registers hart.pc)

-- the row of the word that was fetched; a pc outside memory traps
abbrev pub fetched : {P : Type 0} → Meaning P → HartState → P → ℕ → Option ℕ → Outcome P
fetched m hart p lines None = traps hart p 1 hart.pc
fetched m hart p lines (Some word) = row m hart p lines word (reading word)

-- the interrupt to take, or else the instruction
abbrev pub interrupted : {P : Type 0} → Meaning P → HartState → P → ℕ → Option ℕ → Outcome P
interrupted m hart p lines None = fetched m hart p lines (m.fetch p hart.pc)
interrupted m hart p lines (Some cause) = traps hart p cause 0

-- one event, while these interrupt lines are up
abbrev pub stepped : {P : Type 0} → Meaning P → HartState → P → ℕ → Outcome P
stepped m hart p lines = interrupted m hart p lines (pending_interrupt hart.csrs lines)

-- the value of the load that a hart waits for reaches it
abbrev pub finished_by : HartState → Option Waiting → ℕ → HartState
finished_by hart None value = hart
finished_by hart (Some load) value =
    put (record hart { waits = None }) load.rd (extended load.extension load.width value)

abbrev pub finished : HartState → ℕ → HartState
finished hart value = finished_by hart hart.waits value

-- a fact where no event was made
abbrev pub OnNoEvent : Did → Type 0 → Type 0
OnNoEvent Retired fact = Unit {0}
OnNoEvent (Trapped cause) fact = Unit {0}
OnNoEvent Held fact = Unit {0}
OnNoEvent Full fact = fact

-- whether a hart waits after an event that came to this
abbrev pub WaitsAfter : Did → Option Waiting → Type 0
WaitsAfter Held waits = IsSome waits
WaitsAfter Retired waits = waits ≡ None
WaitsAfter (Trapped cause) waits = waits ≡ None
WaitsAfter Full waits = waits ≡ None
