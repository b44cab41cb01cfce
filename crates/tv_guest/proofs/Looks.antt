-- An event shows the same where its accesses are only looked at.
use Rattle.std.proofs.Common.{◌≡◌, ℕ, ◌-◌, ◌%◌, ◌^◌, ◌++◌, ◌==◌, ◌<◌, Bool, true, false, if◌then◌else◌, length, Option, Some, None, refl, subst, sym, ap, ◌∙◌}
use Rattle.tv_base.specs.declared.Width.{Width}
use Rattle.tv_base.specs.declared.Width.TheVariants.{B1, B2, B4, B8}
use Rattle.tv_base.specs.Width.{width_bytes}
use Rattle.tv_bus.specs.declared.Target.{Target}
use Rattle.tv_bus.specs.declared.Target.TheVariants as target
use Rattle.tv_hart.specs.declared.effect.Effect.{Effect}
use Rattle.tv_hart.specs.declared.effect.Effect.TheVariants as effect
use Rattle.tv_hart.specs.declared.loads.Extension.{Extension}
use Rattle.tv_hart.specs.declared.place.Loaded.{Loaded}
use Rattle.tv_hart.specs.declared.place.Loaded.TheVariants as loaded
use Rattle.tv_hart.specs.declared.place.Stored.{Stored}
use Rattle.tv_hart.specs.declared.place.Stored.TheVariants as stored
use Rattle.tv_hart.specs.Effect.{effect_of}
use Rattle.tv_hart.specs.Hart.{Outcome, stepped, interrupted, fetched, row, carried, after_load, after_store, after_number, after_conditional}
use Rattle.tv_hart.specs.HartState.{HartState}
use Rattle.tv_hart.specs.Operation.{operation_of}
use Rattle.tv_intc.specs.declared.ending.Finish.{Finish}
use Rattle.tv_isa.specs.declared.AmoOp.{AmoOp}
use Rattle.tv_isa.specs.declared.Instr.{Instr}
use Rattle.tv_isa.specs.Table.{reading}
use Rattle.tv_ram.specs.Memory.{is_inside, loaded as number_in}
use Rattle.tv_spec.specs.declared.Shown.{Shown}
use Rattle.tv_spec.specs.Local.{device_ranges, port_ranges, local_meaning, load_from, store_to, target_at, finish_by, after_finish, after_amo, after_reserve, after_conditional as conditional_at}
use Rattle.tv_spec.specs.LocalState.{LocalState}
use Rattle.tv_spec.specs.Reach.{Reach, all_open}
use Rattle.tv_spec.specs.Reservations.{is_reserved, reserved_by}
use Rattle.tv_trap.specs.Traps.{pending_interrupt}
use Rattle.tv_guest.proofs.Ports.{offset_fits}
use Rattle.tv_guest.specs.Looks.{finish_looked, load_looked, looked, port_at, store_looked}

-- what harts reach where nothing is closed
abbrev pub open_reach : LocalState → Shown → Reach
open_reach l seen = record { local = l; closed = all_open; shown = seen }

-- 1. Accesses

-- by where they lead: to memory, which shows nothing, or past it
load_past : (l : LocalState) (seen : Shown) (width : Width) (addr : ℕ) (place : Option (Target × ℕ))
    → (load_looked (open_reach l seen) width place).1.shown ≡ (load_from (open_reach l seen) width addr place).1.shown
load_past l seen width addr None = refl
load_past l seen width addr (Some (target.Ram, off)) = refl
load_past l seen width addr (Some (target.Finisher, off)) = refl
load_past l seen width addr (Some (target.Timer, off)) = refl
load_past l seen width addr (Some (target.Intc, off)) = refl
load_past l seen width addr (Some (target.Debug, off)) = refl
load_past l seen width addr (Some (target.Device slot, off)) = refl

finish_past : (l : LocalState) (seen : Shown) (f : Option Finish) → (finish_looked (open_reach l seen) f).1.shown ≡ (after_finish (open_reach l seen) f).shown
finish_past l seen None = refl
finish_past l seen (Some finish) = refl

store_past : (l : LocalState) (seen : Shown) (hart : ℕ) (width : Width) (addr value : ℕ) (place : Option (Target × ℕ))
    → (store_looked (open_reach l seen) width value place).1.shown ≡ (store_to (open_reach l seen) hart width addr value place).1.shown
store_past l seen hart width addr value None = refl
store_past l seen hart width addr value (Some (target.Ram, off)) = refl
store_past l seen hart width addr value (Some (target.Finisher, off)) = finish_past l seen (finish_by width value)
store_past l seen hart width addr value (Some (target.Timer, off)) = refl
store_past l seen hart width addr value (Some (target.Intc, off)) = refl
store_past l seen hart width addr value (Some (target.Debug, off)) = refl
store_past l seen hart width addr value (Some (target.Device slot, off)) = refl

-- memory is the first of the ranges
target_by : (l : LocalState) (seen : Shown) (addr : ℕ) (width : Width) (inside : Bool) → is_inside (length l.ram) addr (width_bytes width) ≡ inside
    → target_at (open_reach l seen) addr (width_bytes width)
    ≡ (if inside then Some (target.Ram, addr - 0x8000_0000) else port_at (length l.ram) l.devices addr (width_bytes width))
target_by l seen addr B1 true is = rw is refl
target_by l seen addr B2 true is = rw is refl
target_by l seen addr B4 true is = rw is refl
target_by l seen addr B8 true is = rw is refl
target_by l seen addr B1 false is = rw is refl
target_by l seen addr B2 false is = rw is refl
target_by l seen addr B4 false is = rw is refl
target_by l seen addr B8 false is = rw is refl

load_alike : (l : LocalState) (seen : Shown) (width : Width) (addr : ℕ) (inside : Bool) → is_inside (length l.ram) addr (width_bytes width) ≡ inside
    → (load_looked (open_reach l seen) width (port_at (length l.ram) l.devices addr (width_bytes width))).1.shown
    ≡ (load_from (open_reach l seen) width addr (target_at (open_reach l seen) addr (width_bytes width))).1.shown
load_alike l seen width addr true is = rw (target_by l seen addr width true is, is) refl
load_alike l seen width addr false is =
    rw (target_by l seen addr width false is) (load_past l seen width addr (port_at (length l.ram) l.devices addr (width_bytes width)))

store_alike : (l : LocalState) (seen : Shown) (hart : ℕ) (width : Width) (addr value : ℕ) (inside : Bool) → is_inside (length l.ram) addr (width_bytes width) ≡ inside
    → (store_looked (open_reach l seen) width value (port_at (length l.ram) l.devices addr (width_bytes width))).1.shown
    ≡ (store_to (open_reach l seen) hart width addr value (target_at (open_reach l seen) addr (width_bytes width))).1.shown
store_alike l seen hart width addr value true is = rw (target_by l seen addr width true is, is) refl
store_alike l seen hart width addr value false is =
    rw (target_by l seen addr width false is) (store_past l seen hart width addr value (port_at (length l.ram) l.devices addr (width_bytes width)))

amo_quiet : (p : Reach) (hart : ℕ) (width : Width) (addr : ℕ) (op : AmoOp) (value : ℕ) (old : Option ℕ)
    → p.shown ≡ (after_amo p hart width addr op value old).1.shown
amo_quiet p hart width addr op value None = refl
amo_quiet p hart width addr op value (Some old) = refl

reserve_quiet : (p : Reach) (hart addr : ℕ) (value : Option ℕ) → p.shown ≡ (after_reserve p hart addr value).1.shown
reserve_quiet p hart addr None = refl
reserve_quiet p hart addr (Some value) = refl

conditional_quiet : (p : Reach) (hart : ℕ) (width : Width) (addr value : ℕ) (old : Option ℕ)
    → p.shown ≡ (conditional_at p hart width addr value old).1.shown
conditional_quiet p hart width addr value None = refl
conditional_quiet p hart width addr value (Some old) = by_reserved (is_reserved (reserved_by p.local.reservations hart) addr) refl
  where
    by_reserved : (b : Bool) → is_reserved (reserved_by p.local.reservations hart) addr ≡ b → p.shown ≡ (conditional_at p hart width addr value (Some old)).1.shown
    by_reserved true e = rw e refl
    by_reserved false e = rw e refl

-- 2. What an instruction shows is what its access showed, whatever it was answered

load_place : (hart : HartState) (width : Width) (extension : Extension) (rd addr : ℕ) (r : Loaded × Reach) → (after_load hart width extension rd addr r).2 ≡ r.1
load_place hart width extension rd addr (loaded.Value n, p) = refl
load_place hart width extension rd addr (loaded.Held, p) = refl
load_place hart width extension rd addr (loaded.Full, p) = refl
load_place hart width extension rd addr (loaded.Nothing, p) = refl

store_place : (hart : HartState) (addr : ℕ) (r : Stored × Reach) → (after_store hart addr r).2 ≡ r.1
store_place hart addr (stored.Done, p) = refl
store_place hart addr (stored.Full, p) = refl
store_place hart addr (stored.Nothing, p) = refl

number_place : (hart : HartState) (cause : ℕ) (width : Width) (rd addr : ℕ) (r : Option ℕ × Reach) → (after_number hart cause width rd addr r).2 ≡ r.1
number_place hart cause width rd addr (None, p) = refl
number_place hart cause width rd addr (Some value, p) = refl

conditional_place : (hart : HartState) (rd addr : ℕ) (r : Option Bool × Reach) → (after_conditional hart rd addr r).2 ≡ r.1
conditional_place hart rd addr (None, p) = refl
conditional_place hart rd addr (Some done, p) = refl

-- 3. Effects, and events

either_alike : (b : Bool) (one two other : Outcome Reach) → one.2.shown ≡ two.2.shown
    → ◌≡◌ {A = Shown} (if b then one else other).2.shown (if b then two else other).2.shown
either_alike true one two other same = same
either_alike false one two other same = refl

carried_alike : (hart : HartState) (l : LocalState) (seen : Shown) (lines word : ℕ) (e : Effect)
    → (carried looked hart (open_reach l seen) lines word e).2.shown ≡ (carried local_meaning hart (open_reach l seen) lines word e).2.shown
carried_alike hart l seen lines word (effect.Put rd value) = refl
carried_alike hart l seen lines word (effect.Jump rd target) = refl
carried_alike hart l seen lines word (effect.Goto target) = refl
carried_alike hart l seen lines word (effect.Load width extension rd addr) =
    let p : Reach = open_reach l seen in
    let near : Loaded × Reach = load_looked p width (port_at (length l.ram) l.devices addr (width_bytes width)) in
    let far : Loaded × Reach = load_from p width addr (target_at p addr (width_bytes width)) in
    either_alike (addr % width_bytes width == 0) (after_load hart width extension rd addr near) (after_load hart width extension rd addr far) _
    (ap (λ (q : Reach). q.shown) (load_place hart width extension rd addr near)
    ∙ load_alike l seen width addr (is_inside (length l.ram) addr (width_bytes width)) refl
    ∙ ap (λ (q : Reach). q.shown) (sym (load_place hart width extension rd addr far)))
carried_alike hart l seen lines word (effect.Store width addr value) =
    let p : Reach = open_reach l seen in
    let near : Stored × Reach = store_looked p width value (port_at (length l.ram) l.devices addr (width_bytes width)) in
    let far : Stored × Reach = store_to p hart.csrs.hart width addr value (target_at p addr (width_bytes width)) in
    either_alike (addr % width_bytes width == 0) (after_store hart addr near) (after_store hart addr far) _
    (ap (λ (q : Reach). q.shown) (store_place hart addr near)
    ∙ store_alike l seen hart.csrs.hart width addr value (is_inside (length l.ram) addr (width_bytes width)) refl
    ∙ ap (λ (q : Reach). q.shown) (sym (store_place hart addr far)))
carried_alike hart l seen lines word (effect.Reserve width rd addr) =
    let p : Reach = open_reach l seen in
    let far : Option ℕ × Reach = after_reserve p hart.csrs.hart addr (number_in l.ram addr (width_bytes width)) in
    either_alike (addr % width_bytes width == 0) _ (after_number hart 5 width rd addr far) _
    (reserve_quiet p hart.csrs.hart addr (number_in l.ram addr (width_bytes width)) ∙ ap (λ (q : Reach). q.shown) (sym (number_place hart 5 width rd addr far)))
carried_alike hart l seen lines word (effect.Conditional width rd addr value) =
    let p : Reach = open_reach l seen in
    let far : Option Bool × Reach = conditional_at p hart.csrs.hart width addr value (number_in l.ram addr (width_bytes width)) in
    either_alike (addr % width_bytes width == 0) _ (after_conditional hart rd addr far) _
    (conditional_quiet p hart.csrs.hart width addr value (number_in l.ram addr (width_bytes width)) ∙ ap (λ (q : Reach). q.shown) (sym (conditional_place hart rd addr far)))
carried_alike hart l seen lines word (effect.Amo op width rd addr value) =
    let p : Reach = open_reach l seen in
    let far : Option ℕ × Reach = after_amo p hart.csrs.hart width addr op value (number_in l.ram addr (width_bytes width)) in
    either_alike (addr % width_bytes width == 0) _ (after_number hart 7 width rd addr far) _
    (amo_quiet p hart.csrs.hart width addr op value (number_in l.ram addr (width_bytes width)) ∙ ap (λ (q : Reach). q.shown) (sym (number_place hart 7 width rd addr far)))
carried_alike hart l seen lines word (effect.Csr op rd csr operand writes) = refl
carried_alike hart l seen lines word (effect.Trap cause) = refl
carried_alike hart l seen lines word effect.Return = refl
carried_alike hart l seen lines word effect.Pass = refl

row_alike : (hart : HartState) (l : LocalState) (seen : Shown) (lines word : ℕ) (instr : Option Instr)
    → (row looked hart (open_reach l seen) lines word instr).2.shown ≡ (row local_meaning hart (open_reach l seen) lines word instr).2.shown
row_alike hart l seen lines word None = refl
row_alike hart l seen lines word (Some instr) = carried_alike hart l seen lines word (effect_of (operation_of instr) hart.registers hart.pc)

fetched_alike : (hart : HartState) (l : LocalState) (seen : Shown) (lines : ℕ) (word : Option ℕ)
    → (fetched looked hart (open_reach l seen) lines word).2.shown ≡ (fetched local_meaning hart (open_reach l seen) lines word).2.shown
fetched_alike hart l seen lines None = refl
fetched_alike hart l seen lines (Some word) = row_alike hart l seen lines word (reading word)

interrupted_alike : (hart : HartState) (l : LocalState) (seen : Shown) (lines : ℕ) (cause : Option ℕ)
    → (interrupted looked hart (open_reach l seen) lines cause).2.shown ≡ (interrupted local_meaning hart (open_reach l seen) lines cause).2.shown
interrupted_alike hart l seen lines None = fetched_alike hart l seen lines (number_in l.ram hart.pc 4)
interrupted_alike hart l seen lines (Some cause) = refl

pub stepped_alike : (hart : HartState) (l : LocalState) (seen : Shown) (lines : ℕ)
    → (stepped looked hart (open_reach l seen) lines).2.shown ≡ (stepped local_meaning hart (open_reach l seen) lines).2.shown
stepped_alike hart l seen lines = interrupted_alike hart l seen lines (pending_interrupt hart.csrs lines)

-- 4. Where an access past memory leads

IsSome : {A : Type 0} → Option A → Type 0
IsSome None = ⊥
IsSome (Some x) = Unit {0}

none_found : {A : Type 0} (x : A) → Some x ≡ None → ⊥
unfolding IsSome
none_found {A = A} x is = subst (λ (o : Option A). IsSome o) is tt

-- an offset in a device's registers is below 2^16
pub port_fits : (ram devices addr : ℕ) (width : Width) (place : Target) (off : ℕ) → Some (place, off) ≡ port_at ram devices addr (width_bytes width)
    → (slot : ℕ) → place ≡ target.Device slot → off < 2 ^ 16
port_fits ram devices addr width place off found = by_inside (is_inside ram addr (width_bytes width)) refl
  where
    by_inside : (b : Bool) → is_inside ram addr (width_bytes width) ≡ b → (slot : ℕ) → place ≡ target.Device slot → off < 2 ^ 16
    by_inside true e = absurd (none_found (place, off) (rw e at found))
    by_inside false e = offset_fits (port_ranges ++ device_ranges devices) devices addr width place off refl (rw e at found)
