-- A hart's event is Full exactly where it needs what is closed, and that is what it shows where all is open. An access that it
-- shows lies in the registers of its device.
use Rattle.std.proofs.Common.{◌≡◌, ℕ, zero, suc, ◌+◌, ◌-◌, ◌*◌, ◌%◌, ◌^◌, ◌≤◌, ◌==◌, ◌&&◌, if◌then◌else◌, inl, inr, Bool, true, false, List, [], ◌∷◌, ◌++◌, length, Option, Some, None, refl, ap, sym, ◌∙◌, arith}
use Rattle.std.specs.Prelude.{IsTrue}
use Rattle.std.proofs.lemmas.Bool.{true≢false, le-leb}
use Rattle.std.proofs.lemmas.Bool.Decides.{eqb_tells, nat_tests}
use Rattle.tv_base.specs.declared.Access.TheVariants as access
use Rattle.tv_base.specs.declared.Width.{Width}
use Rattle.tv_base.specs.declared.Width.TheVariants.{B1, B2, B4, B8}
use Rattle.tv_base.specs.Width.{width_bytes}
use Rattle.tv_bus.specs.declared.ranges.Range.{Range}
use Rattle.tv_bus.specs.declared.Target.{Target}
use Rattle.tv_bus.specs.declared.Target.TheVariants as target
use Rattle.tv_bus.specs.Ranges.{holds, range_at}
use Rattle.tv_hart.specs.declared.Did.{Did}
use Rattle.tv_hart.specs.declared.Did.TheVariants as did
use Rattle.tv_hart.specs.declared.effect.Effect.{Effect}
use Rattle.tv_hart.specs.declared.effect.Effect.TheVariants as effect
use Rattle.tv_hart.specs.declared.loads.Extension.{Extension}
use Rattle.tv_hart.specs.declared.operation.CsrOp.{CsrOp}
use Rattle.tv_hart.specs.declared.place.Loaded.{Loaded}
use Rattle.tv_hart.specs.declared.place.Loaded.TheVariants as loaded
use Rattle.tv_hart.specs.declared.place.Stored.{Stored}
use Rattle.tv_hart.specs.declared.place.Stored.TheVariants as stored
use Rattle.tv_hart.specs.Effect.{effect_of, csr_value}
use Rattle.tv_hart.specs.Hart.{Outcome, stepped, interrupted, fetched, row, carried, after_load, after_store, after_number, after_conditional, after_csr_read, after_csr_write}
use Rattle.tv_hart.specs.HartState.{HartState}
use Rattle.tv_hart.specs.Operation.{operation_of}
use Rattle.tv_intc.specs.declared.ending.Finish.{Finish}
use Rattle.tv_items.specs.declared.item.Item.TheVariants as item
use Rattle.tv_isa.specs.declared.AmoOp.{AmoOp}
use Rattle.tv_isa.specs.declared.Instr.{Instr}
use Rattle.tv_isa.specs.Table.{reading}
use Rattle.tv_ram.specs.Memory.{loaded as number_in}
use Rattle.tv_proxy.specs.Messages.{item_of as item_by}
use Rattle.tv_side.specs.Sides.{IsInPlace}
use Rattle.tv_spec.specs.declared.Closed.{Closed}
use Rattle.tv_spec.specs.declared.Shown.{Shown}
use Rattle.tv_spec.specs.declared.Shown.TheVariants as shown
use Rattle.tv_spec.specs.Devices.{item_of}
use Rattle.tv_spec.specs.Local.{local_meaning, local_ranges, device_ranges, load_from, store_to, target_at, finish_by, after_finish, after_amo, after_reserve, after_conditional as conditional_at}
use Rattle.tv_spec.specs.Reach.{Reach, is_closed}
use Rattle.tv_spec.specs.Reservations.{is_reserved, reserved_by}
use Rattle.tv_spec.proofs.Memory.{ArePlaced}
use Rattle.tv_spec.proofs.Opened.{opened}
use Rattle.tv_trap.specs.CsrState.{CsrState}
use Rattle.tv_trap.specs.Registers.{csr_read, csr_write}
use Rattle.tv_trap.specs.Traps.{pending_interrupt}
use Rattle.tv_wire.specs.Spelling.{is_place}

-- 1. What is said of an event, and of an access

abbrev pub is_full : Did → Bool
is_full did.Full = true
is_full _ = false

abbrev is_load_full : Loaded → Bool
is_load_full loaded.Full = true
is_load_full _ = false

abbrev is_store_full : Stored → Bool
is_store_full stored.Full = true
is_store_full _ = false

-- what an event shows needs what is closed
abbrev pub is_gated : Closed → Shown → Bool
is_gated closed (shown.Byte byte) = closed.debug
is_gated closed (shown.Access d (access.Load width off)) = is_closed closed.loads d
is_gated closed (shown.Access d (access.Store width off value)) = is_closed closed.stores d
is_gated closed _ = false

-- an access lies in the registers of its device, and its item is the same where its value is cut to its width
abbrev pub IsShownInPlace : Shown → Type 0
IsShownInPlace (shown.Access d how) = IsInPlace how × (item_by how ≡ item_of how)
IsShownInPlace _ = Unit {0}

abbrev pub Gated : Closed → Bool → Shown → Type 0
Gated closed full seen = (full ≡ is_gated closed seen) × IsShownInPlace seen

quiet_gated : (closed : Closed) (seen : Shown) → seen ≡ shown.Nothing → Gated closed false seen
quiet_gated closed seen quiet = rw quiet (refl, tt)

moved : (closed : Closed) (full other : Bool) (place later : Reach) → other ≡ full → later ≡ place → Gated closed full place.shown → Gated closed other later.shown
moved closed full other place later same there g = rw (same, there) g

-- 2. Where an access leads

abbrev IsAimedAt : Width → Target → ℕ → Type 0
IsAimedAt width (target.Device slot) off = IsTrue (is_place width off)
IsAimedAt width _ off = Unit {0}

abbrev IsAimed : Width → Option (Target × ℕ) → Type 0
IsAimed width None = Unit {0}
IsAimed width (Some (where_, off)) = IsAimedAt width where_ off

both_true : (a b : Bool) → a ≡ true → b ≡ true → IsTrue (a && b)
both_true a b first second = rw (first, second) refl

is_placed : (width : Width) (off : ℕ) → off % width_bytes width ≡ 0 → off + width_bytes width ≤ 4096 → IsTrue (is_place width off)
is_placed width off aligned within = both_true _ _ (rw aligned refl) (le-leb _ _ within)

aimed_here : (width : Width) (addr slot : ℕ) → addr % width_bytes width ≡ 0 → holds (record { base = 0x1000_1000 + 0x1000 * slot; len = 0x1000; target = target.Device slot }) addr (width_bytes width) ≡ true
    → IsTrue (is_place width (addr - (0x1000_1000 + 0x1000 * slot)))
aimed_here B1 addr slot aligned held =
    let low : 0x1000_1000 + 0x1000 * slot ≤ addr = grind (arith, nat_tests) in
    let high : addr - (0x1000_1000 + 0x1000 * slot) + 1 ≤ 4096 = grind (arith, nat_tests) in
    is_placed B1 (addr - (0x1000_1000 + 0x1000 * slot)) (omega (arith, low, aligned)) high
aimed_here B2 addr slot aligned held =
    let low : 0x1000_1000 + 0x1000 * slot ≤ addr = grind (arith, nat_tests) in
    let high : addr - (0x1000_1000 + 0x1000 * slot) + 2 ≤ 4096 = grind (arith, nat_tests) in
    is_placed B2 (addr - (0x1000_1000 + 0x1000 * slot)) (omega (arith, low, aligned)) high
aimed_here B4 addr slot aligned held =
    let low : 0x1000_1000 + 0x1000 * slot ≤ addr = grind (arith, nat_tests) in
    let high : addr - (0x1000_1000 + 0x1000 * slot) + 4 ≤ 4096 = grind (arith, nat_tests) in
    is_placed B4 (addr - (0x1000_1000 + 0x1000 * slot)) (omega (arith, low, aligned)) high
aimed_here B8 addr slot aligned held =
    let low : 0x1000_1000 + 0x1000 * slot ≤ addr = grind (arith, nat_tests) in
    let high : addr - (0x1000_1000 + 0x1000 * slot) + 8 ≤ 4096 = grind (arith, nat_tests) in
    is_placed B8 (addr - (0x1000_1000 + 0x1000 * slot)) (omega (arith, low, aligned)) high

placed_both : (Placed : Target → ℕ → Type 0) (addr n : ℕ) (rs more : List Range) → ArePlaced Placed addr n rs → ArePlaced Placed addr n more → ArePlaced Placed addr n (rs ++ more)
placed_both Placed addr n [] more front back = back
placed_both Placed addr n (r ∷ rs) more front back = (front.0, placed_both Placed addr n rs more front.1 back)

aimed_devices : (width : Width) (addr k : ℕ) → addr % width_bytes width ≡ 0 → ArePlaced (IsAimedAt width) addr (width_bytes width) (device_ranges k)
aimed_devices width addr zero aligned = tt
aimed_devices width addr (suc k) aligned =
    placed_both (IsAimedAt width) addr (width_bytes width) (device_ranges k) _ (aimed_devices width addr k aligned)
    ((λ held. aimed_here width addr k aligned held), tt)

aimed_local : (width : Width) (addr ram devices : ℕ) → addr % width_bytes width ≡ 0 → ArePlaced (IsAimedAt width) addr (width_bytes width) (local_ranges ram devices)
aimed_local width addr ram devices aligned =
    ((λ _. tt), ((λ _. tt), ((λ _. tt), ((λ _. tt), ((λ _. tt), aimed_devices width addr devices aligned)))))

aimed_in : (width : Width) (addr n : ℕ) (rs : List Range) → ArePlaced (IsAimedAt width) addr n rs → IsAimed width (range_at rs addr n)
aimed_in width addr n [] each = tt
aimed_in width addr n (r ∷ rs) each = by_holds (aimed_in width addr n rs each.1) (holds r addr n) refl
  where
    by_holds : IsAimed width (range_at rs addr n) → (b : Bool) → holds r addr n ≡ b
        → IsAimed width (if b then Some (r.target, addr - r.base) else range_at rs addr n)
    by_holds rest true e = each.0 e
    by_holds rest false e = rest

aimed_at : (p : Reach) (width : Width) (addr : ℕ) → addr % width_bytes width ≡ 0 → IsAimed width (target_at p addr (width_bytes width))
aimed_at p width addr aligned =
    aimed_in width addr (width_bytes width) (local_ranges (length p.local.ram) p.local.devices) (aimed_local width addr (length p.local.ram) p.local.devices aligned)

-- 3. Accesses

load_gated : (p : Reach) (width : Width) (addr : ℕ) (place : Option (Target × ℕ)) → p.shown ≡ shown.Nothing → IsAimed width place
    → Gated p.closed (is_load_full (load_from p width addr place).0) (load_from (opened p) width addr place).1.shown
load_gated p width addr None quiet aimed = quiet_gated p.closed p.shown quiet
load_gated p width addr (Some (target.Ram, off)) quiet aimed = quiet_gated p.closed p.shown quiet
load_gated p width addr (Some (target.Finisher, off)) quiet aimed = quiet_gated p.closed p.shown quiet
load_gated p width addr (Some (target.Timer, off)) quiet aimed = quiet_gated p.closed p.shown quiet
load_gated p width addr (Some (target.Intc, off)) quiet aimed = quiet_gated p.closed p.shown quiet
load_gated p width addr (Some (target.Debug, off)) quiet aimed = quiet_gated p.closed p.shown quiet
load_gated p width addr (Some (target.Device slot, off)) quiet aimed = by_closed (is_closed p.closed.loads slot) refl
  where
    by_closed : (b : Bool) → is_closed p.closed.loads slot ≡ b
        → Gated p.closed (is_load_full (load_from p width addr (Some (target.Device slot, off))).0) (shown.Access slot (access.Load width off))
    by_closed true e = (rw e refl, (aimed, refl))
    by_closed false e = (rw e refl, (aimed, refl))

cut_twice : (width : Width) (value : ℕ) → value % 256 ^ width_bytes width % 256 ^ width_bytes width ≡ value % 256 ^ width_bytes width
cut_twice B1 value = omega arith
cut_twice B2 value = omega arith
cut_twice B4 value = omega arith
cut_twice B8 value = omega arith

store_gated : (p : Reach) (hart : ℕ) (width : Width) (addr value : ℕ) (place : Option (Target × ℕ)) → p.shown ≡ shown.Nothing → IsAimed width place
    → Gated p.closed (is_store_full (store_to p hart width addr value place).0) (store_to (opened p) hart width addr value place).1.shown
store_gated p hart width addr value None quiet aimed = quiet_gated p.closed p.shown quiet
store_gated p hart width addr value (Some (target.Ram, off)) quiet aimed = quiet_gated p.closed p.shown quiet
store_gated p hart width addr value (Some (target.Finisher, off)) quiet aimed = by_finish (finish_by width value)
  where
    by_finish : (f : Option Finish) → Gated p.closed false (after_finish (opened p) f).shown
    by_finish None = quiet_gated p.closed p.shown quiet
    by_finish (Some finish) = (refl, tt)
store_gated p hart width addr value (Some (target.Timer, off)) quiet aimed = quiet_gated p.closed p.shown quiet
store_gated p hart width addr value (Some (target.Intc, off)) quiet aimed = quiet_gated p.closed p.shown quiet
store_gated p hart width addr value (Some (target.Debug, off)) quiet aimed = by_closed p.closed.debug refl
  where
    by_closed : (b : Bool) → p.closed.debug ≡ b
        → Gated p.closed (is_store_full (store_to p hart width addr value (Some (target.Debug, off))).0) (store_to (opened p) hart width addr value (Some (target.Debug, off))).1.shown
    by_closed true e = (rw e refl, tt)
    by_closed false e = (rw e refl, tt)
store_gated p hart width addr value (Some (target.Device slot, off)) quiet aimed = by_closed (is_closed p.closed.stores slot) refl
  where
    by_closed : (b : Bool) → is_closed p.closed.stores slot ≡ b
        → Gated p.closed (is_store_full (store_to p hart width addr value (Some (target.Device slot, off))).0) (store_to (opened p) hart width addr value (Some (target.Device slot, off))).1.shown
    by_closed true e = (rw e refl, (aimed, ap (λ (n : ℕ). item.Store width off n) (cut_twice width value)))
    by_closed false e = (rw e refl, (aimed, ap (λ (n : ℕ). item.Store width off n) (cut_twice width value)))

-- 4. What an instruction makes of the answer to its access

full_of_load : (hart : HartState) (width : Width) (extension : Extension) (rd addr : ℕ) (r : Loaded × Reach) → is_full (after_load hart width extension rd addr r).0 ≡ is_load_full r.0
full_of_load hart width extension rd addr (loaded.Value n, p) = refl
full_of_load hart width extension rd addr (loaded.Held, p) = refl
full_of_load hart width extension rd addr (loaded.Full, p) = refl
full_of_load hart width extension rd addr (loaded.Nothing, p) = refl

place_of_load : (hart : HartState) (width : Width) (extension : Extension) (rd addr : ℕ) (r : Loaded × Reach) → (after_load hart width extension rd addr r).2 ≡ r.1
place_of_load hart width extension rd addr (loaded.Value n, p) = refl
place_of_load hart width extension rd addr (loaded.Held, p) = refl
place_of_load hart width extension rd addr (loaded.Full, p) = refl
place_of_load hart width extension rd addr (loaded.Nothing, p) = refl

full_of_store : (hart : HartState) (addr : ℕ) (r : Stored × Reach) → is_full (after_store hart addr r).0 ≡ is_store_full r.0
full_of_store hart addr (stored.Done, p) = refl
full_of_store hart addr (stored.Full, p) = refl
full_of_store hart addr (stored.Nothing, p) = refl

place_of_store : (hart : HartState) (addr : ℕ) (r : Stored × Reach) → (after_store hart addr r).2 ≡ r.1
place_of_store hart addr (stored.Done, p) = refl
place_of_store hart addr (stored.Full, p) = refl
place_of_store hart addr (stored.Nothing, p) = refl

number_gated : (closed : Closed) (hart : HartState) (cause : ℕ) (width : Width) (rd addr : ℕ) (r q : Option ℕ × Reach) → q.1.shown ≡ shown.Nothing
    → Gated closed (is_full (after_number hart cause width rd addr r).0) (after_number hart cause width rd addr q).2.shown
number_gated closed hart cause width rd addr (None, p) (None, o) quiet = quiet_gated closed o.shown quiet
number_gated closed hart cause width rd addr (None, p) (Some m, o) quiet = quiet_gated closed o.shown quiet
number_gated closed hart cause width rd addr (Some n, p) (None, o) quiet = quiet_gated closed o.shown quiet
number_gated closed hart cause width rd addr (Some n, p) (Some m, o) quiet = quiet_gated closed o.shown quiet

stored_gated : (closed : Closed) (hart : HartState) (rd addr : ℕ) (r q : Option Bool × Reach) → q.1.shown ≡ shown.Nothing
    → Gated closed (is_full (after_conditional hart rd addr r).0) (after_conditional hart rd addr q).2.shown
stored_gated closed hart rd addr (None, p) (None, o) quiet = quiet_gated closed o.shown quiet
stored_gated closed hart rd addr (None, p) (Some m, o) quiet = quiet_gated closed o.shown quiet
stored_gated closed hart rd addr (Some n, p) (None, o) quiet = quiet_gated closed o.shown quiet
stored_gated closed hart rd addr (Some n, p) (Some m, o) quiet = quiet_gated closed o.shown quiet

amo_quiet : (p : Reach) (hart : ℕ) (width : Width) (addr : ℕ) (op : AmoOp) (value : ℕ) (found : Option ℕ) → p.shown ≡ shown.Nothing → (after_amo p hart width addr op value found).1.shown ≡ shown.Nothing
amo_quiet p hart width addr op value None quiet = quiet
amo_quiet p hart width addr op value (Some old) quiet = quiet

reserve_quiet : (p : Reach) (hart addr : ℕ) (found : Option ℕ) → p.shown ≡ shown.Nothing → (after_reserve p hart addr found).1.shown ≡ shown.Nothing
reserve_quiet p hart addr None quiet = quiet
reserve_quiet p hart addr (Some value) quiet = quiet

conditional_quiet : (p : Reach) (hart : ℕ) (width : Width) (addr value : ℕ) (found : Option ℕ) → p.shown ≡ shown.Nothing → (conditional_at p hart width addr value found).1.shown ≡ shown.Nothing
conditional_quiet p hart width addr value None quiet = quiet
conditional_quiet p hart width addr value (Some old) quiet = by_reserved (is_reserved (reserved_by p.local.reservations hart) addr) refl
  where
    by_reserved : (b : Bool) → is_reserved (reserved_by p.local.reservations hart) addr ≡ b → (conditional_at p hart width addr value (Some old)).1.shown ≡ shown.Nothing
    by_reserved true e = rw e quiet
    by_reserved false e = rw e quiet

-- 5. Effects, and events

either_gated : (closed : Closed) (b : Bool) (one other near far : Outcome Reach) → (b ≡ true → Gated closed (is_full one.0) near.2.shown) → Gated closed (is_full other.0) far.2.shown
    → Gated closed (is_full (if b then one else other).0) (if b then near else far).2.shown
either_gated closed true one other near far first second = first refl
either_gated closed false one other near far first second = second

same_number : (a b : ℕ) → (a == b) ≡ true → a ≡ b
same_number a b is = elim (eqb_tells a b) [ inl e ↦ e.1 | inr e ↦ absurd (true≢false (sym is ∙ e.0)) ]

csr_write_gated : (hart : HartState) (p : Reach) (word rd csr old : ℕ) (csrs : Option CsrState) → p.shown ≡ shown.Nothing
    → Gated p.closed (is_full (after_csr_write hart p word rd csr old csrs).0) (after_csr_write hart (opened p) word rd csr old csrs).2.shown
csr_write_gated hart p word rd csr old None quiet = quiet_gated p.closed p.shown quiet
csr_write_gated hart p word rd csr old (Some csrs) quiet = quiet_gated p.closed p.shown quiet

csr_gated : (hart : HartState) (p : Reach) (word : ℕ) (op : CsrOp) (rd csr operand : ℕ) (writes : Bool) (old : Option ℕ) → p.shown ≡ shown.Nothing
    → Gated p.closed (is_full (after_csr_read hart p word op rd csr operand writes old).0) (after_csr_read hart (opened p) word op rd csr operand writes old).2.shown
csr_gated hart p word op rd csr operand writes None quiet = quiet_gated p.closed p.shown quiet
csr_gated hart p word op rd csr operand writes (Some old) quiet =
    either_gated p.closed writes _ _ _ _ (λ _. csr_write_gated hart p word rd csr old (csr_write hart.csrs csr (csr_value op old operand)) quiet) (quiet_gated p.closed p.shown quiet)

carried_gated : (hart : HartState) (p : Reach) (lines word : ℕ) (e : Effect) → p.shown ≡ shown.Nothing
    → Gated p.closed (is_full (carried local_meaning hart p lines word e).0) (carried local_meaning hart (opened p) lines word e).2.shown
carried_gated hart p lines word (effect.Put rd value) quiet = quiet_gated p.closed p.shown quiet
carried_gated hart p lines word (effect.Jump rd target) quiet =
    either_gated p.closed (target % 4 == 0) _ _ _ _ (λ _. quiet_gated p.closed p.shown quiet) (quiet_gated p.closed p.shown quiet)
carried_gated hart p lines word (effect.Goto target) quiet =
    either_gated p.closed (target % 4 == 0) _ _ _ _ (λ _. quiet_gated p.closed p.shown quiet) (quiet_gated p.closed p.shown quiet)
carried_gated hart p lines word (effect.Load width extension rd addr) quiet =
    let place : Option (Target × ℕ) = target_at p addr (width_bytes width) in
    let r : Loaded × Reach = load_from p width addr place in
    let q : Loaded × Reach = load_from (opened p) width addr place in
    either_gated p.closed (addr % width_bytes width == 0) _ _ _ _
    (λ aligned. moved p.closed (is_load_full r.0) _ q.1 _ (full_of_load hart width extension rd addr r) (place_of_load hart width extension rd addr q)
    (load_gated p width addr place quiet (aimed_at p width addr (same_number _ _ aligned))))
    (quiet_gated p.closed p.shown quiet)
carried_gated hart p lines word (effect.Store width addr value) quiet =
    let place : Option (Target × ℕ) = target_at p addr (width_bytes width) in
    let r : Stored × Reach = store_to p hart.csrs.hart width addr value place in
    let q : Stored × Reach = store_to (opened p) hart.csrs.hart width addr value place in
    either_gated p.closed (addr % width_bytes width == 0) _ _ _ _
    (λ aligned. moved p.closed (is_store_full r.0) _ q.1 _ (full_of_store hart addr r) (place_of_store hart addr q)
    (store_gated p hart.csrs.hart width addr value place quiet (aimed_at p width addr (same_number _ _ aligned))))
    (quiet_gated p.closed p.shown quiet)
carried_gated hart p lines word (effect.Reserve width rd addr) quiet =
    let found : Option ℕ = number_in p.local.ram addr (width_bytes width) in
    either_gated p.closed (addr % width_bytes width == 0) _ _ _ _
    (λ _. number_gated p.closed hart 5 width rd addr (after_reserve p hart.csrs.hart addr found) (after_reserve (opened p) hart.csrs.hart addr found)
    (reserve_quiet (opened p) hart.csrs.hart addr found quiet))
    (quiet_gated p.closed p.shown quiet)
carried_gated hart p lines word (effect.Conditional width rd addr value) quiet =
    let found : Option ℕ = number_in p.local.ram addr (width_bytes width) in
    either_gated p.closed (addr % width_bytes width == 0) _ _ _ _
    (λ _. stored_gated p.closed hart rd addr (conditional_at p hart.csrs.hart width addr value found) (conditional_at (opened p) hart.csrs.hart width addr value found)
    (conditional_quiet (opened p) hart.csrs.hart width addr value found quiet))
    (quiet_gated p.closed p.shown quiet)
carried_gated hart p lines word (effect.Amo op width rd addr value) quiet =
    let found : Option ℕ = number_in p.local.ram addr (width_bytes width) in
    either_gated p.closed (addr % width_bytes width == 0) _ _ _ _
    (λ _. number_gated p.closed hart 7 width rd addr (after_amo p hart.csrs.hart width addr op value found) (after_amo (opened p) hart.csrs.hart width addr op value found)
    (amo_quiet (opened p) hart.csrs.hart width addr op value found quiet))
    (quiet_gated p.closed p.shown quiet)
carried_gated hart p lines word (effect.Csr op rd csr operand writes) quiet =
    csr_gated hart p word op rd csr operand writes (csr_read hart.csrs csr lines) quiet
carried_gated hart p lines word (effect.Trap cause) quiet = quiet_gated p.closed p.shown quiet
carried_gated hart p lines word effect.Return quiet = quiet_gated p.closed p.shown quiet
carried_gated hart p lines word effect.Pass quiet = quiet_gated p.closed p.shown quiet

row_gated : (hart : HartState) (p : Reach) (lines word : ℕ) (instr : Option Instr) → p.shown ≡ shown.Nothing
    → Gated p.closed (is_full (row local_meaning hart p lines word instr).0) (row local_meaning hart (opened p) lines word instr).2.shown
row_gated hart p lines word None quiet = quiet_gated p.closed p.shown quiet
row_gated hart p lines word (Some instr) quiet = carried_gated hart p lines word (effect_of (operation_of instr) hart.registers hart.pc) quiet

fetched_gated : (hart : HartState) (p : Reach) (lines : ℕ) (word : Option ℕ) → p.shown ≡ shown.Nothing
    → Gated p.closed (is_full (fetched local_meaning hart p lines word).0) (fetched local_meaning hart (opened p) lines word).2.shown
fetched_gated hart p lines None quiet = quiet_gated p.closed p.shown quiet
fetched_gated hart p lines (Some word) quiet = row_gated hart p lines word (reading word) quiet

interrupted_gated : (hart : HartState) (p : Reach) (lines : ℕ) (cause : Option ℕ) → p.shown ≡ shown.Nothing
    → Gated p.closed (is_full (interrupted local_meaning hart p lines cause).0) (interrupted local_meaning hart (opened p) lines cause).2.shown
interrupted_gated hart p lines None quiet = fetched_gated hart p lines (local_meaning.fetch p hart.pc) quiet
interrupted_gated hart p lines (Some cause) quiet = quiet_gated p.closed p.shown quiet

-- an event is Full exactly where what it shows with all open is closed
pub stepped_gated : (hart : HartState) (p : Reach) (lines : ℕ) → p.shown ≡ shown.Nothing
    → Gated p.closed (is_full (stepped local_meaning hart p lines).0) (stepped local_meaning hart (opened p) lines).2.shown
stepped_gated hart p lines quiet = interrupted_gated hart p lines (pending_interrupt hart.csrs lines) quiet
