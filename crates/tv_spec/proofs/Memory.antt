-- What a hart's event leaves of its place: memory is as long as before, and so many devices are there; and an access that it shows
-- is to one of them.
use Rattle.std.proofs.Common.{◌≡◌, ℕ, zero, suc, ◌+◌, ◌-◌, ◌%◌, ◌^◌, ◌<◌, ◌≤◌, Bool, true, false, if◌then◌else◌, List, [], ◌∷◌, ◌++◌, length, take, Option, Some, None, refl, sym, ◌∙◌, subst, arith, length-append}
use Rattle.std.proofs.lemmas.Bool.Decides.{nat_tests}
use Rattle.std.proofs.lemmas.List.{length-take-le, length-drop}
use Rattle.byteorder.specs.Endian.{little_bytes}
use Rattle.byteorder.specs.Numbers.{length-bytes_low_first}
use Rattle.tv_base.specs.declared.Width.{Width}
use Rattle.tv_base.specs.declared.Width.TheVariants.{B1, B2, B4, B8}
use Rattle.tv_base.specs.Width.{width_bytes}
use Rattle.tv_bus.specs.declared.ranges.Range.{Range}
use Rattle.tv_bus.specs.declared.Target.{Target}
use Rattle.tv_bus.specs.declared.Target.TheVariants as target
use Rattle.tv_bus.specs.Ranges.{holds, range_at}
use Rattle.tv_hart.specs.declared.place.Stored.{Stored}
use Rattle.tv_hart.specs.declared.place.Stored.TheVariants as stored
use Rattle.tv_hart.specs.Hart.{stepped}
use Rattle.tv_hart.specs.HartState.{HartState}
use Rattle.tv_intc.specs.declared.ending.Finish.{Finish}
use Rattle.tv_isa.specs.declared.AmoOp.{AmoOp}
use Rattle.tv_ram.specs.Memory.{is_inside, loaded as number_in, ram_base, ram_offset, with_bytes, with_number}
use Rattle.tv_spec.specs.declared.Closed.{Closed}
use Rattle.tv_spec.specs.declared.Shown.{Shown}
use Rattle.tv_spec.specs.declared.Shown.TheVariants as shown
use Rattle.tv_spec.specs.Local.{local_meaning, local_ranges, port_ranges, device_ranges, load_from, store_to, target_at, finish_by, after_finish, after_amo, after_reserve, after_conditional}
use Rattle.tv_spec.specs.Reach.{Reach, is_closed}
use Rattle.tv_spec.specs.Reservations.{is_reserved, reserved_by}
use Rattle.tv_spec.proofs.Places.{Keeps, kept_step}

-- 1. Writes

-- bytes that lie in memory replace as many
pub bytes_kept : (ram : List ℕ) (addr : ℕ) (bytes : List ℕ) → ram_base ≤ addr → addr + length bytes ≤ ram_base + length ram
    → length (with_bytes ram addr bytes) ≡ length ram
bytes_kept ram addr bytes low high =
    let before : length (take (ram_offset addr) ram) ≡ ram_offset addr = length-take-le (ram_offset addr) ram (omega arith) in
    rw (length-append, before, length-append, length-drop, length-drop) (omega arith)

number_kept : (ram : List ℕ) (addr n value : ℕ) → ram_base ≤ addr → addr + n ≤ ram_base + length ram
    → length (with_number ram addr n value) ≡ length ram
number_kept ram addr n value low high =
    let count : length (little_bytes n (value % 256 ^ n)) ≡ n = length-bytes_low_first 0 n (value % 256 ^ n) in
    bytes_kept ram addr (little_bytes n (value % 256 ^ n)) low (rw count high)

-- an access that lies in memory
within_memory : (bytes addr : ℕ) (width : Width) → is_inside bytes addr (width_bytes width) ≡ true
    → (ram_base ≤ addr) × (addr + width_bytes width ≤ ram_base + bytes)
within_memory bytes addr B1 h = (grind (arith, nat_tests), grind (arith, nat_tests))
within_memory bytes addr B2 h = (grind (arith, nat_tests), grind (arith, nat_tests))
within_memory bytes addr B4 h = (grind (arith, nat_tests), grind (arith, nat_tests))
within_memory bytes addr B8 h = (grind (arith, nat_tests), grind (arith, nat_tests))

-- 2. Where an access leads

-- what a target with an offset says of the n bytes from an address on
abbrev pub IsPlaced : ℕ → ℕ → ℕ → ℕ → Target → ℕ → Type 0
IsPlaced bytes devices addr n target.Ram off = (ram_base ≤ addr) × (addr + n ≤ ram_base + bytes)
IsPlaced bytes devices addr n (target.Device slot) off = (slot < devices) × (off + n ≤ 0x1000)
IsPlaced bytes devices addr n _ off = Unit {0}

-- each range that holds them says so
abbrev pub ArePlaced : (Target → ℕ → Type 0) → ℕ → ℕ → List Range → Type 0
ArePlaced Placed addr n [] = Unit {0}
ArePlaced Placed addr n (r ∷ rs) = (holds r addr n ≡ true → Placed r.target (addr - r.base)) × ArePlaced Placed addr n rs

placed_both : (Placed : Target → ℕ → Type 0) (addr n : ℕ) (rs more : List Range) → ArePlaced Placed addr n rs → ArePlaced Placed addr n more → ArePlaced Placed addr n (rs ++ more)
placed_both Placed addr n [] more front back = back
placed_both Placed addr n (r ∷ rs) more front back = (front.0, placed_both Placed addr n rs more front.1 back)

placed_devices : (bytes devices addr n k : ℕ) → k ≤ devices → ArePlaced (IsPlaced bytes devices addr n) addr n (device_ranges k)
placed_devices bytes devices addr n zero h = tt
placed_devices bytes devices addr n (suc k) h =
    placed_both (IsPlaced bytes devices addr n) addr n (device_ranges k) _ (placed_devices bytes devices addr n k (omega arith))
    ((λ held. (omega arith, grind (arith, nat_tests))), tt)

placed_ports : (bytes devices addr n : ℕ) → ArePlaced (IsPlaced bytes devices addr n) addr n (port_ranges ++ device_ranges devices)
placed_ports bytes devices addr n =
    ((λ _. tt), ((λ _. tt), ((λ _. tt), ((λ _. tt), placed_devices bytes devices addr n devices (omega arith)))))

placed_local : (bytes devices addr n : ℕ) → ArePlaced (IsPlaced bytes devices addr n) addr n (local_ranges bytes devices)
placed_local bytes devices addr n = ((λ h. (grind (arith, nat_tests), grind (arith, nat_tests))), placed_ports bytes devices addr n)

abbrev pub IsFound : ℕ → ℕ → ℕ → ℕ → Option (Target × ℕ) → Type 0
IsFound bytes devices addr n None = Unit {0}
IsFound bytes devices addr n (Some (where_, off)) = IsPlaced bytes devices addr n where_ off

found_in : (bytes devices addr n : ℕ) (rs : List Range) → ArePlaced (IsPlaced bytes devices addr n) addr n rs → IsFound bytes devices addr n (range_at rs addr n)
found_in bytes devices addr n [] each = tt
found_in bytes devices addr n (r ∷ rs) each = by_holds (found_in bytes devices addr n rs each.1) (holds r addr n) refl
  where
    by_holds : IsFound bytes devices addr n (range_at rs addr n) → (b : Bool) → holds r addr n ≡ b
        → IsFound bytes devices addr n (if b then Some (r.target, addr - r.base) else range_at rs addr n)
    by_holds rest true e = each.0 e
    by_holds rest false e = rest

pub found_at : (p : Reach) (addr n : ℕ) → IsFound (length p.local.ram) p.local.devices addr n (target_at p addr n)
found_at p addr n = found_in (length p.local.ram) p.local.devices addr n (local_ranges (length p.local.ram) p.local.devices) (placed_local (length p.local.ram) p.local.devices addr n)

-- an access to a device lies in its registers
pub device_found : (devices addr n slot off : ℕ) → Some (target.Device slot, off) ≡ range_at (port_ranges ++ device_ranges devices) addr n → (slot < devices) × (off + n ≤ 0x1000)
device_found devices addr n slot off is =
    subst (IsFound 0 devices addr n) (sym is) (found_in 0 devices addr n (port_ranges ++ device_ranges devices) (placed_ports 0 devices addr n))

-- and none of the ports is memory
pub port_found : (devices addr n off : ℕ) → 1 ≤ n → Some (target.Ram, off) ≡ range_at (port_ranges ++ device_ranges devices) addr n → ⊥
port_found devices addr n off some is =
    let r : IsFound 0 devices addr n (Some (target.Ram, off)) =
    subst (IsFound 0 devices addr n) (sym is) (found_in 0 devices addr n (port_ranges ++ device_ranges devices) (placed_ports 0 devices addr n)) in
    let low : ram_base ≤ addr = r.0 in
    let high : addr + n ≤ ram_base + 0 = r.1 in
    omega (arith, low, high, some)

-- 3. What is kept

-- an access that is shown is to a device that is there
abbrev pub IsToDevice : ℕ → Shown → Type 0
IsToDevice devices (shown.Access slot access) = slot < devices
IsToDevice devices _ = Unit {0}

-- a place with so many bytes of memory and so many devices, where this is closed
pub record IsPlace (bytes devices : ℕ) (closed : Closed) (p : Reach) : Type 0 where
  pub ram : length p.local.ram ≡ bytes
  pub count : p.local.devices ≡ devices
  pub gate : p.closed ≡ closed
  pub seen : IsToDevice devices p.shown

load_kept : (bytes devices : ℕ) (closed : Closed) (p : Reach) (width : Width) (addr : ℕ) (place : Option (Target × ℕ)) → IsFound bytes devices addr (width_bytes width) place → IsPlace bytes devices closed p
    → IsPlace bytes devices closed (load_from p width addr place).1
load_kept bytes devices closed p width addr None found kept = kept
load_kept bytes devices closed p width addr (Some (target.Ram, off)) found kept = kept
load_kept bytes devices closed p width addr (Some (target.Finisher, off)) found kept = kept
load_kept bytes devices closed p width addr (Some (target.Timer, off)) found kept = kept
load_kept bytes devices closed p width addr (Some (target.Intc, off)) found kept = record { ram = kept.ram; count = kept.count; gate = kept.gate; seen = kept.seen }
load_kept bytes devices closed p width addr (Some (target.Debug, off)) found kept = kept
load_kept bytes devices closed p width addr (Some (target.Device slot, off)) found kept = by_closed (is_closed p.closed.loads slot) refl
  where
    by_closed : (b : Bool) → is_closed p.closed.loads slot ≡ b → IsPlace bytes devices closed (load_from p width addr (Some (target.Device slot, off))).1
    by_closed true e = rw e kept
    by_closed false e = rw e (record { ram = kept.ram; count = kept.count; gate = kept.gate; seen = found.0 })

finish_kept : (bytes devices : ℕ) (closed : Closed) (p : Reach) (finish : Option Finish) → IsPlace bytes devices closed p → IsPlace bytes devices closed (after_finish p finish)
finish_kept bytes devices closed p None kept = kept
finish_kept bytes devices closed p (Some finish) kept = record { ram = kept.ram; count = kept.count; gate = kept.gate; seen = tt }

store_kept : (bytes devices : ℕ) (closed : Closed) (p : Reach) (hart : ℕ) (width : Width) (addr value : ℕ) (place : Option (Target × ℕ)) → IsFound bytes devices addr (width_bytes width) place → IsPlace bytes devices closed p
    → IsPlace bytes devices closed (store_to p hart width addr value place).1
store_kept bytes devices closed p hart width addr value None found kept = kept
store_kept bytes devices closed p hart width addr value (Some (target.Ram, off)) found kept =
    record { ram = number_kept p.local.ram addr (width_bytes width) value found.0 (rw kept.ram found.1) ∙ kept.ram; count = kept.count; gate = kept.gate; seen = kept.seen }
store_kept bytes devices closed p hart width addr value (Some (target.Finisher, off)) found kept = finish_kept bytes devices closed p (finish_by width value) kept
store_kept bytes devices closed p hart width addr value (Some (target.Timer, off)) found kept = record { ram = kept.ram; count = kept.count; gate = kept.gate; seen = kept.seen }
store_kept bytes devices closed p hart width addr value (Some (target.Intc, off)) found kept = record { ram = kept.ram; count = kept.count; gate = kept.gate; seen = kept.seen }
store_kept bytes devices closed p hart width addr value (Some (target.Debug, off)) found kept =
    kept_if p.closed.debug (stored.Full, p) (stored.Done, record p { shown = shown.Byte (value % 2 ^ 8) }) kept
    (record { ram = kept.ram; count = kept.count; gate = kept.gate; seen = tt })
  where
    kept_if : (b : Bool) (one other : Stored × Reach) → IsPlace bytes devices closed one.1 → IsPlace bytes devices closed other.1 → IsPlace bytes devices closed (if b then one else other).1
    kept_if true one other first second = first
    kept_if false one other first second = second
store_kept bytes devices closed p hart width addr value (Some (target.Device slot, off)) found kept = by_closed (is_closed p.closed.stores slot) refl
  where
    by_closed : (b : Bool) → is_closed p.closed.stores slot ≡ b → IsPlace bytes devices closed (store_to p hart width addr value (Some (target.Device slot, off))).1
    by_closed true e = rw e kept
    by_closed false e = rw e (record { ram = kept.ram; count = kept.count; gate = kept.gate; seen = found.0 })

-- the number that lies in memory
found_number : (ram : List ℕ) (addr : ℕ) (width : Width) (old : ℕ) → number_in ram addr (width_bytes width) ≡ Some old → is_inside (length ram) addr (width_bytes width) ≡ true
found_number ram addr width old is = by_inside (is_inside (length ram) addr (width_bytes width)) refl
  where
    by_inside : (b : Bool) → is_inside (length ram) addr (width_bytes width) ≡ b → is_inside (length ram) addr (width_bytes width) ≡ true
    by_inside true e = e
    by_inside false e = let r = rw e at is in cc

amo_kept : (bytes devices : ℕ) (closed : Closed) (p : Reach) (hart : ℕ) (width : Width) (addr : ℕ) (op : AmoOp) (value : ℕ) (found : Option ℕ) → number_in p.local.ram addr (width_bytes width) ≡ found
    → IsPlace bytes devices closed p → IsPlace bytes devices closed (after_amo p hart width addr op value found).1
amo_kept bytes devices closed p hart width addr op value None is kept = kept
amo_kept bytes devices closed p hart width addr op value (Some old) is kept =
    let inside = within_memory (length p.local.ram) addr width (found_number p.local.ram addr width old is) in
    record { ram = number_kept p.local.ram addr (width_bytes width) _ inside.0 inside.1 ∙ kept.ram; count = kept.count; gate = kept.gate; seen = kept.seen }

reserve_kept : (bytes devices : ℕ) (closed : Closed) (p : Reach) (hart addr : ℕ) (found : Option ℕ) → IsPlace bytes devices closed p → IsPlace bytes devices closed (after_reserve p hart addr found).1
reserve_kept bytes devices closed p hart addr None kept = kept
reserve_kept bytes devices closed p hart addr (Some value) kept = record { ram = kept.ram; count = kept.count; gate = kept.gate; seen = kept.seen }

conditional_kept : (bytes devices : ℕ) (closed : Closed) (p : Reach) (hart : ℕ) (width : Width) (addr value : ℕ) (found : Option ℕ) → number_in p.local.ram addr (width_bytes width) ≡ found
    → IsPlace bytes devices closed p → IsPlace bytes devices closed (after_conditional p hart width addr value found).1
conditional_kept bytes devices closed p hart width addr value None is kept = kept
conditional_kept bytes devices closed p hart width addr value (Some old) is kept = by_reserved (is_reserved (reserved_by p.local.reservations hart) addr) refl
  where
    by_reserved : (b : Bool) → is_reserved (reserved_by p.local.reservations hart) addr ≡ b → IsPlace bytes devices closed (after_conditional p hart width addr value (Some old)).1
    by_reserved true e =
        let inside = within_memory (length p.local.ram) addr width (found_number p.local.ram addr width old is) in
        rw e (record { ram = number_kept p.local.ram addr (width_bytes width) value inside.0 inside.1 ∙ kept.ram; count = kept.count; gate = kept.gate; seen = kept.seen })
    by_reserved false e = rw e (record { ram = kept.ram; count = kept.count; gate = kept.gate; seen = kept.seen })

keeps_place : (bytes devices : ℕ) (closed : Closed) → Keeps local_meaning (IsPlace bytes devices closed)
keeps_place bytes devices closed = record {
  loads = λ p hart width addr kept.
      load_kept bytes devices closed p width addr (target_at p addr (width_bytes width)) (found p addr (width_bytes width) kept) kept;
  stores = λ p hart width addr value kept.
      store_kept bytes devices closed p hart width addr value (target_at p addr (width_bytes width)) (found p addr (width_bytes width) kept) kept;
  amos = λ p hart width addr op value kept.
      amo_kept bytes devices closed p hart width addr op value (number_in p.local.ram addr (width_bytes width)) refl kept;
  reserves = λ p hart width addr kept. reserve_kept bytes devices closed p hart addr (number_in p.local.ram addr (width_bytes width)) kept;
  conditionals = λ p hart width addr value kept.
      conditional_kept bytes devices closed p hart width addr value (number_in p.local.ram addr (width_bytes width)) refl kept;
}
  where
    found : (p : Reach) (addr n : ℕ) → IsPlace bytes devices closed p → IsFound bytes devices addr n (target_at p addr n)
    found p addr n kept = let r = rw (kept.ram, kept.count) at (found_at p addr n) in rw (kept.ram, kept.count) r

-- an event of a hart
pub place_stepped : (bytes devices : ℕ) (closed : Closed) (hart : HartState) (p : Reach) (lines : ℕ) → IsPlace bytes devices closed p → IsPlace bytes devices closed (stepped local_meaning hart p lines).2
place_stepped bytes devices closed hart p lines kept = kept_step local_meaning (IsPlace bytes devices closed) hart p lines (keeps_place bytes devices closed) kept
