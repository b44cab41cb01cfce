-- Where an access past memory leads.
use Rattle.std.proofs.Common.{◌≡◌, ◌≢◌, ℕ, ◌<◌, ◌≤◌, ◌^◌, List, ◌++◌, Option, Some, refl, ap, sym, ◌∙◌, arith}
use Rattle.tv_base.specs.declared.Width.{Width}
use Rattle.tv_base.specs.declared.Width.TheVariants.{B1, B2, B4, B8}
use Rattle.tv_base.specs.Width.{width_bytes}
use Rattle.tv_bus.specs.declared.ranges.Range.{Range}
use Rattle.tv_bus.specs.declared.Target.{Target}
use Rattle.tv_bus.specs.declared.Target.TheVariants as target
use Rattle.tv_bus.specs.Ranges.{range_at}
use Rattle.tv_hart.specs.declared.place.Loaded.{Loaded}
use Rattle.tv_hart.specs.declared.place.Stored.{Stored}
use Rattle.tv_spec.specs.Local.{device_ranges, load_from, port_ranges, store_to}
use Rattle.tv_spec.specs.Reach.{Reach}
use Rattle.tv_spec.proofs.Memory.{device_found, port_found}

some_bytes : (width : Width) → 1 ≤ width_bytes width
some_bytes B1 = omega arith
some_bytes B2 = omega arith
some_bytes B4 = omega arith
some_bytes B8 = omega arith

-- an offset in a device's registers is below 2^16
pub offset_fits : (bus : List Range) (devices addr : ℕ) (width : Width) (place : Target) (off : ℕ) → bus ≡ port_ranges ++ device_ranges devices
    → Some (place, off) ≡ range_at bus addr (width_bytes width) → (slot : ℕ) → place ≡ target.Device slot → off < 2 ^ 16
offset_fits bus devices addr width place off bus_is found slot is =
    let at : Some (target.Device slot, off) ≡ range_at (port_ranges ++ device_ranges devices) addr (width_bytes width) =
    ap (λ (t : Target). let r : Option (Target × ℕ) = Some (t, off) in r) (sym is) ∙ found ∙ ap (λ (rs : List Range). range_at rs addr (width_bytes width)) bus_is in
    let within = (device_found devices addr (width_bytes width) slot off at).1 in
    omega (arith, within)

-- no port is memory
pub not_memory : (bus : List Range) (devices addr : ℕ) (width : Width) (place : Target) (off : ℕ) → bus ≡ port_ranges ++ device_ranges devices
    → Some (place, off) ≡ range_at bus addr (width_bytes width) → place ≢ target.Ram
not_memory bus devices addr width place off bus_is found is =
    port_found devices addr (width_bytes width) off (some_bytes width)
    (ap (λ (t : Target). let r : Option (Target × ℕ) = Some (t, off) in r) (sym is) ∙ found ∙ ap (λ (rs : List Range). range_at rs addr (width_bytes width)) bus_is)

-- past memory an access is known by its target and offset
load_same : (p : Reach) (width : Width) (addr : ℕ) (place : Target) (off : ℕ) → place ≢ target.Ram → load_from p width 0 (Some (place, off)) ≡ load_from p width addr (Some (place, off))
load_same p width addr target.Ram off past = absurd (past refl)
load_same p width addr target.Finisher off past = refl
load_same p width addr target.Timer off past = refl
load_same p width addr target.Intc off past = refl
load_same p width addr target.Debug off past = refl
load_same p width addr (target.Device slot) off past = refl

store_same : (p : Reach) (hart : ℕ) (width : Width) (addr value : ℕ) (place : Target) (off : ℕ) → place ≢ target.Ram
    → store_to p 0 width 0 value (Some (place, off)) ≡ store_to p hart width addr value (Some (place, off))
store_same p hart width addr value target.Ram off past = absurd (past refl)
store_same p hart width addr value target.Finisher off past = refl
store_same p hart width addr value target.Timer off past = refl
store_same p hart width addr value target.Intc off past = refl
store_same p hart width addr value target.Debug off past = refl
store_same p hart width addr value (target.Device slot) off past = refl

pub port_loaded : (p q : Reach) (answer : Loaded) (width : Width) (addr : ℕ) (bus : List Range) (place : Target) (off : ℕ) → bus ≡ port_ranges ++ device_ranges p.local.devices
    → Some (place, off) ≡ range_at bus addr (width_bytes width) → ◌≡◌ {A = Loaded × Reach} (answer, q) (load_from p width 0 (Some (place, off)))
    → ◌≡◌ {A = Loaded × Reach} (answer, q) (load_from p width addr (range_at (port_ranges ++ device_ranges p.local.devices) addr (width_bytes width)))
port_loaded p q answer width addr bus place off bus_is found is =
    is ∙ load_same p width addr place off (not_memory bus p.local.devices addr width place off bus_is found)
    ∙ ap (load_from p width addr) (found ∙ ap (λ (rs : List Range). range_at rs addr (width_bytes width)) bus_is)

pub port_stored : (p q : Reach) (answer : Stored) (hart : ℕ) (width : Width) (addr value : ℕ) (bus : List Range) (place : Target) (off : ℕ) → bus ≡ port_ranges ++ device_ranges p.local.devices
    → Some (place, off) ≡ range_at bus addr (width_bytes width) → ◌≡◌ {A = Stored × Reach} (answer, q) (store_to p 0 width 0 value (Some (place, off)))
    → ◌≡◌ {A = Stored × Reach} (answer, q) (store_to p hart width addr value (range_at (port_ranges ++ device_ranges p.local.devices) addr (width_bytes width)))
port_stored p q answer hart width addr value bus place off bus_is found is =
    is ∙ store_same p hart width addr value place off (not_memory bus p.local.devices addr width place off bus_is found)
    ∙ ap (store_to p hart width addr value) (found ∙ ap (λ (rs : List Range). range_at rs addr (width_bytes width)) bus_is)
