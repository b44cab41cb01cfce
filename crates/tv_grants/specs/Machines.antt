-- The grants that a machine begins with.
use Rattle.std.specs.Prelude.{◌≡◌, ℕ, Bool, false, ◌+◌, if◌then◌else◌, All, List, [], ◌∷◌, length, slice_get, slice_index_or, Option, Some, None}
use Rattle.tv_machine.specs.Capabilities.{Capability, memory, source}
use Rattle.tv_machine.specs.declared.kinds.DeviceSpec.{DeviceSpec}
use Rattle.tv_machine.specs.declared.kinds.MemRange.{MemRange}
use Rattle.tv_machine.specs.declared.machine.Machine.{Machine}
use Rattle.tv_grants.specs.declared.ranges.Grant.{Grant}
use Rattle.tv_grants.specs.Grants.{GrantState, no_grants, owns_source, ranges_of, with_file, with_range, with_source}

-- with these ranges for the device in a slot
abbrev pub with_ranges : ℕ → List MemRange → GrantState → GrantState
with_ranges slot [] s = s
with_ranges slot (range ∷ ranges) s = with_ranges slot ranges (with_range s slot range)

-- with a file, if there is one
abbrev pub with_optional : Option (List ℕ) → GrantState → GrantState
with_optional None s = s
with_optional (Some name) s = with_file s

-- with what a device has: its ranges, its files, its interrupt source
abbrev pub with_device : ℕ → DeviceSpec → GrantState → GrantState
with_device slot d s = if d.irq then with_source filed slot else filed
  where
    filed : GrantState
    filed = with_optional d.input (with_optional d.output (with_optional d.disk (with_ranges slot d.mem s)))

-- with what these devices have, which are in the slots from this one on
abbrev pub with_devices : ℕ → List DeviceSpec → GrantState → GrantState
with_devices slot [] s = s
with_devices slot (d ∷ ds) s = with_devices (slot + 1) ds (with_device slot d s)

-- what the devices of a machine have, in the order of its capability numbers
abbrev pub machine_grants : Machine → GrantState
machine_grants m = with_devices 0 m.device (no_grants m.ram)

-- a range has as its number its place among capabilities
abbrev pub IsAtItsNumber : List Capability → Grant → Type 0
IsAtItsNumber caps grant = slice_get caps grant.cap ≡ Some (memory grant.dev grant.range)

-- each range and each source has as its number its place among capabilities, and as many numbers are taken as there are
-- capabilities
pub record AreNumbered (caps : List Capability) (s : GrantState) : Type 0 where
  pub ranges : All (IsAtItsNumber caps) s.ranges
  pub sources : (slot cap : ℕ) → slice_index_or s.sources slot None ≡ Some cap → slice_get caps cap ≡ Some (source slot)
  pub taken : s.taken ≡ length caps

-- the ranges of a device, and whether it has an interrupt source; where there is no device, there is none
abbrev pub ranges_in : Option DeviceSpec → List MemRange
ranges_in None = []
ranges_in (Some d) = d.mem

abbrev pub source_in : Option DeviceSpec → Bool
source_in None = false
source_in (Some d) = d.irq

-- each device has been granted its ranges, and its source if it has one, and nothing else
pub record AreTheirs (devices : List DeviceSpec) (s : GrantState) : Type 0 where
  pub ranges : (slot : ℕ) → ranges_of slot s.ranges ≡ ranges_in (slice_get devices slot)
  pub sources : (slot : ℕ) → owns_source s slot ≡ source_in (slice_get devices slot)
