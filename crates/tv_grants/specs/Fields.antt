-- The fields of the grants.
use Rattle.std.specs.Prelude.{◌≤◌, ℕ, ◌+◌, ◌*◌, List, length, All, vec_capacity}
use Rattle.tv_base.specs.declared.limits.TheConstants.{MEMORY_GRANTS, PAGE_BYTES, RAM_BASE, RAM_BYTES}
use Rattle.tv_grants.specs.declared.Grants.TheInside.{Inside}
use Rattle.tv_grants.specs.declared.ranges.Grant.{Grant}

-- a range lies in memory of so many bytes
abbrev pub IsInMemory : ℕ → Grant → Type 0
IsInMemory bytes grant = (RAM_BASE ≤ grant.range.base) × (grant.range.base + grant.range.len ≤ RAM_BASE + bytes)

abbrev pub AreInMemory : ℕ → List Grant → Type 0
AreInMemory bytes grants = All (IsInMemory bytes) grants

-- what is true of them: there is room for all ranges, each lies in memory, and memory isn't too large
pub record AreGrants (grants : Inside) : Type 0 where
  pub room : MEMORY_GRANTS ≤ vec_capacity grants.ranges
  pub few : length grants.ranges.items ≤ MEMORY_GRANTS
  pub inside : AreInMemory (length grants.withdrawn.items * PAGE_BYTES) grants.ranges.items
  pub pages : length grants.withdrawn.items * PAGE_BYTES ≤ RAM_BYTES
