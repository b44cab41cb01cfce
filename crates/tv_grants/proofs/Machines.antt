-- The grants of a machine are all made.
use Rattle.std.proofs.Common.{◌≡◌, ℕ, ◌/◌, ◌%◌, ◌<◌, None, length, false, arith}
use Rattle.std.proofs.lemmas.Bool.Decides.{nat_tests}
use Rattle.std.proofs.lemmas.List.{length-replicate}
use Rattle.tv_base.specs.declared.limits.TheConstants.{MEMORY_GRANTS, PAGE_BYTES}
use Rattle.tv_machine.specs.declared.kinds.MemRange.{MemRange}
use Rattle.tv_machine.specs.Valid.{IsInRam}
use Rattle.tv_grants.specs.Grants.{GrantState, no_grants, ram_bytes, refusal}

-- a range of a valid machine is not refused, where there is room
pub not_refused : (s : GrantState) (range : MemRange)
    → IsInRam (ram_bytes s) range
    → length s.ranges < MEMORY_GRANTS
    → refusal s range.base range.len ≡ None
not_refused s range inside room =
    let some = inside.some in
    let base = inside.base in
    let end = inside.end in
    grind (arith, nat_tests)

-- the pages of memory have all its bytes
pub all_bytes : (bytes : ℕ) → bytes % PAGE_BYTES ≡ 0 → ram_bytes (no_grants bytes) ≡ bytes
all_bytes bytes whole = rw (length-replicate (bytes / PAGE_BYTES) false) (omega arith)
