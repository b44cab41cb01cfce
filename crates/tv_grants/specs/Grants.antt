-- What memory a device may touch: the ranges that it was granted, byte by byte, and the pages that are withdrawn from all
-- devices.
use Rattle.std.specs.Prelude.{◌≡◌, ◌==◌, ◌&&◌, not, ℕ, zero, suc, ◌+◌, ◌-◌, ◌*◌, ◌/◌, ◌<◌, nat_le, nat_lt, if◌then◌else◌, Bool, true, false, List, [], ◌∷◌, ◌++◌, length, replicate, Option, Some, None, slice_index_or, slice_set}
use Rattle.std.specs.List.{list_any}
use Rattle.std.specs.Option.{is_some}
use Rattle.std.specs.Int.RustNames.{bit_and}
use Rattle.tv_base.specs.declared.limits.TheConstants.{MEMORY_GRANTS, PAGE_BYTES, RAM_BASE}
use Rattle.tv_machine.specs.declared.kinds.MemRange.{MemRange}
use Rattle.tv_ram.specs.Memory.{is_inside, page_base}
use Rattle.tv_grants.specs.declared.GrantError.{GrantError}
use Rattle.tv_grants.specs.declared.GrantError.TheVariants as error
use Rattle.tv_grants.specs.declared.ranges.Grant.{Grant}

-- the ranges of the device in a slot
abbrev pub ranges_of : ℕ → List Grant → List MemRange
ranges_of dev [] = []
ranges_of dev (grant ∷ grants) = if grant.dev == dev then grant.range ∷ ranges_of dev grants else ranges_of dev grants

-- the right to read is 1, that to write is 2
abbrev pub right_to : Bool → ℕ
right_to write = if write then 2 else 1

-- whether a range has the byte at an address, with the right
abbrev pub is_in_range : ℕ → ℕ → MemRange → Bool
is_in_range right addr range =
    nat_le range.base addr && nat_lt addr (range.base + range.len) && (bit_and range.rights.0 right == right)

-- whether the byte at an address lies in one of the ranges with the right
abbrev pub is_granted : List MemRange → ℕ → ℕ → Bool
is_granted ranges right addr = list_any (is_in_range right addr) ranges

-- pages are numbered by address; the first one of memory
abbrev pub first_page : ℕ
first_page = RAM_BASE / PAGE_BYTES

-- whether a page is one of memory's, of so many pages
abbrev pub is_ram_page : ℕ → ℕ → Bool
is_ram_page pages page = nat_le first_page page && nat_lt (page - first_page) pages

-- whether a page is withdrawn, by the list of memory's pages
abbrev pub is_withdrawn : List Bool → ℕ → Bool
is_withdrawn withdrawn page = nat_le first_page page && slice_index_or withdrawn (page - first_page) false

-- whether the byte at an address may be touched: it is granted, and its page isn't withdrawn
abbrev pub may_touch : List MemRange → List Bool → ℕ → ℕ → Bool
may_touch ranges withdrawn right addr = is_granted ranges right addr && not (is_withdrawn withdrawn (addr / PAGE_BYTES))

-- whether something is true of each number below n
unfoldable pub each_below : ℕ → (ℕ → Bool) → Bool
each_below zero holds = true
each_below (suc n) holds = each_below n holds && holds n

-- whether an access is allowed: each of its bytes may be touched. IsAllowed says the same as a proposition
abbrev pub is_allowed : List MemRange → List Bool → ℕ → ℕ → ℕ → Bool
is_allowed ranges withdrawn right addr n = each_below n (λ i. may_touch ranges withdrawn right (addr + i))

abbrev pub IsAllowed : List MemRange → List Bool → ℕ → ℕ → ℕ → Type 0
IsAllowed ranges withdrawn right addr n = (i : ℕ) → i < n → may_touch ranges withdrawn right (addr + i) ≡ true

-- whether a page may be released and regained: each of its bytes may be written, as if no page were withdrawn
abbrev pub is_page_allowed : List MemRange → ℕ → Bool
is_page_allowed ranges page = is_allowed ranges [] (right_to true) (page_base page) PAGE_BYTES

-- the grants of a machine. A page stands in the list at its place in memory. A source stands at its device's slot
pub record GrantState : Type 0 where
  pub ranges : List Grant
  pub sources : List (Option ℕ)
  pub taken : ℕ
  pub withdrawn : List Bool

-- the bytes of memory
abbrev pub ram_bytes : GrantState → ℕ
ram_bytes s = length s.withdrawn * PAGE_BYTES

-- no grant yet, over memory of so many bytes
abbrev pub no_grants : ℕ → GrantState
no_grants bytes = record { ranges = []; sources = replicate 8 None; taken = 0; withdrawn = replicate (bytes / PAGE_BYTES) false }

-- why a range is not added: it has no byte or one outside memory, or there are as many ranges as can be
abbrev pub refusal : GrantState → ℕ → ℕ → Option GrantError
refusal s base len =
    if not (nat_le 1 len && is_inside (ram_bytes s) base len) then Some error.Outside
    else if nat_le MEMORY_GRANTS (length s.ranges) then Some error.TooMany
    else None

-- with a range that a device was granted
abbrev pub with_range : GrantState → ℕ → MemRange → GrantState
with_range s dev range =
    record s { ranges = s.ranges ++ record { dev = dev; range = range; cap = s.taken } ∷ []; taken = s.taken + 1 }

-- with a capability number taken for a file
abbrev pub with_file : GrantState → GrantState
with_file s = record s { taken = s.taken + 1 }

-- whether a device has an interrupt source
abbrev pub owns_source : GrantState → ℕ → Bool
owns_source s dev = is_some (slice_index_or s.sources dev None)

-- with an interrupt source for a device
abbrev pub with_source : GrantState → ℕ → GrantState
with_source s dev = record s { sources = slice_set s.sources dev (Some s.taken); taken = s.taken + 1 }

-- with a page that is withdrawn, or given back
abbrev pub with_page : GrantState → ℕ → Bool → GrantState
with_page s page is = record s { withdrawn = slice_set s.withdrawn (page - first_page) is }

-- after a release of a page, with or without holding it
abbrev pub released : GrantState → ℕ → Bool → GrantState
released s page hold = if hold then with_page s page true else s
