-- Reservations of LR and SC (RISC-V Unprivileged ISA, chapter "A", "Load-Reserved/Store-Conditional Instructions"). A
-- hart has at most one, of the aligned 8 bytes that hold the address of its last LR.
use Rattle.std.specs.Prelude.{ℕ, ◌+◌, ◌*◌, ◌/◌, ◌==◌, ◌&&◌, nat_lt, Bool, false, if◌then◌else◌, List, map, replicate, slice_set, Option, Some, None}
use Rattle.std.specs.List.{slice_index_or}

-- the aligned 8 bytes that hold an address, by their number
abbrev pub granule : ℕ → ℕ
granule addr = addr / 8

-- no hart has one; there are 8 harts at most
abbrev pub none_reserved : List (Option ℕ)
none_reserved = replicate 8 None

-- whether one of the n bytes from an address on lies in a granule
abbrev pub touches : ℕ → ℕ → ℕ → Bool
touches addr n place = nat_lt (place * 8) (addr + n) && nat_lt addr (place * 8 + 8)

-- a reservation after a write of n bytes by somebody else: it ends where one of them lies in it
abbrev pub after_write : ℕ → ℕ → Option ℕ → Option ℕ
after_write addr n None = None
after_write addr n (Some place) = if touches addr n place then None else Some place

-- all of them after a write by no hart
abbrev pub after_other_write : ℕ → ℕ → List (Option ℕ) → List (Option ℕ)
after_other_write addr n reservations = map (after_write addr n) reservations

-- that of a hart, and all of them with that of one hart changed
abbrev pub reserved_by : List (Option ℕ) → ℕ → Option ℕ
reserved_by reservations hart = slice_index_or reservations hart None

abbrev pub with_reserved : List (Option ℕ) → ℕ → Option ℕ → List (Option ℕ)
with_reserved reservations hart place = slice_set reservations hart place

-- all of them after a store or an AMO of a hart: its own stays
abbrev pub after_hart_write : ℕ → ℕ → ℕ → List (Option ℕ) → List (Option ℕ)
after_hart_write hart addr n reservations =
    with_reserved (after_other_write addr n reservations) hart (reserved_by reservations hart)

-- whether a reservation stands and holds an address
abbrev pub is_reserved : Option ℕ → ℕ → Bool
is_reserved None addr = false
is_reserved (Some place) addr = place == granule addr
