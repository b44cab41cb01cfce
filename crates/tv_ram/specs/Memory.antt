-- Guest memory as a list of bytes, which begin at one address. Numbers stand in it little-endian (RISC-V Unprivileged ISA,
-- chapter "RV32I", "Load and Store Instructions").
use Rattle.std.specs.Prelude.{◌≡◌, ◌==◌, ◌&&◌, ◌||◌, ℕ, ◌+◌, ◌-◌, ◌*◌, ◌%◌, ◌^◌, ◌<◌, ◌≤◌, nat_le, if◌then◌else◌, Bool, List, ◌++◌, length, take, drop, replicate, Option, Some, None}
use Rattle.byteorder.specs.Endian.{little_number, little_bytes}
use Rattle.tv_base.specs.declared.limits.TheConstants.{RAM_BASE, RAM_BYTES, RAM_BYTES_LEAST, PAGE_BYTES}

-- the numbers of bytes that memory can have: whole pages, from 64 KiB to 256 MiB
abbrev pub IsRamSize : ℕ → Type 0
IsRamSize bytes = (RAM_BYTES_LEAST ≤ bytes) × (bytes ≤ RAM_BYTES) × (bytes % PAGE_BYTES ≡ 0)

-- the address of the first byte
abbrev pub ram_base : ℕ
ram_base = RAM_BASE

-- the offset of an address from the first byte
abbrev pub ram_offset : ℕ → ℕ
ram_offset addr = addr - ram_base

-- whether each of n bytes from an address on lies in memory of so many bytes; of no bytes, each does
abbrev pub is_inside : ℕ → ℕ → ℕ → Bool
is_inside bytes addr n = n == 0 || nat_le ram_base addr && nat_le (addr + n) (ram_base + bytes)

-- the same, byte by byte
abbrev pub AreInside : ℕ → ℕ → ℕ → Type 0
AreInside bytes addr n = (i : ℕ) → i < n → (ram_base ≤ addr + i) × (addr + i < ram_base + bytes)

-- so many bytes that are 0
unfoldable pub zeros : ℕ → List ℕ
zeros n = replicate n 0

-- the n bytes from an address on
abbrev pub bytes_at : List ℕ → ℕ → ℕ → List ℕ
bytes_at ram addr n = take n (drop (ram_offset addr) ram)

-- memory with these bytes from an address on
abbrev pub with_bytes : List ℕ → ℕ → List ℕ → List ℕ
with_bytes ram addr bytes =
    take (ram_offset addr) ram ++ (bytes ++ drop (length bytes) (drop (ram_offset addr) ram))

-- the address of a page's first byte; pages are numbered by address
abbrev pub page_base : ℕ → ℕ
page_base page = page * PAGE_BYTES

-- memory with zeros in each byte of a page
abbrev pub with_zero_page : List ℕ → ℕ → List ℕ
with_zero_page ram page = with_bytes ram (page_base page) (zeros 4096)

-- the number in the n bytes from an address on
abbrev pub number_at : List ℕ → ℕ → ℕ → ℕ
number_at ram addr n = little_number n (drop (ram_offset addr) ram)

-- the number that a load of n bytes finds; none where a byte lies outside
abbrev pub loaded : List ℕ → ℕ → ℕ → Option ℕ
loaded ram addr n = if is_inside (length ram) addr n then Some (number_at ram addr n) else None

-- memory with the low n bytes of a value from an address on
abbrev pub with_number : List ℕ → ℕ → ℕ → ℕ → List ℕ
with_number ram addr n value = with_bytes ram addr (little_bytes n (value % 256 ^ n))

-- memory of so many bytes that begins with an image and has zeros after it
abbrev pub with_image : ℕ → List ℕ → List ℕ
with_image bytes image = image ++ zeros (bytes - length image)
