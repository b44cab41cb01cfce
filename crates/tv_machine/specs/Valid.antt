-- Which machines are valid.
use Rattle.std.specs.Prelude.{◌≡◌, ◌≢◌, ℕ, ◌+◌, ◌%◌, ◌≤◌, ◌⊎◌, false, List, ◌++◌, length, All, AllPairs, Option, Some, None, option_to_list}
use Rattle.std.specs.List.{flat_map}
use Rattle.tv_base.specs.declared.limits.TheConstants.{HARTS, DEVICES, LINES, DEVICE_GRANTS, RAM_BASE, RAM_BYTES, RAM_BYTES_LEAST, PAGE_BYTES, TUBE_MESSAGES, DISK_SECTORS, HART_EVENTS, JOURNAL_RECORDS, JOURNAL_PAYLOAD_BYTES, FILE_NAME_BYTES, SOCKET_NAME_BYTES}
use Rattle.tv_machine.specs.declared.kinds.DeviceKind.{DeviceKind}
use Rattle.tv_machine.specs.declared.kinds.DeviceKind.TheVariants.{Block, Console, Entropy}
use Rattle.tv_machine.specs.declared.kinds.MemRange.{MemRange}
use Rattle.tv_machine.specs.declared.kinds.DeviceSpec.{DeviceSpec}
use Rattle.tv_machine.specs.declared.machine.Machine.{Machine}

-- from the least to the greatest of a range
abbrev pub IsWithin : ℕ → ℕ → ℕ → Type 0
IsWithin least most n = (least ≤ n) × (n ≤ most)

-- the name of a file, and that of a socket, has a byte and is not too long
abbrev pub IsFileName : List ℕ → Type 0
IsFileName name = IsWithin 1 FILE_NAME_BYTES (length name)

abbrev pub IsSocketName : List ℕ → Type 0
IsSocketName name = IsWithin 1 SOCKET_NAME_BYTES (length name)

-- a range has bytes, all of them in memory of `ram` bytes, and a right
pub record IsInRam (ram : ℕ) (range : MemRange) : Type 0 where
  pub some : 1 ≤ range.len
  pub base : RAM_BASE ≤ range.base
  pub end : range.base + range.len ≤ RAM_BASE + ram
  pub rights : IsWithin 1 3 range.rights.0

-- two ranges share no byte
abbrev pub AreApart : MemRange → MemRange → Type 0
AreApart a b = (a.base + a.len ≤ b.base) ⊎ (b.base + b.len ≤ a.base)

-- a file that has to be there, may be there, or must not be
abbrev pub IsNeeded : Option (List ℕ) → Type 0
IsNeeded None = ⊥
IsNeeded (Some name) = IsFileName name

abbrev pub IsOptional : Option (List ℕ) → Type 0
IsOptional None = Unit {0}
IsOptional (Some name) = IsFileName name

abbrev pub IsAbsent : Option (List ℕ) → Type 0
IsAbsent file = file ≡ None

-- a device has the files of its kind and no others
abbrev pub HasFilesOf : DeviceKind → DeviceSpec → Type 0
HasFilesOf Block d = IsNeeded d.disk × IsAbsent d.output × IsAbsent d.input
HasFilesOf Console d = NoDisk d × IsNeeded d.output × IsOptional d.input
  where
    NoDisk : DeviceSpec → Type 0
    NoDisk d = IsAbsent d.disk × (d.readonly ≡ false)
HasFilesOf _ d = IsAbsent d.disk × (d.readonly ≡ false) × IsAbsent d.output × IsAbsent d.input

pub record IsValidDevice (ram : ℕ) (d : DeviceSpec) : Type 0 where
  pub ranges : length d.mem ≤ DEVICE_GRANTS
  pub in_ram : All (IsInRam ram) d.mem
  pub apart : AllPairs AreApart d.mem
  pub files : HasFilesOf d.kind d
  pub sectors : d.sectors ≤ DISK_SECTORS
  pub diskless : d.disk ≡ None → d.sectors ≡ 0

-- the names of the files that a device writes
abbrev pub written_files : DeviceSpec → List (List ℕ)
written_files d = option_to_list d.disk ++ option_to_list d.output

-- two names, or two devices, that may stand in one machine
abbrev pub AreDifferent : List ℕ → List ℕ → Type 0
AreDifferent a b = a ≢ b

abbrev pub AreNotBothEntropy : DeviceSpec → DeviceSpec → Type 0
AreNotBothEntropy a b = a.kind ≡ Entropy → b.kind ≢ Entropy

-- a machine that a machine file can describe
pub record IsValid (m : Machine) : Type 0 where
  pub image : IsFileName m.image
  pub ram : IsWithin RAM_BYTES_LEAST RAM_BYTES m.ram
  pub pages : m.ram % PAGE_BYTES ≡ 0
  pub harts : IsWithin 1 HARTS m.harts
  pub steps : IsWithin 1 HART_EVENTS m.steps
  pub journal_entries : IsWithin 1 JOURNAL_RECORDS m.journal_entries
  pub journal_bytes : m.journal_bytes ≤ JOURNAL_PAYLOAD_BYTES
  pub tube : IsWithin 1 TUBE_MESSAGES m.tube
  pub lines : length m.control ≤ LINES
  pub sockets : All IsSocketName m.control
  pub distinct_sockets : AllPairs AreDifferent m.control
  pub slots : length m.device ≤ DEVICES
  pub devices : All (IsValidDevice m.ram) m.device
  pub distinct_files : AllPairs AreDifferent (flat_map written_files m.device)
  pub one_entropy : AllPairs AreNotBothEntropy m.device
