-- What a disk tells of itself, and what its calls do to it.
use Rattle.std.specs.Prelude.{ℕ, ◌+◌, ◌-◌, ◌*◌, ◌<◌, ◌≡◌, ◌⊎◌, ◌++◌, Bool, List, Option, Some, None, Result, Ok, Err, take, drop, length, replicate}
use Rattle.tv_out.specs.Calls.{RoomScript, IsFailing, IsUncalled, Foretold, calls_of}

-- the bytes of all sectors; how many writes and changes of length were done since the disk was opened; and how many of
-- them the last flush that was done covers, 0 before the first
pub record DiskContent : Type 0 where
  pub bytes : List ℕ
  pub changes : ℕ
  pub flushed : ℕ

-- what a disk tells: its number of sectors, what it holds where it can, its faults, and how its calls will fail
pub record ToldDisk : Type 0 where
  pub sectors : ℕ
  pub content : Option DiskContent
  pub faults : ℕ
  pub script : Option RoomScript

-- the 512 bytes of a sector
abbrev pub sector_at : List ℕ → ℕ → List ℕ
sector_at bytes sector = take 512 (drop (512 * sector) bytes)

-- the bytes with those of one sector changed
abbrev pub with_sector : List ℕ → ℕ → List ℕ → List ℕ
with_sector bytes sector new = take (512 * sector) bytes ++ (new ++ drop (512 * sector + 512) bytes)

-- the bytes of so many sectors: cut, or with sectors of zeros after them
abbrev pub resized : List ℕ → ℕ → List ℕ
resized bytes sectors = take (512 * sectors) bytes ++ replicate (512 * sectors - length bytes) 0

-- a told content has the bytes of the told sectors
abbrev pub IsWhole : ToldDisk → Option DiskContent → Type 0
IsWhole disk None = Unit {0}
IsWhole disk (Some content) = length content.bytes ≡ 512 * disk.sectors

-- a sector has these bytes, where that is told
abbrev pub HoldsSector : Option DiskContent → ℕ → List ℕ → Type 0
HoldsSector None sector bytes = Unit {0}
HoldsSector (Some content) sector bytes = bytes ≡ sector_at content.bytes sector

-- the content after a write, by its answer
abbrev pub after_write : {T E : Type 0} → Result T E → ℕ → List ℕ → DiskContent → DiskContent
after_write (Ok _) sector bytes content = record {
  bytes = with_sector content.bytes sector bytes;
  changes = content.changes + 1;
  flushed = content.flushed;
}
after_write (Err _) sector bytes content = content

-- the content after a flush, by its answer
abbrev pub after_flush : {T E : Type 0} → Result T E → DiskContent → DiskContent
after_flush (Ok _) content = record { bytes = content.bytes; changes = content.changes; flushed = content.changes }
after_flush (Err _) content = content

-- the content after a change of length, by its answer
abbrev pub after_set_len : {T E : Type 0} → Result T E → ℕ → DiskContent → DiskContent
after_set_len (Ok _) sectors content = record {
  bytes = resized content.bytes sectors;
  changes = content.changes + 1;
  flushed = content.flushed;
}
after_set_len (Err _) sectors content = content

-- the number of sectors after a change of length, by its answer
abbrev pub sectors_after : {T E : Type 0} → Result T E → ℕ → ℕ → ℕ
sectors_after (Ok _) asked before = asked
sectors_after (Err _) asked before = before

-- where a script is told, a change of length failed exactly by the number of the call, or for want of room
abbrev pub FollowsSetLen : Option RoomScript → ℕ → ℕ → ℕ → Bool → Type 0
FollowsSetLen None asked before now fails = Unit {0}
FollowsSetLen (Some script) asked before now fails =
    Foretold (IsFailing script.calls ⊎ (script.room < asked)) before now fails

-- nothing was changed yet, where that is told
abbrev pub IsUnchangedYet : Option DiskContent → Type 0
IsUnchangedYet None = Unit {0}
IsUnchangedYet (Some content) = (content.changes ≡ 0) × (content.flushed ≡ 0)

-- a disk as it is opened
pub record IsOpenedDisk (disk : ToldDisk) : Type 0 where
  pub faults : disk.faults ≡ 0
  pub content : IsUnchangedYet disk.content
  pub calls : IsUncalled (calls_of disk.script)
