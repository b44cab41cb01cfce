-- The fields of a disk in memory.
use Rattle.std.specs.Prelude.{◌≡◌, ◌≤◌, ◌*◌, ◌^◌, vec_len, vec_capacity}
use Rattle.tv_fake.specs.declared.disk.MemoryDisk.TheInside.{Inside}

-- what is true of them: the bytes are those of the sectors, there is memory for all its room, and no more changes were
-- done than calls were made
pub record IsDisk (disk : Inside) : Type 0 where
  pub whole : vec_len disk.bytes ≡ 512 * disk.sectors
  pub most : disk.sectors ≤ 2 ^ 31
  pub memory : 512 * disk.room ≤ vec_capacity disk.bytes
  pub counted : disk.changes ≤ disk.calls.made
