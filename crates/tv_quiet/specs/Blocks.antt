-- What a round of the block device comes to on memory that nobody else writes meanwhile, where its disk does all it is asked.
use Rattle.std.specs.Prelude.{◌≡◌, ℕ, zero, suc, ◌+◌, ◌-◌, ◌/◌, ◌==◌, ◌&&◌, not, Bool, if◌then◌else◌, List, [], ◌∷◌, ◌++◌, length, take, drop, slice_index}
use Rattle.byteorder.specs.Endian.{little_number}
use Rattle.tv_script.specs.Scripts.{Over}
use Rattle.tv_script.specs.Services.{End}
use Rattle.tv_transport.specs.Registers.{buffer_used}
use Rattle.tv_virtio.specs.declared.queue.QueueRegs.{QueueRegs}
use Rattle.tv_virtio.specs.Spans.{total}
use Rattle.tv_virtio.specs.Queue.{Took}
use Rattle.tv_plan.specs.Serving.{index_raised}
use Rattle.tv_plan.specs.Block.{BlockDisk, BlockState, Response, are_sectors, block_id, done, failed, response_bytes, unsupported}
use Rattle.tv_quiet.specs.World.{World, Performed, written}
use Rattle.tv_quiet.specs.Meaning.{GivenSo, is_wanted}

-- bytes as so many sectors, and the bytes of so many sectors of a disk from one on
abbrev pub sectors_in : List ℕ → ℕ → List (List ℕ)
sectors_in bytes zero = []
sectors_in bytes (suc n) = take 512 bytes ∷ sectors_in (drop 512 bytes) n

abbrev pub sectors_of : (ℕ → List ℕ) → ℕ → ℕ → List ℕ
sectors_of disk sector zero = []
sectors_of disk sector (suc n) = disk sector ++ sectors_of disk (sector + 1) n

-- what a request comes to, and the disk after it
pub record Served : Type 0 where
  pub response : Response
  pub disk : ℕ → List ℕ

abbrev pub responds : (ℕ → List ℕ) → Response → Served
responds disk response = record { response = response; disk = disk }

-- a read of sectors, and a write
abbrev pub read_means : (ℕ → List ℕ) → ℕ → ℕ → ℕ → Served
read_means disk capacity sector len =
    if are_sectors capacity sector len then responds disk (done (sectors_of disk sector (len / 512))) else responds disk failed

abbrev pub write_means : (ℕ → List ℕ) → ℕ → Bool → ℕ → List ℕ → Served
write_means disk capacity readonly sector bytes =
    if not readonly && are_sectors capacity sector (length bytes)
    then responds (written disk sector (sectors_in bytes (length bytes / 512))) (done [])
    else responds disk failed

-- the request that these bytes say, with room for so many bytes of content
abbrev pub request_means : (ℕ → List ℕ) → BlockDisk → List ℕ → ℕ → Served
request_means disk d readable len =
    let kind : ℕ = little_number 4 readable in
    let sector : ℕ = little_number 8 (drop 8 readable) in
    if kind == 0 then read_means disk d.sectors sector len
    else if kind == 1 then write_means disk d.sectors d.readonly sector (drop 16 readable)
    else if kind == 4 then responds disk (done [])
    else if kind == 8 then responds disk (done (block_id d.slot))
    else responds disk unsupported

-- the device then: both indices of the queue rose, and a buffer was used
abbrev pub block_after : BlockState → QueueRegs → BlockState
block_after b q = record b {
  last = index_raised b.last q.number;
  used = index_raised b.used q.number;
  registers = buffer_used b.registers;
}

-- the chain has the content and the status of its request, the disk is as the request leaves it, and the interrupt was raised exactly
-- where the driver wants one
pub record BlockMeans (w : World) (b : BlockState) (q : QueueRegs) (took : Took) (r : Performed (End BlockState) BlockState) : Type 0 where
  pub given : GivenSo w.memory r.world.memory q (slice_index b.used q.number) took.head took.chain.writable
      (response_bytes (total took.chain.writable - 1) (request_means w.disk b.disk took.readable (total took.chain.writable - 1)).response)
  pub disk : r.world.disk ≡ (request_means w.disk b.disk took.readable (total took.chain.writable - 1)).disk
  pub raised : r.world.raised ≡ (if is_wanted w.memory q then w.raised + 1 else w.raised)
  pub end : r.end ≡ Over (block_after b q)
