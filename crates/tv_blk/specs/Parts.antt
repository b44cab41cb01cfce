-- What contracts see of a block device.
use Rattle.std.specs.Prelude.{ℕ, Option, Some, None}
use Rattle.tv_blk.specs.declared.block.Resize.{Resize}
use Rattle.tv_plan.specs.Block.{BlockDisk, BlockState, block_rested, block_broke, block_broken, block_served}
use Rattle.tv_script.specs.Scripts.{Stop}
use Rattle.tv_script.specs.Services.{Idle}
use Rattle.tv_serving.specs.Steps.{Steps}
use Rattle.tv_transport.specs.Registers.{Registers, buffer_used}
use Rattle.tv_virtio.specs.declared.queue.QueueRegs.{QueueRegs}
use Rattle.tv_vring.specs.Rings.{Ring}

-- its disk, its registers, its queue, and what is due or under way: the service of a queue, or a resize
pub record Parts : Type 0 where
  pub disk : BlockDisk
  pub registers : Registers
  pub ring : Ring
  pub serving : Option QueueRegs
  pub resizing : Option Resize

abbrev pub resize_of : Option Resize → Option (ℕ × ℕ)
resize_of None = None
resize_of (Some r) = Some (r.tag, r.sectors)

-- what lies in the buffers of its queue is no part of its state
abbrev pub state_of : Parts → BlockState
state_of p =
    record { disk = p.disk; registers = p.registers; last = p.ring.last; used = p.ring.used; serving = p.serving; resizing = resize_of p.resizing }

-- how its state changes as its queue is served
abbrev pub block_steps : Steps BlockState
block_steps = record {
  registers = λ b. b.registers;
  last = λ b. b.last;
  used = λ b. b.used;
  took = λ b last. record b { last = last };
  gave = λ b used. record b { used = used };
  told = λ b. record b { registers = buffer_used b.registers };
  rested = block_rested;
  broke = block_broke;
  broken = block_broken;
  refused = λ b. Stop (Idle (block_broke b));
  part = λ before. block_served;
}
