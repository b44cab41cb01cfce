-- What contracts see of an entropy device.
use Rattle.std.specs.Prelude.{Option}
use Rattle.tv_virtio.specs.declared.queue.QueueRegs.{QueueRegs}
use Rattle.tv_script.specs.Scripts.{Stop}
use Rattle.tv_script.specs.Services.{Idle}
use Rattle.tv_serving.specs.Steps.{Steps}
use Rattle.tv_transport.specs.Registers.{Registers}
use Rattle.tv_vring.specs.Rings.{Ring}
use Rattle.tv_plan.specs.Entropy.{EntropyState, entropy_rested, entropy_broke, entropy_broken, with_used_buffer, answer}

-- its registers, its queue, and the queue whose service is due or under way
pub record Parts : Type 0 where
  pub registers : Registers
  pub ring : Ring
  pub serving : Option QueueRegs

-- what lies in the buffers of its queue is no part of its state
abbrev pub state_of : Parts → EntropyState
state_of p = record { registers = p.registers; last = p.ring.last; used = p.ring.used; serving = p.serving }

-- how its state changes as its queue is served
abbrev pub entropy_steps : Steps EntropyState
entropy_steps = record {
  registers = λ e. e.registers;
  last = λ e. e.last;
  used = λ e. e.used;
  took = λ e last. record e { last = last };
  gave = λ e used. record e { used = used };
  told = with_used_buffer;
  rested = entropy_rested;
  broke = entropy_broke;
  broken = entropy_broken;
  refused = λ e. Stop (Idle (entropy_broke e));
  part = λ before. answer;
}
