-- What contracts see of a console.
use Rattle.std.specs.Prelude.{ℕ, ◌<◌, Bool, Option}
use Rattle.tv_virtio.specs.declared.queue.QueueRegs.{QueueRegs}
use Rattle.tv_script.specs.Scripts.{Stop}
use Rattle.tv_script.specs.Services.{Idle}
use Rattle.tv_serving.specs.Steps.{Steps}
use Rattle.tv_transport.specs.Registers.{Registers, buffer_used}
use Rattle.tv_vring.specs.Rings.{Ring, with_kept}
use Rattle.tv_plan.specs.Console.{ConsoleState, console_rested, console_broke, console_broken, console_part}

-- its registers, its queues, whether the input is at its end, and the queue whose service is due or under way
pub record Parts : Type 0 where
  pub registers : Registers
  pub ring : Ring
  pub ended : Bool
  pub serving : Option QueueRegs

-- what lies in the buffers of its queues is no part of its state
abbrev pub state_of : Parts → ConsoleState
state_of p = record { registers = p.registers; last = p.ring.last; used = p.ring.used; ended = p.ended; serving = p.serving }

-- its state where the chain that was taken last is kept
abbrev pub kept_of : Parts → ConsoleState
kept_of p = state_of (record p { ring = with_kept p.ring p.ring.taken })

-- how its state changes as its queues are served
abbrev pub console_steps : Steps ConsoleState
console_steps = record {
  registers = λ c. c.registers;
  last = λ c. c.last;
  used = λ c. c.used;
  took = λ c last. record c { last = last };
  gave = λ c used. record c { used = used };
  told = λ c. record c { registers = buffer_used c.registers };
  rested = console_rested;
  broke = console_broke;
  broken = console_broken;
  refused = λ c. Stop (Idle (console_broke c));
  part = λ kept c q took writable. console_part kept c q took;
}

-- an index of a queue has 16 bits
abbrev pub IsIndex : ℕ → Type 0
IsIndex n = n < 65536
