-- What contracts see of a balloon.
use Rattle.std.specs.Prelude.{ℕ, Bool, Option}
use Rattle.tv_virtio.specs.declared.queue.QueueRegs.{QueueRegs}
use Rattle.tv_serving.specs.Steps.{Steps}
use Rattle.tv_transport.specs.Registers.{Registers, buffer_used}
use Rattle.tv_vring.specs.Rings.{Ring}
use Rattle.tv_plan.specs.Balloon.{BalloonState, balloon_rested, balloon_broke, balloon_broken, balloon_refused, balloon_part}

-- its registers, its queues and its configuration; the request and the chain that wait; and what is due or under way
pub record Parts : Type 0 where
  pub registers : Registers
  pub ring : Ring
  pub pages : ℕ
  pub actual : ℕ
  pub waiting : Option ℕ
  pub held : Option ℕ
  pub serving : Option QueueRegs
  pub returning : Option ℕ
  pub interrupting : Bool

-- what lies in the buffers of its queues is no part of its state
abbrev pub state_of : Parts → BalloonState
state_of p =
    record {
      registers = p.registers;
      pages = p.pages;
      actual = p.actual;
      last = p.ring.last;
      used = p.ring.used;
      waiting = p.waiting;
      held = p.held;
      serving = p.serving;
      returning = p.returning;
      interrupting = p.interrupting;
    }

-- how its state changes as its queues are served
abbrev pub balloon_steps : Steps BalloonState
balloon_steps = record {
  registers = λ b. b.registers;
  last = λ b. b.last;
  used = λ b. b.used;
  took = λ b last. record b { last = last };
  gave = λ b used. record b { used = used };
  told = λ b. record b { registers = buffer_used b.registers };
  rested = balloon_rested;
  broke = balloon_broke;
  broken = balloon_broken;
  refused = balloon_refused;
  part = λ before b q took writable. balloon_part b q took;
}
