-- What a round of the console comes to on memory that nobody else writes meanwhile.
use Rattle.std.specs.Prelude.{◌≡◌, ℕ, ◌+◌, min, if◌then◌else◌, [], ◌++◌, length, take, drop, slice_index}
use Rattle.tv_base.specs.declared.limits.TheConstants.{PIECE_BYTES}
use Rattle.tv_script.specs.Scripts.{Over}
use Rattle.tv_script.specs.Services.{End}
use Rattle.tv_transport.specs.Registers.{buffer_used}
use Rattle.tv_virtio.specs.declared.queue.QueueRegs.{QueueRegs}
use Rattle.tv_virtio.specs.Spans.{total}
use Rattle.tv_virtio.specs.Queue.{Took}
use Rattle.tv_plan.specs.Serving.{index_raised}
use Rattle.tv_plan.specs.Console.{ConsoleState}
use Rattle.tv_quiet.specs.World.{World, Performed}
use Rattle.tv_quiet.specs.Meaning.{GivenSo, cut, is_wanted}

-- the device then: both indices of the queue rose, and a buffer was used
abbrev pub console_after : ConsoleState → QueueRegs → ConsoleState
console_after c q = record c {
  last = index_raised c.last q.number;
  used = index_raised c.used q.number;
  registers = buffer_used c.registers;
}

-- the readable bytes went out, and the chain went back with nothing written
pub record SentSo (w : World) (c : ConsoleState) (q : QueueRegs) (took : Took) (r : Performed (End ConsoleState) ConsoleState) : Type 0 where
  pub given : GivenSo w.memory r.world.memory q (slice_index c.used q.number) took.head (cut 0 took.chain.writable) []
  pub output : r.world.output ≡ w.output ++ took.readable
  pub raised : r.world.raised ≡ (if is_wanted w.memory q then w.raised + 1 else w.raised)
  pub end : r.end ≡ Over (console_after c q)

-- how many bytes a chain takes of the input at most
abbrev pub most_taken : Took → ℕ
most_taken took = min (total took.chain.writable) PIECE_BYTES

-- the chain has the next bytes of the input in its first writable bytes
pub record ReceivedSo (w : World) (c : ConsoleState) (q : QueueRegs) (took : Took) (r : Performed (End ConsoleState) ConsoleState) : Type 0 where
  pub given : GivenSo w.memory r.world.memory q (slice_index c.used q.number) took.head
      (cut (length (take (most_taken took) w.input)) took.chain.writable) (take (most_taken took) w.input)
  pub input : r.world.input ≡ drop (most_taken took) w.input
  pub raised : r.world.raised ≡ (if is_wanted w.memory q then w.raised + 1 else w.raised)
  pub end : r.end ≡ Over (console_after c q)
