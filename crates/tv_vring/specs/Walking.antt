-- The walk of a chain under way.
use Rattle.std.specs.Prelude.{◌≡◌, ◌≤◌, ◌+◌, ℕ, length}
use Rattle.tv_virtio.specs.declared.queue.QueueRegs.{QueueRegs}
use Rattle.tv_virtio.specs.Spans.{Spans}

pub record Walking (reached : Type 0) (q : QueueRegs) (c : Spans) (left : ℕ) : Type 0 where
  pub here : reached
  pub count : length c.readable + length c.writable + left + 1 ≡ q.size

-- the read of buffers under way: where it is, how many bytes were got, and that there is room for the others
pub record Reading (reached : Type 0) (first now done first_capacity capacity : ℕ) : Type 0 where
  pub here : reached
  pub count : now ≡ first + done
  pub room : first_capacity ≤ capacity
