-- What a round of the balloon's first two queues comes to on memory that nobody else writes meanwhile.
use Rattle.std.specs.Prelude.{◌≡◌, ℕ, ◌+◌, ◌*◌, if◌then◌else◌, Bool, true, false, List, [], ◌∷◌, slice_index}
use Rattle.tv_base.specs.declared.limits.TheConstants.{PAGE_BYTES}
use Rattle.tv_script.specs.Scripts.{Over}
use Rattle.tv_script.specs.Services.{End}
use Rattle.tv_transport.specs.Registers.{buffer_used, has}
use Rattle.tv_virtio.specs.declared.queue.QueueRegs.{QueueRegs}
use Rattle.tv_virtio.specs.Queue.{Took}
use Rattle.tv_plan.specs.Serving.{index_raised}
use Rattle.tv_plan.specs.Balloon.{BalloonState, MUST_TELL_HOST, page_numbers}
use Rattle.tv_quiet.specs.World.{World, Performed, written, zeros}
use Rattle.tv_quiet.specs.Meaning.{Apart, GivenSo, cut, is_wanted}

-- memory with zeros in each of these pages
abbrev pub zeroed : (ℕ → ℕ) → List ℕ → ℕ → ℕ
zeroed m [] = m
zeroed m (page ∷ pages) = zeroed (written m (page * PAGE_BYTES) zeros) pages

-- the same said of each of these pages
abbrev pub marked : (ℕ → Bool) → List ℕ → Bool → ℕ → Bool
marked f [] is = f
marked f (page ∷ pages) is = marked (written f page (is ∷ [])) pages is

-- none of these pages has a byte of a place
abbrev pub PagesApart : List ℕ → ℕ → ℕ → Type 0
PagesApart [] at n = Unit {0}
PagesApart (page ∷ pages) at n = Apart (page * PAGE_BYTES) PAGE_BYTES at n × PagesApart pages at n

-- the device then: both indices of the queue rose, and a buffer was used
abbrev pub balloon_after : BalloonState → QueueRegs → BalloonState
balloon_after b q = record b {
  last = index_raised b.last q.number;
  used = index_raised b.used q.number;
  registers = buffer_used b.registers;
}

-- the pages that the readable bytes say are zeros, and withdrawn where the driver tells before it uses one again; the chain went back
-- with nothing written
pub record InflatedSo (w : World) (b : BalloonState) (q : QueueRegs) (took : Took) (r : Performed (End BalloonState) BalloonState) : Type 0 where
  pub given : GivenSo (zeroed w.memory (page_numbers took.readable)) r.world.memory q (slice_index b.used q.number) took.head (cut 0 took.chain.writable) []
  pub withdrawn : r.world.withdrawn
      ≡ (if has b.registers.accepted MUST_TELL_HOST then marked w.withdrawn (page_numbers took.readable) true else w.withdrawn)
  pub raised : r.world.raised ≡ (if is_wanted w.memory q then w.raised + 1 else w.raised)
  pub end : r.end ≡ Over (balloon_after b q)

-- these pages are withdrawn no more
pub record DeflatedSo (w : World) (b : BalloonState) (q : QueueRegs) (took : Took) (r : Performed (End BalloonState) BalloonState) : Type 0 where
  pub given : GivenSo w.memory r.world.memory q (slice_index b.used q.number) took.head (cut 0 took.chain.writable) []
  pub withdrawn : r.world.withdrawn ≡ marked w.withdrawn (page_numbers took.readable) false
  pub raised : r.world.raised ≡ (if is_wanted w.memory q then w.raised + 1 else w.raised)
  pub end : r.end ≡ Over (balloon_after b q)
