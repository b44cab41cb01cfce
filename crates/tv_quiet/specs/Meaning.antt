-- What a round comes to on memory that nobody else writes meanwhile.
use Rattle.std.specs.Prelude.{◌≡◌, ◌≤◌, ◌⊎◌, ℕ, ◌+◌, ◌-◌, ◌*◌, ◌%◌, ◌^◌, ◌==◌, Bool, if◌then◌else◌, List, [], ◌∷◌, ◌++◌, length, slice_index}
use Rattle.std.specs.List.{flat_map}
use Rattle.byteorder.specs.Endian.{little_number, little_bytes}
use Rattle.tv_script.specs.Scripts.{Over}
use Rattle.tv_script.specs.Services.{End}
use Rattle.tv_virtio.specs.declared.queue.QueueRegs.{QueueRegs}
use Rattle.tv_virtio.specs.declared.queue.Span.{Span}
use Rattle.tv_virtio.specs.Spans.{total, first}
use Rattle.tv_virtio.specs.Queue.{from, Took}
use Rattle.tv_plan.specs.Serving.{index_raised}
use Rattle.tv_plan.specs.Entropy.{EntropyState, with_used_buffer}
use Rattle.tv_quiet.specs.World.{World, Performed, bytes_at}

-- 1. Places of a queue (VIRTIO 1.2, sections 2.7.6 and 2.7.8)

-- of the used element at an index, of the used index, and of the driver's flags
abbrev pub element_place : QueueRegs → ℕ → ℕ
element_place q used = from q.device (4 + 8 * (used % q.size))

abbrev pub index_place : QueueRegs → ℕ
index_place q = from q.device 2

-- two places of memory, each with its number of bytes, have no byte in common
abbrev pub Apart : ℕ → ℕ → ℕ → ℕ → Type 0
Apart a n b k = (a + n ≤ b) ⊎ (b + k ≤ a)

abbrev pub AllApart : List Span → ℕ → ℕ → Type 0
AllApart [] at n = Unit {0}
AllApart (s ∷ ss) at n = Apart s.addr s.len at n × AllApart ss at n

-- no buffer reaches past the last address, and they have no byte in common
abbrev pub IsSpread : List Span → Type 0
IsSpread [] = Unit {0}
IsSpread (s ∷ ss) = (s.addr + s.len ≤ 2 ^ 64) × AllApart ss s.addr s.len × IsSpread ss

-- a chain's writable buffers overlap neither each other nor the rings, nor do the parts of the rings that a give touches
pub record IsQuiet (q : QueueRegs) (used : ℕ) (spans : List Span) : Type 0 where
  pub spread : IsSpread spans
  pub buffers_element : AllApart spans (element_place q used) 8
  pub buffers_index : AllApart spans (index_place q) 2
  pub buffers_flags : AllApart spans q.driver 2
  pub element_index : Apart (element_place q used) 8 (index_place q) 2
  pub element_flags : Apart (element_place q used) 8 q.driver 2
  pub index_flags : Apart (index_place q) 2 q.driver 2

-- 2. What a take finds, and what a give comes to

-- no buffer reaches past the last address
abbrev pub NoneWraps : List Span → Type 0
NoneWraps [] = Unit {0}
NoneWraps (s ∷ ss) = (s.addr + s.len ≤ 2 ^ 64) × NoneWraps ss

-- the bytes of buffers, in the order of the chain
abbrev pub spans_bytes : (ℕ → ℕ) → List Span → List ℕ
spans_bytes m ss = flat_map (λ s. bytes_at m s.addr s.len) ss

-- the first bytes of buffers, at most so many
abbrev pub cut : ℕ → List Span → List Span
cut n [] = []
cut n (s ∷ ss) = first n s ∷ cut (n - s.len) ss

-- these bytes lie in the chain's writable buffers, the used ring has one more element and its index, and nothing else changed
pub record GivenSo (before after : ℕ → ℕ) (q : QueueRegs) (used head : ℕ) (spans : List Span) (bytes : List ℕ) : Type 0 where
  pub content : spans_bytes after spans ≡ bytes
  pub element : bytes_at after (element_place q used) 8 ≡ little_bytes 4 head ++ little_bytes 4 (length bytes)
  pub index : bytes_at after (index_place q) 2 ≡ little_bytes 2 ((used + 1) % 65536)
  pub elsewhere : (x : ℕ) → AllApart spans x 1 → Apart (element_place q used) 8 x 1 → Apart (index_place q) 2 x 1 → after x ≡ before x

-- the driver wants an interrupt (2.7.7)
abbrev pub is_wanted : (ℕ → ℕ) → QueueRegs → Bool
is_wanted m q = little_number 2 (bytes_at m q.driver 2) % 2 == 0

-- 3. A round of the entropy device

-- the device then: both indices of the queue rose, and a buffer was used
abbrev pub entropy_after : EntropyState → QueueRegs → EntropyState
entropy_after e q = with_used_buffer (record e { last = index_raised e.last q.number; used = index_raised e.used q.number })

-- the next random bytes lie in the chain, as many as it has room for, and the interrupt was raised exactly where the driver wants one
pub record EntropyMeans (w : World) (e : EntropyState) (q : QueueRegs) (took : Took) (r : Performed (End EntropyState) EntropyState) : Type 0 where
  pub given : GivenSo w.memory r.world.memory q (slice_index e.used q.number) took.head took.chain.writable (bytes_at w.random w.drawn (total took.chain.writable))
  pub drawn : r.world.drawn ≡ w.drawn + total took.chain.writable
  pub raised : r.world.raised ≡ (if is_wanted w.memory q then w.raised + 1 else w.raised)
  pub end : r.end ≡ Over (entropy_after e q)
