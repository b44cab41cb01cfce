-- The buffers of a chain.
use Rattle.std.specs.Prelude.{ℕ, ◌+◌, ◌-◌, ◌*◌, ◌/◌, ◌%◌, ◌^◌, List, min, map}
use Rattle.std.specs.List.{range_with_len, sum_by}
use Rattle.tv_base.specs.declared.limits.TheConstants.{PIECE_BYTES}
use Rattle.tv_virtio.specs.declared.queue.Span.{Span}

-- the bytes that a device reads and those that it writes, in the order of the chain
pub record Spans : Type 0 where
  pub readable : List Span
  pub writable : List Span

-- how many bytes there are
abbrev pub total : List Span → ℕ
total spans = sum_by (λ s. s.len) spans

-- the pieces of a buffer, in order: each has as many bytes as one action may have, but for the last, which has what is left
abbrev pub piece_count : Span → ℕ
piece_count s = (s.len + (PIECE_BYTES - 1)) / PIECE_BYTES

abbrev pub piece : Span → ℕ → Span
piece s n = record { addr = (s.addr + n * PIECE_BYTES) % 2 ^ 64; len = min (s.len - n * PIECE_BYTES) PIECE_BYTES }

unfoldable pub pieces : Span → List Span
pieces s = map (piece s) (range_with_len 0 (piece_count s))

-- a buffer's first bytes, at most so many
abbrev pub first : ℕ → Span → Span
first n s = record { addr = s.addr; len = min s.len n }
