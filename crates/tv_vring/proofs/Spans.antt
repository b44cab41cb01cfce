-- The buffers of a chain.
use Rattle.std.proofs.Common.{◌≡◌, ◌≤◌, ◌<◌, ℕ, ◌+◌, List, [], ◌∷◌, ◌++◌, length, take, get_or, arith, ap, ◌∙◌}
use Rattle.std.proofs.lemmas.List.Sums.{sum_by-append, sum_by_more, sum_by_more_le}
use Rattle.tv_virtio.specs.declared.queue.Span.{Span}
use Rattle.tv_virtio.specs.Spans.{total}

pub total_more : (ss : List Span) (s : Span) → total (ss ++ s ∷ []) ≡ total ss + s.len
total_more ss s = sum_by-append (λ (s : Span). s.len) ss (s ∷ []) ∙ ap (λ n. total ss + n) (omega arith)

-- one more of the first ones
pub total_next : (ss : List Span) (n : ℕ) (none : Span) → n < length ss → total (take (n + 1) ss) ≡ total (take n ss) + (get_or ss n none).len
total_next ss n none h = sum_by_more (λ (s : Span). s.len) ss n none h

pub total_within : (ss : List Span) (n : ℕ) (none : Span) → n < length ss → total (take n ss) + (get_or ss n none).len ≤ total ss
total_within ss n none h = sum_by_more_le (λ (s : Span). s.len) ss n none h
