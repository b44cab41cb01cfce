-- Lists of queues.
use Rattle.std.proofs.Common.{◌≡◌, ◌≤◌, ℕ, List, length, replicate, take, drop, slice_set, ◌∙◌, ap, sym, subst}
use Rattle.std.specs.List.{All, refill}
use Rattle.std.proofs.Math.Seq.{take-append_seam}
use Rattle.std.proofs.lemmas.Bool.{false≢true}
use Rattle.std.proofs.lemmas.List.{length-set, take-replicate}
use Rattle.std.proofs.lemmas.List.Elements.{All-set, All-replicate}
use Rattle.tv_transport.specs.declared.registers.QueueState.{QueueState}
use Rattle.tv_transport.specs.Registers.{IsSound, no_queue}

-- a list written whole
refill_whole : (xs ws : List QueueState) → length ws ≡ length xs → refill (length xs) xs ws ≡ ws
refill_whole xs ws e = rw (← e) (take-append_seam ws (drop (length ws) xs))

-- one queue is replaced by a sound one
pub sound_set : (xs ys : List QueueState) (n : ℕ) (q : QueueState) → ys ≡ xs → IsSound q → All IsSound xs → All IsSound (refill (length xs) xs (slice_set ys n q))
sound_set xs ys n q e s all =
    let f : length (slice_set ys n q) ≡ length xs = length-set ys n q ∙ ap length e in
    subst (All IsSound) (sym (refill_whole xs (slice_set ys n q) f)) (All-set IsSound ys n q s (subst (All IsSound) (sym e) all))

-- queues that the driver has not set up
pub fresh_some : (n : ℕ) → n ≤ 255 → take n (replicate 255 no_queue) ≡ replicate n no_queue
fresh_some n h = take-replicate n 255 no_queue h

pub sound_fresh : (n : ℕ) → All IsSound (replicate n no_queue)
sound_fresh n = All-replicate IsSound n no_queue (λ e. absurd (false≢true e))
