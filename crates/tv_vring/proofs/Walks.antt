-- The walk of a chain, one descriptor at a time.
use Rattle.std.proofs.Common.{◌≡◌, ◌<◌, ◌-◌, ℕ, zero, suc, Some, None, refl, ap, arith}
use Rattle.tv_script.specs.Scripts.{Script, Over, Stop, ◌>>=◌}
use Rattle.tv_virtio.specs.Spans.{Spans}
use Rattle.tv_virtio.specs.Queue.{walk, visit, onward, Visited}
use Rattle.tv_virtio.specs.declared.queue.QueueRegs.{QueueRegs}
use Rattle.tv_virtio.specs.declared.queue.QueueStop.{QueueStop}
use Rattle.tv_virtio.specs.declared.queue.QueueStop.TheVariants as stop
use Rattle.tv_virtio.specs.declared.queue.QueueFault.TheVariants as fault

-- the walk after a descriptor that has a next one
pub follow : QueueRegs → ℕ → ℕ → ℕ → Spans → Script QueueStop Spans
follow q at zero next c = Stop (stop.Malformed fault.Loop at)
follow q at (suc left) next c = walk q c next left

pub walk_is : (q : QueueRegs) (c : Spans) (at left : ℕ) → walk q c at left ≡ visit q c at left >>= onward (follow q at left)
unfolding walk follow
walk_is q c at zero = refl
walk_is q c at (suc left) = refl

-- after a descriptor with a next one, and after the last
pub onward_to : (q : QueueRegs) (at left next : ℕ) (v : Visited) → v.next ≡ Some next → 0 < left → onward (follow q at left) v ≡ walk q v.chain next (left - 1)
unfolding follow
onward_to q at zero next v e h = absurd (omega arith)
onward_to q at (suc left) next v e h = rw e (ap (λ (n : ℕ). walk q v.chain next n) (omega arith))

pub onward_end : (q : QueueRegs) (at left : ℕ) (v : Visited) → v.next ≡ None → onward (follow q at left) v ≡ Over v.chain
onward_end q at left v e = rw e refl
