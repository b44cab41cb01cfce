-- The block device's state after a request.
use Rattle.std.proofs.Common.{◌≡◌, ℕ, List, ◌≤◌, length, take, Some, refl, arith}
use Rattle.std.proofs.lemmas.List.{take_all}
use Rattle.tv_blk.specs.Parts.{Parts, state_of}
use Rattle.tv_blk.specs.Reading.{AnsweredSo}
use Rattle.tv_blk.specs.declared.block.Block.TheInside.{Inside}
use Rattle.tv_blk.specs.declared.block.Resize.{Resize}
use Rattle.tv_items.specs.declared.action.Action.TheVariants as action
use Rattle.tv_plan.specs.Block.{block_hand, block_plan, block_stopped, resized}
use Rattle.tv_script.specs.Scripts.{Ask}
use Rattle.tv_serving.specs.Steps.{took_of}
use Rattle.tv_virtio.specs.declared.queue.QueueRegs.{QueueRegs}
use Rattle.tv_virtio.specs.declared.queue.QueueStop.{QueueStop}
use Rattle.tv_vring.specs.Rings.{Ring, with_answered}

abbrev pub seen : Inside → Parts
seen b = record { disk = b.disk; registers = b.regs; ring = b.ring; serving = b.serving; resizing = b.resizing }

pub responded_hand : (e : Parts) (q : QueueRegs) (new : Ring) (head : ℕ) (bytes : List ℕ) → AnsweredSo e.ring new
    → block_hand (state_of e) q (took_of e.ring head) bytes ≡ block_hand (state_of (record e { ring = new })) q (took_of new head) bytes
responded_hand e q new head bytes h = rw (h.last, h.used, h.chain) refl

pub responded_stop : (e : Parts) (new : Ring) (why : QueueStop) → AnsweredSo e.ring new → block_stopped (state_of e) why ≡ block_stopped (state_of (record e { ring = new })) why
responded_stop e new why h = rw (h.last, h.used) refl

pub completed_hand : (e : Parts) (q : QueueRegs) (new : Ring) (head len : ℕ) (bytes : List ℕ) → new ≡ with_answered e.ring bytes → length new.answered ≡ len
    → block_hand (state_of e) q (took_of e.ring head) bytes ≡ block_hand (state_of (record e { ring = new })) q (took_of new head) (take len new.answered)
completed_hand e q new head len bytes h l =
    let k : length new.answered ≤ len = omega arith in
    rw (take_all len new.answered k, h) refl

-- a resize that is due comes first
pub begins_resize : (e : Parts) (r : Resize) → e.resizing ≡ Some r → block_plan.begins (state_of e) ≡ Ask (action.SetLen r.sectors) (resized (state_of e) r.tag r.sectors)
begins_resize e r h = rw h refl
