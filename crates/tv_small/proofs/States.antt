-- The entropy device's state after a fill.
use Rattle.std.proofs.Common.{◌≡◌, ℕ, ◌≤◌, length, take, refl, arith}
use Rattle.std.proofs.lemmas.List.{take_all}
use Rattle.tv_virtio.specs.declared.queue.QueueRegs.{QueueRegs}
use Rattle.tv_vring.specs.Rings.{Ring}
use Rattle.tv_serving.specs.Steps.{took_of}
use Rattle.tv_plan.specs.Entropy.{hand}
use Rattle.tv_small.specs.Filling.{FilledSo}
use Rattle.tv_small.specs.Parts.{Parts, state_of}
use Rattle.tv_small.specs.declared.entropy.EntropyDevice.TheInside.{Inside}

abbrev pub seen : Inside → Parts
seen e = record { registers = e.regs; ring = e.ring; serving = e.serving }

pub filled_hand : (e : Parts) (q : QueueRegs) (new : Ring) (head len : ℕ) → FilledSo e.ring new → length new.answered ≡ len
    → hand (state_of e) q (took_of e.ring head) new.answered ≡ hand (state_of (record e { ring = new })) q (took_of new head) (take len new.answered)
filled_hand e q new head len h l =
    let k : length new.answered ≤ len = omega arith in
    rw (h.last, h.used, h.chain, take_all len new.answered k) refl
