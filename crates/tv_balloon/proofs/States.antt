-- The balloon's state after a give, and what it means to give a chain back with no byte in it.
use Rattle.std.proofs.Common.{◌≡◌, ◌≤◌, ℕ, List, [], ◌∷◌, Bool, take, min, true, Some, None, refl, arith}
use Rattle.tv_items.specs.declared.action.Action.TheVariants as action
use Rattle.tv_script.specs.Scripts.{Over, Stop, Ask, Tell, ◌>>=◌}
use Rattle.tv_script.specs.Services.{Idle}
use Rattle.tv_virtio.specs.declared.queue.QueueRegs.{QueueRegs}
use Rattle.tv_virtio.specs.declared.queue.Span.{Span}
use Rattle.tv_virtio.specs.Spans.{piece_count}
use Rattle.tv_virtio.specs.Queue.{write_spans, give_chain, hand_back}
use Rattle.tv_vring.proofs.Pieces.{write_pieces_end}
use Rattle.tv_vring.specs.Rings.{Ring, GaveSo}
use Rattle.tv_plan.specs.Serving.{index_raised, interrupted, broken_off}
use Rattle.tv_plan.specs.Balloon.{BalloonState, verdict, balloon_rested, balloon_broke, balloon_broken, balloon_refused, balloon_finish, balloon_begins}
use Rattle.tv_balloon.specs.Parts.{Parts, state_of}
use Rattle.tv_balloon.specs.declared.balloon.Balloon.TheInside.{Inside}

abbrev pub seen : Inside → Parts
seen b =
    record {
      registers = b.regs;
      ring = b.ring;
      pages = b.pages;
      actual = b.actual;
      waiting = b.waiting;
      held = b.held;
      serving = b.serving;
      returning = b.returning;
      interrupting = b.interrupting;
    }

pub gave_back : (b : Parts) (q : QueueRegs) (new : Ring) (wanted : Bool) → GaveSo b.ring new q true
    → balloon_finish (record (state_of b) { used = index_raised b.ring.used q.number; returning = None }) wanted ≡ balloon_finish (record (state_of (record b { ring = new })) { returning = None }) wanted
gave_back b q new wanted h = rw (h.used, h.last) refl

-- no byte is written to buffers
no_byte : (spans : List Span) → write_spans spans [] ≡ Over tt
unfolding write_spans ◌>>=◌
no_byte [] = refl
no_byte (s ∷ ss) =
    let e : min s.len 0 ≡ 0 = omega arith in
    let k : piece_count (record { addr = s.addr; len = 0 }) ≤ 0 = omega arith in
    rw (e, write_pieces_end (record { addr = s.addr; len = 0 }) 0 [] k) (no_byte ss)

-- a chain goes back with nothing written, whatever its buffers
pub nothing_given : (q : QueueRegs) (used head : ℕ) (spans : List Span) (bytes : List ℕ) → give_chain q used head spans (take 0 bytes) ≡ hand_back q used head 0
unfolding ◌>>=◌
nothing_given q used head spans bytes = rw no_byte refl

-- what the balloon does by its state
pub broken_some : (b : BalloonState) (tag : ℕ) → b.waiting ≡ Some tag → balloon_broken b ≡ Tell (verdict tag 5 0) (broken_off b.registers (balloon_broke b))
broken_some b tag e = rw e refl

pub begins_interrupting : (b : BalloonState) → b.interrupting ≡ true
    → balloon_begins b b.interrupting b.returning b.serving ≡ Ask action.Raise (interrupted (Stop (Idle (balloon_rested b))) (balloon_refused b))
begins_interrupting b e = rw e refl
