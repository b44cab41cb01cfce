use Rattle.std.proofs.Common.{◌≡◌, ◌∙◌, ◌||◌, not, refl}
use Rattle.tv_core.proofs.Closing.{gates_all, gates_more, gates_none}
use Rattle.tv_core.proofs.proxied.turns.gates.Goals as goal
use Rattle.tv_core.proofs.proxied.turns.gates.Goals.{then-full, else-full}

pub loop-slot-init : goal.loop-slot-init
loop-slot-init c = gates_none c.args.ring.now.items c.args.sides.now c.args.room _ c.len.result c.len.ensures.len refl refl refl

pub loop-slot-preserved : goal.loop-slot-preserved
loop-slot-preserved c =
    let shut : c.if-full.closed ≡ (c.is_full-full.result || not c.args.room) =
    elim c.if-full.branch [ then-full w ↦ w.closed-is ∙ rw w.if-full.true refl | else-full w ↦ w.closed-is ∙ rw w.if-full.false refl ] in
    gates_more c.args.ring.now.items c.args.sides.now c.args.room c.loop-slot.closed c.loop-slot.slot c.is_full-full.result c.if-full.closed c.index-sides-slot.result
    c.loop-slot.invariant c.loop-slot-test.true c.requires c.index-sides-slot.is c.is_full-full.ensures shut

pub returns : goal.returns
returns c = gates_all c.args.ring.now.items c.args.sides.now c.args.room c.loop-slot.closed c.loop-slot.slot c.loop-slot.invariant c.loop-slot-test.false
