use Rattle.tv_core.proofs.Begins.{new_call}
use Rattle.tv_core.proofs.proxied.Proxied.new.Goals as goal

pub invariant_of-result : goal.invariant_of-result
invariant_of-result c =
    (new_call c.args.machine.now c.in_ok-copy_machine.field-0 c.args.image.now c.in_ok-copy_bytes.field-0.items c.in_ok-new.field-0 c.in_ok-of_machine.field-0
    c.in_ok-new_sides.field-0.items c.in_ok-new_ring.field-0 c.in_ok-new-2.field-0
    c.in_ok-copy_machine.ensures c.in_ok-copy_bytes.ensures c.in_ok-new.ensures c.in_ok-of_machine.ensures.grants c.in_ok-of_machine.ensures.theirs
    c.in_ok-new_sides.ensures c.in_ok-new_ring.ensures c.in_ok-new-2.ensures c.requires.valid c.requires.fits).0

pub returns : goal.returns
returns c =
    (new_call c.args.machine.now c.in_ok-copy_machine.field-0 c.args.image.now c.in_ok-copy_bytes.field-0.items c.in_ok-new.field-0 c.in_ok-of_machine.field-0
    c.in_ok-new_sides.field-0.items c.in_ok-new_ring.field-0 c.in_ok-new-2.field-0
    c.in_ok-copy_machine.ensures c.in_ok-copy_bytes.ensures c.in_ok-new.ensures c.in_ok-of_machine.ensures.grants c.in_ok-of_machine.ensures.theirs
    c.in_ok-new_sides.ensures c.in_ok-new_ring.ensures c.in_ok-new-2.ensures c.requires.valid c.requires.fits).1
