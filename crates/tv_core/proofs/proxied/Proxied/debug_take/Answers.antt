use Rattle.std.proofs.Common.{arith, length}
use Rattle.tv_core.specs.Fields.{parts_of, seen_in}
use Rattle.tv_core.proofs.Ended.{debug_small, handed_as, handed_call, handed_small}
use Rattle.tv_core.proofs.proxied.Proxied.debug_take.Goals as goal

pub overflow_add-self : goal.overflow_add-self
overflow_add-self c =
    let few = handed_small (parts_of c.self.inside) c.args.out.now c.read_into-count.result c.self.invariant c.read_into-count.ensures.count in
    let small = debug_small (parts_of c.self.inside) c.self.invariant in
    omega (arith, few, small)

pub invariant_of-self : goal.invariant_of-self
invariant_of-self c =
    (handed_call (parts_of c.self.inside) c.args.out.now c.read_into-count.new.dst c.read_into-count.result c.read_into-count.new.self
    c.read_into-count.ensures.count c.read_into-count.ensures.read c.read_into-count.ensures.items c.self.invariant).0

pub returns : goal.returns
returns c =
    handed_as (seen_in c.self.inside) c.args.self.now _ c.read_into-count.new.dst (length c.args.out.now) c.read_into-count.result c.self.view_is
    (handed_call (parts_of c.self.inside) c.args.out.now c.read_into-count.new.dst c.read_into-count.result c.read_into-count.new.self
    c.read_into-count.ensures.count c.read_into-count.ensures.read c.read_into-count.ensures.items c.self.invariant).1
