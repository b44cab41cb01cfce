use Rattle.tv_guest.proofs.Ports.{not_memory, offset_fits, port_stored}
use Rattle.tv_guest.proofs.local.Local.store_port.Goals as goal

pub store_target-requires-clause-off : goal.store_target-requires-clause-off
store_target-requires-clause-off c =
    offset_fits c.self.inside.bus c.self.inside.devices c.args.addr c.args.width c.in-Some.target c.in-Some.off c.self.invariant.0 c.in-Some.ensures.range

pub store_target-requires-clause-port : goal.store_target-requires-clause-port
store_target-requires-clause-port c =
    not_memory c.self.inside.bus c.self.inside.devices c.args.addr c.args.width c.in-Some.target c.in-Some.off c.self.invariant.0 c.in-Some.ensures.range

pub returns-in-Some-clause-meaning : goal.returns-in-Some-clause-meaning
returns-in-Some-clause-meaning c = λ hart.
    port_stored c.args.self.now c.store_target.new.self c.store_target.result hart c.args.width c.args.addr c.args.value c.self.inside.bus c.in-Some.target c.in-Some.off
    (rw (← c.self.view_is) c.self.invariant.0) c.in-Some.ensures.range c.store_target.ensures.meaning
