use Rattle.tv_guest.proofs.Ports.{not_memory, offset_fits, port_loaded}
use Rattle.tv_guest.proofs.local.Local.load_port.Goals as goal

pub load_target-requires-clause-off : goal.load_target-requires-clause-off
load_target-requires-clause-off c =
    offset_fits c.self.inside.bus c.self.inside.devices c.args.addr c.args.width c.in-Some.target c.in-Some.off c.self.invariant.0 c.in-Some.ensures.range

pub load_target-requires-clause-port : goal.load_target-requires-clause-port
load_target-requires-clause-port c =
    not_memory c.self.inside.bus c.self.inside.devices c.args.addr c.args.width c.in-Some.target c.in-Some.off c.self.invariant.0 c.in-Some.ensures.range

pub returns-in-Some : goal.returns-in-Some
returns-in-Some c =
    port_loaded c.args.self.now c.load_target.new.self c.load_target.result c.args.width c.args.addr c.self.inside.bus c.in-Some.target c.in-Some.off
    (rw (← c.self.view_is) c.self.invariant.0) c.in-Some.ensures.range c.load_target.ensures
