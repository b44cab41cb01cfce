use Rattle.std.proofs.Common.{◌∙◌, sym, length}
use Rattle.tv_guest.proofs.Looks.{port_fits}
use Rattle.tv_guest.proofs.peek.PeekPlace.store.Goals as goal

-- src/peek.rt
pub store_port-requires : goal.store_port-requires
store_port-requires c = record {
  off = port_fits (length c.self.inside.local.now.local.ram) c.self.inside.local.now.local.devices c.args.addr c.args.width c.in-Some.target c.in-Some.off (sym c.in-Some.is ∙ c.port.ensures);
}
