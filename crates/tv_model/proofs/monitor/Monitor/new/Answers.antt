use Rattle.std.proofs.Common.{rules, map}
use Rattle.tv_model.proofs.First.{monitor_first, monitor_valid}
use Rattle.tv_model.proofs.monitor.Monitor.new.Goals as goal

pub invariant_of-result : goal.invariant_of-result
invariant_of-result g c =
    monitor_valid _ c.args.machine.now c.args.image.now c.requires.valid c.requires.fits
    (monitor_first c.args.machine.now c.args.image.now (map g.D.Device.state c.args.devices.now) c.in_ok-guest.guest c.in_ok-grants.grants c.in_ok-slots.slots.items c.new-2.result.items
    c.requires.devices c.in_ok-guest.ensures c.in_ok-grants.ensures.grants c.in_ok-grants.ensures.theirs c.in_ok-slots.ensures (search rules))

pub returns : goal.returns
returns g c =
    monitor_first c.args.machine.now c.args.image.now (map g.D.Device.state c.args.devices.now) c.in_ok-guest.guest c.in_ok-grants.grants c.in_ok-slots.slots.items c.new-2.result.items
    c.requires.devices c.in_ok-guest.ensures c.in_ok-grants.ensures.grants c.in_ok-grants.ensures.theirs c.in_ok-slots.ensures (search rules)
