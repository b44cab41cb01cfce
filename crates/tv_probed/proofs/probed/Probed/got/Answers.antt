use Rattle.tv_plan.specs.Devices.{DeviceState}
use Rattle.tv_probed.proofs.Working.{got_call}
use Rattle.tv_probed.proofs.probed.Probed.got.Goals as goal

pub invariant_of-self-2 : goal.invariant_of-self-2
invariant_of-self-2 c =
    got_call c.self.inside.core c.got.new.core c.self.inside.dev c.self.inside.harts (DeviceState.Probe c.self.inside.probe) c.self.inside.heard.items c.reserve.new.self.items
    c.push_reserved.new.self.items c.self.inside.busy c.self.inside.due c.in-Some.heard c.self.invariant c.reserve.ensures.items c.push_reserved.ensures.items
    c.in-Some.ensures.brings c.in-Some.ensures.fits
