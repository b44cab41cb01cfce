use Rattle.tv_plan.specs.Devices.{DeviceState}
use Rattle.tv_probed.proofs.Working.{sent_call}
use Rattle.tv_probed.proofs.probed.Probed.send.Goals as goal

pub invariant_of-self : goal.invariant_of-self
invariant_of-self c =
    sent_call c.self.inside.core c.send-self-inside.new.core c.self.inside.dev c.self.inside.harts (DeviceState.Probe c.self.inside.probe) c.self.inside.heard.items c.self.inside.busy
    c.send-self-inside.result c.self.inside.due c.self.invariant c.if-self.false c.send-self-inside.ensures
