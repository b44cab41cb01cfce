use Rattle.tv_plan.specs.Devices.{DeviceState}
use Rattle.tv_probed.proofs.Working.{due_call, replied_call}
use Rattle.tv_probed.proofs.probed.Probed.reply.Goals as goal

pub reply-requires-clause-due : goal.reply-requires-clause-due
reply-requires-clause-due c =
    due_call c.self.inside.core c.self.inside.dev c.self.inside.harts c.in-Some.tag c.in-Some.value (DeviceState.Probe c.self.inside.probe) c.self.inside.heard.items
    c.self.inside.busy c.self.inside.due c.self.invariant c.in-Some.is

pub invariant_of-self : goal.invariant_of-self
invariant_of-self c =
    replied_call c.self.inside.core c.reply.new.core c.self.inside.dev c.self.inside.harts c.in-Some.tag c.in-Some.value (DeviceState.Probe c.self.inside.probe)
    c.self.inside.heard.items c.self.inside.busy c.self.inside.due c.self.invariant c.in-Some.is c.reply.ensures
