use Rattle.tv_plan.specs.Devices.{DeviceState}
use Rattle.tv_probed.proofs.Working.{rests_call, took_call}
use Rattle.tv_probed.proofs.probed.Probed.take.Goals as goal

pub take-requires-clause-rests : goal.take-requires-clause-rests
take-requires-clause-rests c =
    rests_call c.self.inside.core c.self.inside.dev c.self.inside.harts (DeviceState.Probe c.self.inside.probe) (DeviceState.Probe c.repeat.new.device)
    c.self.inside.heard.items c.as_slice.result.now c.self.inside.busy c.is_some.result c.is_some-2.result c.self.inside.due c.repeat.result c.self.invariant
    c.if-self.false c.is_some.ensures c.if-is_some.false c.as_slice.ensures.value c.repeat.ensures.repeated c.is_some-2.ensures c.if-is_some-2.false

pub invariant_of-self-2 : goal.invariant_of-self-2
invariant_of-self-2 c =
    took_call c.self.inside.core c.take.new.core c.self.inside.dev c.self.inside.harts c.in-Some.tag c.in-Some.item (DeviceState.Probe c.self.inside.probe)
    (DeviceState.Probe c.repeat.new.device) (DeviceState.Probe c.act_on-acted.new.probe) c.self.inside.heard.items c.as_slice.result.now c.clear.new.self.items
    c.self.inside.busy c.is_some.result c.is_some-2.result c.self.inside.due c.due_for-self-inside.result c.repeat.result c.act_on-acted.result c.self.invariant
    c.if-self.false c.is_some.ensures c.if-is_some.false c.as_slice.ensures.value c.repeat.ensures.repeated c.is_some-2.ensures c.if-is_some-2.false
    c.in-Some.ensures c.act_on-acted.ensures c.clear.ensures.items c.due_for-self-inside.ensures
