use Rattle.std.proofs.Common.{◌≡◌, ◌∙◌, ap}
use Rattle.tv_spec.specs.declared.Phase.{Phase}
use Rattle.tv_spec.specs.Devices.{with_phase}
use Rattle.tv_model.specs.MonitorState.{SlotState}
use Rattle.tv_model.specs.Parts.{seen}
use Rattle.tv_model.proofs.Steps.{same_item, step_served}
use Rattle.tv_model.proofs.parts.Parts.serve.Goals as goal

pub returns : goal.returns
returns g c =
    let same : c.index_mut.result.now ≡ c.index.result.now =
    same_item c.args.self.now.slots.items c.in_ok-number.number c.index_mut.result.now c.index.result.now c.in_ok-number.ensures.ok.1 c.index_mut.ensures.value c.index.ensures in
    step_served (seen c.args.self.now) c.in_ok-number.number c.args.dev c.args.way c.in_ok-action.action c.act-heard.result c.index.result.now c.served.new.self c.act-heard.new.self c.act-heard.new.grants
    c.in_ok-number.ensures.ok.0 c.in_ok-number.ensures.ok.1 c.in_ok-number.ensures.ok.2 c.index.ensures c.in_ok-action.ensures
    (ap (λ (s : SlotState). s.run) c.served.ensures ∙ ap (λ (s : SlotState). with_phase s.run (Phase.Served c.act-heard.result)) same)
    c.act-heard.ensures.direct c.act-heard.ensures.guest c.act-heard.ensures.grants c.requires.way
