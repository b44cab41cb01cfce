use Rattle.std.proofs.Common.{◌≡◌, ◌++◌, ℕ, List, [], ◌∷◌, length, replicate, sym, ap, ◌∙◌, arith}
use Rattle.std.proofs.lemmas.Grind.{replicate_next}
use Rattle.tv_machine.specs.declared.kinds.DeviceSpec.{DeviceSpec}
use Rattle.tv_plan.specs.Probe.{ProbeState, new_probe}
use Rattle.tv_runner.proofs.CoreRuns.{same_ok}
use Rattle.tv_runner.proofs.engine.new_probes.Goals as goal

pub loop-device-init : goal.loop-device-init
loop-device-init c = c.new-probes.ensures.items

pub loop-device-preserved : goal.loop-device-preserved
loop-device-preserved c =
    let n : ℕ = c.loop-device._device-index in
    let same : c.in_ok-probe.probe ≡ new_probe = same_ok c.in_ok-probe.probe new_probe (sym c.in_ok-probe.was ∙ c.new.ensures) in
    c.in-Ok.ensures.items
    ∙ ap (λ (xs : List ProbeState). xs ++ c.in_ok-probe.probe ∷ []) c.loop-device.invariant
    ∙ ap (λ (q : ProbeState). replicate n new_probe ++ q ∷ []) same
    ∙ sym (replicate_next n new_probe)

pub returns : goal.returns
returns c =
    let count = ap (λ (ds : List DeviceSpec). length ds) c.as_slice-device-items.ensures in
    let within = c.loop-device.auto._device-index-end in
    let over = c.loop-device-test.false in
    let all : c.loop-device._device-index ≡ length c.args.machine.now.device = omega (arith, count, within, over) in
    c.loop-device.invariant ∙ ap (λ (n : ℕ). replicate n new_probe) all
