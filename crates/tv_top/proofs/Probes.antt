-- The probes of a machine are its devices as a run begins.
use Rattle.std.proofs.Common.{◌≡◌, ℕ, ◌+◌, List, [], ◌∷◌, length, map, replicate, refl, ap, sym, ◌∙◌}
use Rattle.tv_machine.specs.declared.kinds.DeviceKind.{DeviceKind}
use Rattle.tv_machine.specs.declared.kinds.DeviceSpec.{DeviceSpec}
use Rattle.tv_machine.specs.declared.machine.Machine.{Machine}
use Rattle.tv_model.specs.Monitor.{AreDevices}
use Rattle.tv_plan.specs.Devices.{DeviceState}
use Rattle.tv_plan.specs.Probe.{ProbeState, new_probe}
use Rattle.tv_runner.specs.Engines.{AreProbes}
use Rattle.tv_spec.specs.Setup.{device_of, first_devices}

first : (slot : ℕ) (devices : List DeviceSpec) → AreProbes devices → map (λ (p : ProbeState). DeviceState.Probe p) (replicate (length devices) new_probe) ≡ first_devices slot devices
first slot [] are = refl
first slot (device ∷ devices) are =
    ap (λ (ds : List DeviceState). DeviceState.Probe new_probe ∷ ds) (first (slot + 1) devices are.1)
    ∙ ap (λ (k : DeviceKind). device_of k slot device ∷ first_devices (slot + 1) devices) (sym are.0)

pub probes_first : (machine : Machine) (probes : List ProbeState) → AreProbes machine.device → probes ≡ replicate (length machine.device) new_probe
    → AreDevices machine (map (λ (p : ProbeState). DeviceState.Probe p) probes)
probes_first machine probes are is = ap (λ (ps : List ProbeState). map (λ (p : ProbeState). DeviceState.Probe p) ps) is ∙ first 0 machine.device are
