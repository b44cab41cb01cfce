-- The answer to a machine file, from the answer to its table.
use Rattle.std.proofs.Common.{◌≡◌, ℕ, List, [], Result, Ok, Err, IfOk, IfErr, refl}
use Rattle.toml.specs.Data.{Members}
use Rattle.tv_machine_file.specs.declared.fault.FileFault.{FileFault}
use Rattle.tv_machine_file.specs.declared.fault.FileFault.TheVariants.{NotToml, Unknown, Missing, Kind, Range, Twice, Overlap, Memory}
use Rattle.tv_machine.specs.declared.machine.Machine.{Machine}
use Rattle.tv_machine_file.specs.Keys.{Tells}
use Rattle.tv_machine.specs.Valid.{IsValid}
use Rattle.tv_machine_file.proofs.Validity.{machine_probes, valid_machine}
use Rattle.tv_machine_file.specs.DeviceFiles.{AreProbes}
use Rattle.tv_machine_file.specs.MachineFiles.{IsAnswer, IsToml, file_faults, machine_of}

pub answer : (bytes : List ℕ) (t : Members) (r : Result Machine FileFault) → IsToml bytes t
    → IfOk r (λ _. file_faults t ≡ []) → IfOk r (λ m. m ≡ machine_of t) → IfErr r (Tells (file_faults t)) → IsAnswer bytes r
answer bytes t (Ok machine) toml ok value fault = record { table = t; toml = toml; faultless = ok; is = value }
answer bytes t (Err NotToml) toml ok value fault = absurd (fault.0 refl)
answer bytes t (Err Memory) toml ok value fault = tt
answer bytes t (Err (Unknown key)) toml ok value fault = record { table = t; toml = toml; is_first = fault.1 (λ e. cc) }
answer bytes t (Err (Missing key)) toml ok value fault = record { table = t; toml = toml; is_first = fault.1 (λ e. cc) }
answer bytes t (Err (Kind key)) toml ok value fault = record { table = t; toml = toml; is_first = fault.1 (λ e. cc) }
answer bytes t (Err (Range key)) toml ok value fault = record { table = t; toml = toml; is_first = fault.1 (λ e. cc) }
answer bytes t (Err (Twice key)) toml ok value fault = record { table = t; toml = toml; is_first = fault.1 (λ e. cc) }
answer bytes t (Err (Overlap key)) toml ok value fault = record { table = t; toml = toml; is_first = fault.1 (λ e. cc) }

pub valid_answer : (t : Members) (r : Result Machine FileFault) → IfOk r (λ _. file_faults t ≡ []) → IfOk r (λ m. m ≡ machine_of t) → IfOk r IsValid
valid_answer t (Ok machine) ok value = rw value (valid_machine t ok)
valid_answer t (Err fault) ok value = tt

pub probes_answer : (t : Members) (r : Result Machine FileFault) → IfOk r (λ _. file_faults t ≡ []) → IfOk r (λ m. m ≡ machine_of t) → IfOk r (λ m. AreProbes m.device)
probes_answer t (Ok machine) ok value = rw value (machine_probes t ok)
probes_answer t (Err fault) ok value = tt
