-- The machine of a run is valid.
use Rattle.std.proofs.Common.{◌≡◌, ℕ, [], ap, arith}
use Rattle.tv_base.specs.declared.limits.TheConstants.{FLAT_RAM_BYTES}
use Rattle.tv_machine.specs.Machines.{flat_machine}
use Rattle.tv_machine.specs.Valid.{IsValid, IsWithin}
use Rattle.tv_machine.specs.declared.machine.Machine.{Machine}

-- the flat machine with two harts, and with other limits
pub given_valid : (m : Machine) (tube records steps : ℕ) → m ≡ flat_machine → IsValid m → IsWithin 1 256 tube → IsWithin 1 1000 records → IsWithin 1 100000 steps
    → (m.ram ≡ FLAT_RAM_BYTES) × (m.device ≡ [])
    × IsValid (record m { harts = 2; steps = steps; journal_entries = records; tube = tube })
given_valid m tube records steps flat V in_tube in_records in_steps = (
  ap (λ (x : Machine). x.ram) flat,
  ap (λ (x : Machine). x.device) flat,
  record {
    image = V.image;
    ram = V.ram;
    pages = V.pages;
    harts = (omega arith, omega arith);
    steps = (in_steps.0, omega (arith, in_steps.1));
    journal_entries = (in_records.0, omega (arith, in_records.1));
    journal_bytes = V.journal_bytes;
    tube = (in_tube.0, omega (arith, in_tube.1));
    lines = V.lines;
    sockets = V.sockets;
    distinct_sockets = V.distinct_sockets;
    slots = V.slots;
    devices = V.devices;
    distinct_files = V.distinct_files;
    one_entropy = V.one_entropy;
  },
)
