use Rattle.std.proofs.Common.{refl}
use Rattle.tv_top.specs.declared.refusal.Refusal.TheVariants as refusal
use Rattle.tv_top.proofs.Chains.{passed-on}
use Rattle.tv_top.proofs.files.take_machine.Goals as goal

pub returns-in_ok-flat_machine-in-Flat-clause-takes : goal.returns-in_ok-flat_machine-in-Flat-clause-takes
returns-in_ok-flat_machine-in-Flat-clause-takes g c =
    rw c.in-Flat.is (record { holds = c.in_ok-flat_machine-in-Flat.ensures.machine; still = refl })

pub returns-in_err-flat_machine-in-Flat-clause-takes : goal.returns-in_err-flat_machine-in-Flat-clause-takes
returns-in_err-flat_machine-in-Flat-clause-takes g c =
    rw (c.in-Flat.is, passed-on (λ machine. machine) c.from_residual.result refusal.OutOfMemory c.from_residual.ensures)
    (record { holds = tt; still = refl })
