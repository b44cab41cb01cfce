use Rattle.std.proofs.Common.{arith, ◌≡◌, ◌≤◌, length, subst}
use Rattle.std.proofs.lemmas.Grind.{common_steps}
use Rattle.tv_machine.specs.Capabilities.{capabilities}
use Rattle.tv_grants.specs.Machines.{AreNumbered, AreTheirs, machine_grants}
use Rattle.tv_grants.proofs.Numbers.{machine_numbered}
use Rattle.tv_grants.proofs.Theirs.{machine_theirs}
use Rattle.tv_grants.proofs.Grants.of_machine.Goals as goal

pub returns-clause-numbers : goal.returns-clause-numbers
returns-clause-numbers c =
    let is : machine_grants c.args.machine.now ≡ c.loop-slot.grants = grind (arith, common_steps) in
    subst (AreNumbered (capabilities c.args.machine.now)) is (machine_numbered c.args.machine.now)

pub returns-clause-theirs : goal.returns-clause-theirs
returns-clause-theirs c =
    let is : machine_grants c.args.machine.now ≡ c.loop-slot.grants = grind (arith, common_steps) in
    let few : length c.args.machine.now.device ≤ 8 = grind (arith, common_steps) in
    subst (AreTheirs c.args.machine.now.device) is (machine_theirs c.args.machine.now few)
