use Rattle.tv_runner.proofs.CoreRuns.{ready_call}
use Rattle.std.proofs.Common.{refl}
use Rattle.tv_runner.proofs.engine.Engine.new.Goals as goal

pub returns-clause-ready : goal.returns-clause-ready
returns-clause-ready c =
    ready_call c.args.machine.now c.args.image.now c.in_ok-core.core c.in_ok-devices.devices.items c.args.machine.now.harts c.requires.valid c.requires.probes c.in_ok-core.ensures c.in_ok-devices.ensures refl
