use Rattle.tv_model.specs.Parts.{seen}
use Rattle.tv_model.proofs.Keeping.{one_step}
use Rattle.tv_model.proofs.monitor.step.Goals as goal

pub returns-in-Ok : goal.returns-in-Ok
returns-in-Ok g c =
    one_step (seen c.args.parts.now) (seen c.burst.new.self) c.args.entry.now c.in-Hart.hart c.in-Ok.field-0 c.in-Hart.is c.in-Ok.ensures
