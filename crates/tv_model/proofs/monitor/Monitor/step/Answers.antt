use Rattle.tv_model.specs.Parts.{seen}
use Rattle.tv_model.proofs.Keeping.{steps_kept}
use Rattle.tv_model.proofs.monitor.Monitor.step.Goals as goal

pub invariant_of-self : goal.invariant_of-self
invariant_of-self g c =
    steps_kept (seen c.self.inside.parts) (seen c.step.new.parts) c.args.entry.now c.step.result c.self.invariant c.step.ensures
