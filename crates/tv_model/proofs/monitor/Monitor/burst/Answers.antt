use Rattle.tv_model.specs.Parts.{seen}
use Rattle.tv_model.proofs.Keeping.{bursts_kept}
use Rattle.tv_model.proofs.monitor.Monitor.burst.Goals as goal

pub invariant_of-self : goal.invariant_of-self
invariant_of-self g c =
    bursts_kept (seen c.self.inside.parts) (seen c.burst.new.self) c.args.hart c.args.most c.burst.result c.self.invariant c.burst.ensures
