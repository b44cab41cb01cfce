use Rattle.tv_model.specs.Parts.{seen}
use Rattle.tv_model.proofs.Keeping.{ends_kept}
use Rattle.tv_model.proofs.monitor.Monitor.end.Goals as goal

pub invariant_of-self : goal.invariant_of-self
invariant_of-self g c =
    ends_kept (seen c.self.inside.parts) (seen c.end.new.self) c.args.why c.end.result c.self.invariant c.end.ensures
