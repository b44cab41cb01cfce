use Rattle.std.proofs.Common.{subst}
use Rattle.tv_blk.proofs.Refusals.{not_written}
use Rattle.tv_blk.proofs.request.write.Goals as goal
use Rattle.tv_plan.specs.Block.{Response, failed}
use Rattle.tv_script.proofs.Scripts.{reached_here}
use Rattle.tv_script.specs.Scripts.{Over, Reached, Script}
use Rattle.tv_virtio.specs.declared.queue.QueueStop.{QueueStop}

pub returns-else-takes-clause-ran : goal.returns-else-takes-clause-ran
returns-else-takes-clause-ran g c =
    subst (λ (s : Script QueueStop Response). Reached g.P.Port.moved c.args.port.now s c.args.port.now (Over failed))
    (not_written c.args.disk.now.sectors c.args.disk.now.readonly c.args.sector c.args.bytes.now c.if-takes.ensures.is) (reached_here _ _ _ (g.met.P.Port.stays _))
