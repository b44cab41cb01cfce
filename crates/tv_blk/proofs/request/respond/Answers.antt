use Rattle.std.proofs.Common.{rules, ◌∙◌, ℕ, List, ap, subst}
use Rattle.byteorder.specs.Endian.{little_number}
use Rattle.tv_blk.proofs.Refusals.{unknown}
use Rattle.tv_blk.proofs.request.respond.Goals as goal
use Rattle.tv_plan.specs.Block.{Response, unsupported}
use Rattle.tv_script.proofs.Scripts.{reached_here}
use Rattle.tv_script.specs.Scripts.{Over, Reached, Script}
use Rattle.tv_virtio.specs.declared.queue.QueueStop.{QueueStop}

pub returns-in_default-clause-ran : goal.returns-in_default-clause-ran
returns-in_default-clause-ran g c =
    subst (λ (s : Script QueueStop Response). Reached g.P.Port.moved c.args.port.now s c.args.port.now (Over unsupported))
    (unknown c.args.disk.now c.args.ring.now.readable c.args.len c.read_u32-kind.result (c.read_u32-kind.ensures ∙ ap (λ (bytes : List ℕ). little_number 4 bytes) c.readable.ensures) (search rules) (search rules) (search rules) (search rules))
    (reached_here _ _ _ (g.met.P.Port.stays _))
