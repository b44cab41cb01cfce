use Rattle.std.proofs.Common.{◌≡◌, Some, subst}
use Rattle.tv_blk.proofs.States.{begins_resize}
use Rattle.tv_blk.proofs.block.BlockRounds.begin.Goals as goal
use Rattle.tv_plan.specs.Block.{BlockState}
use Rattle.tv_script.specs.Scripts.{AwaitsAll, Script}
use Rattle.tv_script.specs.Services.{End}

pub resize-requires-clause-awaits : goal.resize-requires-clause-awaits
resize-requires-clause-awaits g c =
    let due : c.args.self.now.resizing ≡ Some c.in-Some-default.resize = rw (← c.self.view_is) c.in-Some-default.is-0 in
    subst (λ (s : Script (End BlockState) BlockState). AwaitsAll (g.P.Port.awaits c.args.port.now) s) (begins_resize c.args.self.now c.in-Some-default.resize due) c.requires.awaits
