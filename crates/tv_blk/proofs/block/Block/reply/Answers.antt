use Rattle.std.proofs.Common.{◌+◌, subst, sym}
use Rattle.tv_blk.proofs.States.{seen, completed_hand}
use Rattle.tv_blk.proofs.block.Block.reply.Goals as goal
use Rattle.tv_blk.specs.Parts.{state_of}
use Rattle.tv_blk.specs.Requests.{response_of}
use Rattle.tv_plan.specs.Block.{BlockState, response_bytes}
use Rattle.tv_script.specs.Scripts.{AwaitsAll, Script}
use Rattle.tv_script.specs.Services.{End, TurnedSo}

pub hand-requires-clause-awaits : goal.hand-requires-clause-awaits
hand-requires-clause-awaits g c =
    subst (λ (s : Script (End BlockState) BlockState). AwaitsAll (g.P.Port.awaits c.args.port.now) s)
    (completed_hand (seen c.self.inside) c.args.queue.now c.complete.new.ring c.args.head (c.args.len + 1) (response_bytes c.args.len (response_of c.self.inside.ring.answered c.args.outcome)) c.complete.ensures.ring c.complete.ensures.len)
    (let r = rw (← c.self.view_is) at c.requires.awaits in r)

pub returns-clause-turned : goal.returns-clause-turned
returns-clause-turned g c =
    rw (← c.self.view_is)
    (subst (λ (s : Script (End BlockState) BlockState). TurnedSo g.P.Port.moved g.P.Port.over g.P.Port.stopped c.args.port.now s c.hand.new.port (state_of c.hand.new.device) c.hand.result)
    (sym (completed_hand (seen c.self.inside) c.args.queue.now c.complete.new.ring c.args.head (c.args.len + 1) (response_bytes c.args.len (response_of c.self.inside.ring.answered c.args.outcome)) c.complete.ensures.ring c.complete.ensures.len))
    c.hand.ensures.turned)
