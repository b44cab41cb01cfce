use Rattle.tv_blk.proofs.States.{seen, responded_hand, responded_stop}
use Rattle.tv_blk.proofs.block.Block.serve_request.Goals as goal
use Rattle.tv_blk.specs.Requests.{response_of}
use Rattle.tv_blk.specs.Parts.{state_of}
use Rattle.tv_plan.specs.Block.{block_hand, block_request, block_stopped, response_bytes}
use Rattle.tv_script.proofs.Scripts.{awaits_value}
use Rattle.tv_script.proofs.Turns.{turned_value}
use Rattle.tv_serving.proofs.Caught.{stop_turned}
use Rattle.tv_serving.specs.Steps.{took_of}

pub reply-requires-clause-awaits : goal.reply-requires-clause-awaits
reply-requires-clause-awaits g c =
    awaits_value _ g.P.Port.awaits _ _ _ _ _ _ _ g.met.P.Port.goes_on (let r = rw (← c.self.view_is) at c.requires.awaits in r) c.in-Ok.ensures.ran
    (responded_hand (seen c.self.inside) c.args.queue.now c.respond.new.ring c.args.head (response_bytes c.args.len (response_of c.respond.new.ring.answered c.in-Ok.outcome)) c.in-Ok.ensures.ring)

pub returns-in-Ok-clause-turned : goal.returns-in-Ok-clause-turned
returns-in-Ok-clause-turned g c =
    rw (← c.self.view_is)
    (turned_value g.P.Port.moved g.P.Port.over g.P.Port.stopped _ _ _ _ _ _ _ _ _ _ g.met.P.Port.joins c.in-Ok.ensures.ran
    (responded_hand (seen c.self.inside) c.args.queue.now c.respond.new.ring c.args.head (response_bytes c.args.len (response_of c.respond.new.ring.answered c.in-Ok.outcome)) c.in-Ok.ensures.ring) c.reply.ensures.turned)

pub returns-in-Err-clause-turned : goal.returns-in-Err-clause-turned
returns-in-Err-clause-turned g c =
    rw (← c.self.view_is)
    (stop_turned g.P.Port.moved g.P.Port.over g.P.Port.stopped c.args.port.now c.respond.new.port c.stopped.new.port (block_request c.self.inside.disk c.self.inside.ring.readable c.args.len) (block_stopped (state_of (seen c.self.inside)))
    (λ r. block_hand (state_of (seen c.self.inside)) c.args.queue.now (took_of c.self.inside.ring c.args.head) (response_bytes c.args.len r)) c.in-Err.why _ (state_of c.stopped.new.device) c.stopped.result g.met.P.Port.joins c.in-Err.ensures.ran
    (responded_stop (seen c.self.inside) c.respond.new.ring c.in-Err.why c.in-Err.ensures.ring) c.stopped.ensures.turned)
