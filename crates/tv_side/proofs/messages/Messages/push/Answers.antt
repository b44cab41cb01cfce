use Rattle.std.proofs.Common.{take}
use Rattle.tv_side.proofs.Tubes.{pushed_messages}
use Rattle.tv_side.proofs.messages.Messages.push.Goals as goal

pub invariant_of-self : goal.invariant_of-self
invariant_of-self c =
    pushed_messages c.self.inside.tube c.push-added.new.self (take c.encode-n.result c.encode-n.new.out) c.args.msg.now c.push-added.result c.self.invariant
    (let r = rw (← c.self.view_is) at c.requires.room in r) (c.encode-n.ensures.back c.requires.legal) c.requires.legal c.push-added.ensures
