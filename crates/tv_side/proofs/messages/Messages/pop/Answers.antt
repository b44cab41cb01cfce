use Rattle.std.proofs.Common.{take}
use Rattle.tv_side.proofs.Tubes.{popped_legal, popped_messages}
use Rattle.tv_side.proofs.messages.Messages.pop.Goals as goal

pub invariant_of-self-2 : goal.invariant_of-self-2
invariant_of-self-2 c = popped_messages c.self.inside.tube c.pop.new.self (take c.in_ok-n.n c.pop.new.out) c.self.invariant c.in_ok-n.ensures.first

pub returns-clause-legal : goal.returns-clause-legal
returns-clause-legal c = rw c.decode.ensures.exact (popped_legal c.self.inside.tube c.pop.new.self (take c.in_ok-n.n c.pop.new.out) c.self.invariant c.in_ok-n.ensures.first)
