use Rattle.tv_regs.proofs.Queues.{sound_set}
use Rattle.tv_regs.proofs.regs.Regs.set_selected.Goals as goal

pub invariant_of-self : goal.invariant_of-self
invariant_of-self c = sound_set c.self.inside.queues.items c.deref_mut.result.now c.self.inside.queue_select c.args.queue c.deref_mut.ensures.value c.requires.sound c.self.invariant
