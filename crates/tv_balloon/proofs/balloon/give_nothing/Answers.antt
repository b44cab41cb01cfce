use Rattle.std.proofs.Common.{Bool, subst, sym}
use Rattle.tv_script.specs.Scripts.{Script, AwaitsAll}
use Rattle.tv_virtio.specs.declared.queue.QueueStop.{QueueStop}
use Rattle.tv_virtio.specs.Queue.{RanSo}
use Rattle.tv_vring.specs.Rings.{used_of}
use Rattle.tv_balloon.proofs.States.{nothing_given}
use Rattle.tv_balloon.proofs.balloon.give_nothing.Goals as goal

pub give-requires-clause-awaits : goal.give-requires-clause-awaits
give-requires-clause-awaits g c = subst (λ (s : Script QueueStop Bool). AwaitsAll (g.P.Port.awaits c.args.port.now) s) (sym (nothing_given c.args.queue.now (used_of c.args.ring.now c.args.queue.now) c.args.head c.args.ring.now.chain.writable c.args.ring.now.answered)) c.requires.awaits

pub returns-clause-ran : goal.returns-clause-ran
returns-clause-ran g c =
    subst (λ (s : Script QueueStop Bool). RanSo g.P.Port.moved g.P.Port.over g.P.Port.stopped c.args.port.now s c.give.new.port c.give.result) (nothing_given c.args.queue.now (used_of c.args.ring.now c.args.queue.now) c.args.head c.args.ring.now.chain.writable c.args.ring.now.answered) c.give.ensures.ran
