use Rattle.std.proofs.Common.{◌∙◌, arith, subst, sym}
use Rattle.tv_core.specs.Calls.{RestsNow}
use Rattle.tv_core.specs.Fields.{parts_of}
use Rattle.tv_core.specs.Seen.{Seen, dev_of}
use Rattle.tv_core.proofs.Room.{entries_few}
use Rattle.tv_core.proofs.Takes.{full_call, none_call, open_since, over_call, took_call}
use Rattle.tv_core.proofs.proxied.Proxied.take.Goals as goal

pub returns-then-has_ended : goal.returns-then-has_ended
returns-then-has_ended c =
    rw (← c.self.view_is)
    (over_call (parts_of c.self.inside) c.args.dev c.from-slot.result c.index_mut.result.now c.tell.new.self (c.from-slot.ensures ∙ c.get.ensures.number)
    c.index_mut.ensures.value c.tell.ensures c.self.invariant (rw (← c.self.view_is) at c.requires.device) (subst (λ (s : Seen). RestsNow (dev_of s c.args.dev)) (sym c.self.view_is) c.requires.rests)
    (c.has_ended.ensures.0 c.if-has_ended.true)).1

pub returns-then-items-eq0 : goal.returns-then-items-eq0
returns-then-items-eq0 c =
    rw (← c.self.view_is)
    (none_call (parts_of c.self.inside) c.args.dev c.from-slot.result c.index.result.now c.items.result (c.from-slot.ensures ∙ c.get.ensures.number)
    c.index.ensures c.items.ensures c.if-items-eq0.true c.self.invariant (rw (← c.self.view_is) at c.requires.device)
    (open_since (parts_of c.self.inside) c.has_ended.result c.self.invariant c.if-has_ended.false c.has_ended.ensures.1))

pub push-requires-clause-few : goal.push-requires-clause-few
push-requires-clause-few c = let few = entries_few (parts_of c.self.inside) c.self.invariant in omega (arith, few)

pub invariant_of-self-then-not-push : goal.invariant_of-self-then-not-push
invariant_of-self-then-not-push c =
    (full_call (parts_of c.self.inside) c.args.dev c.from-slot.result c.items.result c.worker_seat-self-inside.result c.index.result.now c.index_mut-then-not-push.result.now c.tell-then-not-push.new.self
    c.fill.new.guest c.push.new.self c.fill.new.journal c.push.result (c.from-slot.ensures ∙ c.get.ensures.number) c.index.ensures c.items.ensures c.if-items-eq0.false
    c.index_mut-then-not-push.ensures.value c.tell-then-not-push.ensures c.fill.ensures.guest c.fill.ensures.journal c.worker_seat-self-inside.ensures
    c.self.invariant (rw (← c.self.view_is) at c.requires.device) (subst (λ (s : Seen). RestsNow (dev_of s c.args.dev)) (sym c.self.view_is) c.requires.rests)
    (open_since (parts_of c.self.inside) c.has_ended.result c.self.invariant c.if-has_ended.false c.has_ended.ensures.1) c.if-not-push.true c.push.ensures).0

pub returns-then-not-push : goal.returns-then-not-push
returns-then-not-push c =
    rw (← c.self.view_is)
    (full_call (parts_of c.self.inside) c.args.dev c.from-slot.result c.items.result c.worker_seat-self-inside.result c.index.result.now c.index_mut-then-not-push.result.now c.tell-then-not-push.new.self
    c.fill.new.guest c.push.new.self c.fill.new.journal c.push.result (c.from-slot.ensures ∙ c.get.ensures.number) c.index.ensures c.items.ensures c.if-items-eq0.false
    c.index_mut-then-not-push.ensures.value c.tell-then-not-push.ensures c.fill.ensures.guest c.fill.ensures.journal c.worker_seat-self-inside.ensures
    c.self.invariant (rw (← c.self.view_is) at c.requires.device) (subst (λ (s : Seen). RestsNow (dev_of s c.args.dev)) (sym c.self.view_is) c.requires.rests)
    (open_since (parts_of c.self.inside) c.has_ended.result c.self.invariant c.if-has_ended.false c.has_ended.ensures.1) c.if-not-push.true c.push.ensures).1

pub invariant_of-self-2 : goal.invariant_of-self-2
invariant_of-self-2 c =
    (took_call c.take.result (parts_of c.self.inside) c.args.dev c.from-slot.result c.items.result c.index.result.now c.index_mut-2.result.now c.take.new.self c.push.new.self c.push.result
    (c.from-slot.ensures ∙ c.get.ensures.number) c.index.ensures c.items.ensures c.if-items-eq0.false c.index_mut-2.ensures.value c.take.ensures.first c.take.ensures.empty
    c.self.invariant (rw (← c.self.view_is) at c.requires.device) (subst (λ (s : Seen). RestsNow (dev_of s c.args.dev)) (sym c.self.view_is) c.requires.rests)
    (open_since (parts_of c.self.inside) c.has_ended.result c.self.invariant c.if-has_ended.false c.has_ended.ensures.1) c.if-not-push.false c.push.ensures).0

pub returns : goal.returns
returns c =
    rw (← c.self.view_is)
    (took_call c.take.result (parts_of c.self.inside) c.args.dev c.from-slot.result c.items.result c.index.result.now c.index_mut-2.result.now c.take.new.self c.push.new.self c.push.result
    (c.from-slot.ensures ∙ c.get.ensures.number) c.index.ensures c.items.ensures c.if-items-eq0.false c.index_mut-2.ensures.value c.take.ensures.first c.take.ensures.empty
    c.self.invariant (rw (← c.self.view_is) at c.requires.device) (subst (λ (s : Seen). RestsNow (dev_of s c.args.dev)) (sym c.self.view_is) c.requires.rests)
    (open_since (parts_of c.self.inside) c.has_ended.result c.self.invariant c.if-has_ended.false c.has_ended.ensures.1) c.if-not-push.false c.push.ensures).1
