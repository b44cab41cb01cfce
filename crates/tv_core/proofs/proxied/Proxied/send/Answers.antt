use Rattle.std.proofs.Common.{◌∙◌, arith, subst, sym}
use Rattle.tv_core.specs.Calls.{WantsInside}
use Rattle.tv_core.specs.Fields.{parts_of}
use Rattle.tv_core.specs.Seen.{Seen, HasDevice, dev_of}
use Rattle.tv_core.proofs.Room.{entries_few}
use Rattle.tv_core.proofs.Sending.{reserved_first, sent_call, sent_full_call, sent_over_call}
use Rattle.tv_core.proofs.Takes.{open_since}
use Rattle.tv_core.proofs.proxied.Proxied.send.Goals as goal

pub invariant_of-self : goal.invariant_of-self
invariant_of-self c =
    (sent_over_call (parts_of c.self.inside) c.args.dev c.from-slot.result c.args.action.now c.index_mut.result.now c.tell.new.self c.args.self.now
    (c.from-slot.ensures ∙ c.get.ensures.number) c.index_mut.ensures.value c.tell.ensures c.self.invariant
    (subst (λ (s : Seen). HasDevice s c.args.dev) (sym c.self.view_is) c.requires.device)
    (subst (λ (s : Seen). WantsInside (dev_of s c.args.dev) c.args.action.now) (sym c.self.view_is) c.requires.wants)
    (c.has_ended.ensures.0 c.if-has_ended.true) c.self.view_is).0

pub returns-then-has_ended : goal.returns-then-has_ended
returns-then-has_ended c =
    (sent_over_call (parts_of c.self.inside) c.args.dev c.from-slot.result c.args.action.now c.index_mut.result.now c.tell.new.self c.args.self.now
    (c.from-slot.ensures ∙ c.get.ensures.number) c.index_mut.ensures.value c.tell.ensures c.self.invariant
    (subst (λ (s : Seen). HasDevice s c.args.dev) (sym c.self.view_is) c.requires.device)
    (subst (λ (s : Seen). WantsInside (dev_of s c.args.dev) c.args.action.now) (sym c.self.view_is) c.requires.wants)
    (c.has_ended.ensures.0 c.if-has_ended.true) c.self.view_is).1

pub invariant_of-self-then-not-reserve_for : goal.invariant_of-self-then-not-reserve_for
invariant_of-self-then-not-reserve_for c =
    (sent_full_call (parts_of c.self.inside) c.args.dev c.from-slot.result c.worker_seat-self-inside.result c.args.action.now c.index_mut-then-not-reserve_for.result.now
    c.tell-then-not-reserve_for.new.self c.fill.new.guest c.reserve_for.new.self c.fill.new.journal c.reserve_for.result c.args.self.now
    (c.from-slot.ensures ∙ c.get.ensures.number) c.index_mut-then-not-reserve_for.ensures.value c.tell-then-not-reserve_for.ensures c.fill.ensures.guest c.fill.ensures.journal
    c.worker_seat-self-inside.ensures c.self.invariant
    (subst (λ (s : Seen). HasDevice s c.args.dev) (sym c.self.view_is) c.requires.device)
    (subst (λ (s : Seen). WantsInside (dev_of s c.args.dev) c.args.action.now) (sym c.self.view_is) c.requires.wants)
    (open_since (parts_of c.self.inside) c.has_ended.result c.self.invariant c.if-has_ended.false c.has_ended.ensures.1) c.if-not-reserve_for.true c.reserve_for.ensures c.self.view_is).0

pub returns-then-not-reserve_for : goal.returns-then-not-reserve_for
returns-then-not-reserve_for c =
    (sent_full_call (parts_of c.self.inside) c.args.dev c.from-slot.result c.worker_seat-self-inside.result c.args.action.now c.index_mut-then-not-reserve_for.result.now
    c.tell-then-not-reserve_for.new.self c.fill.new.guest c.reserve_for.new.self c.fill.new.journal c.reserve_for.result c.args.self.now
    (c.from-slot.ensures ∙ c.get.ensures.number) c.index_mut-then-not-reserve_for.ensures.value c.tell-then-not-reserve_for.ensures c.fill.ensures.guest c.fill.ensures.journal
    c.worker_seat-self-inside.ensures c.self.invariant
    (subst (λ (s : Seen). HasDevice s c.args.dev) (sym c.self.view_is) c.requires.device)
    (subst (λ (s : Seen). WantsInside (dev_of s c.args.dev) c.args.action.now) (sym c.self.view_is) c.requires.wants)
    (open_since (parts_of c.self.inside) c.has_ended.result c.self.invariant c.if-has_ended.false c.has_ended.ensures.1) c.if-not-reserve_for.true c.reserve_for.ensures c.self.view_is).1

pub push_reserved-requires-clause-few : goal.push_reserved-requires-clause-few
push_reserved-requires-clause-few c =
    let few = entries_few (parts_of c.self.inside) c.self.invariant in
    let first = reserved_first c.self.inside.journal c.reserve_for.new.self c.args.dev c.reserve_for.result c.if-not-reserve_for.false c.reserve_for.ensures in
    rw first.1 (omega (arith, few))

pub invariant_of-self-2 : goal.invariant_of-self-2
invariant_of-self-2 c =
    (sent_call (parts_of c.self.inside) c.args.dev c.from-slot.result c.args.action.now c.index_mut-2.result.now c.request.new.self c.reserve_for.new.self c.push_reserved.new.self
    c.reserve_for.result c.args.self.now (c.from-slot.ensures ∙ c.get.ensures.number) c.index_mut-2.ensures.value c.request.ensures c.push_reserved.ensures c.self.invariant
    (subst (λ (s : Seen). HasDevice s c.args.dev) (sym c.self.view_is) c.requires.device)
    (subst (λ (s : Seen). WantsInside (dev_of s c.args.dev) c.args.action.now) (sym c.self.view_is) c.requires.wants)
    (open_since (parts_of c.self.inside) c.has_ended.result c.self.invariant c.if-has_ended.false c.has_ended.ensures.1) c.if-not-reserve_for.false c.reserve_for.ensures c.self.view_is).0

pub returns : goal.returns
returns c =
    (sent_call (parts_of c.self.inside) c.args.dev c.from-slot.result c.args.action.now c.index_mut-2.result.now c.request.new.self c.reserve_for.new.self c.push_reserved.new.self
    c.reserve_for.result c.args.self.now (c.from-slot.ensures ∙ c.get.ensures.number) c.index_mut-2.ensures.value c.request.ensures c.push_reserved.ensures c.self.invariant
    (subst (λ (s : Seen). HasDevice s c.args.dev) (sym c.self.view_is) c.requires.device)
    (subst (λ (s : Seen). WantsInside (dev_of s c.args.dev) c.args.action.now) (sym c.self.view_is) c.requires.wants)
    (open_since (parts_of c.self.inside) c.has_ended.result c.self.invariant c.if-has_ended.false c.has_ended.ensures.1) c.if-not-reserve_for.false c.reserve_for.ensures c.self.view_is).1
