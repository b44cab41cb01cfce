use Rattle.std.proofs.Common.{◌∙◌, arith, subst, sym}
use Rattle.tv_core.specs.Fields.{parts_of}
use Rattle.tv_core.specs.Seen.{Seen, HasDevice}
use Rattle.tv_core.proofs.Hearing.{got_call, got_reserved, none_heard_call}
use Rattle.tv_core.proofs.Room.{entries_few}
use Rattle.tv_core.proofs.proxied.Proxied.got.Goals as goal

pub invariant_of-self : goal.invariant_of-self
invariant_of-self c =
    (none_heard_call (parts_of c.self.inside) c.args.dev c.from.result c.index_mut.result.now c.hear.new.side c.has_ended-ended.result c.hear.result
    (c.from.ensures ∙ c.get.ensures.number) c.index_mut.ensures.value c.hear.ensures c.in_err-heard.was c.has_ended-ended.ensures.0 c.has_ended-ended.ensures.1
    c.args.self.now c.self.invariant (subst (λ (s : Seen). HasDevice s c.args.dev) (sym c.self.view_is) c.requires.device) c.self.view_is).0

pub returns-in_err-heard : goal.returns-in_err-heard
returns-in_err-heard c =
    rw c.from_residual.ensures
    (none_heard_call (parts_of c.self.inside) c.args.dev c.from.result c.index_mut.result.now c.hear.new.side c.has_ended-ended.result c.hear.result
    (c.from.ensures ∙ c.get.ensures.number) c.index_mut.ensures.value c.hear.ensures c.in_err-heard.was c.has_ended-ended.ensures.0 c.has_ended-ended.ensures.1
    c.args.self.now c.self.invariant (subst (λ (s : Seen). HasDevice s c.args.dev) (sym c.self.view_is) c.requires.device) c.self.view_is).1

pub push_reserved-requires-clause-few : goal.push_reserved-requires-clause-few
push_reserved-requires-clause-few c = let few = entries_few (parts_of c.self.inside) c.self.invariant in omega (arith, few)

pub push_reserved-requires-clause-taken : goal.push_reserved-requires-clause-taken
push_reserved-requires-clause-taken c =
    got_reserved (parts_of c.self.inside) c.args.dev c.from.result c.in_ok-heard.heard c.index_mut.result.now c.hear.new.side c.has_ended-ended.result c.hear.result
    (c.from.ensures ∙ c.get.ensures.number) c.index_mut.ensures.value c.hear.ensures c.in_ok-heard.was
    c.self.invariant (subst (λ (s : Seen). HasDevice s c.args.dev) (sym c.self.view_is) c.requires.device)

pub invariant_of-self-2 : goal.invariant_of-self-2
invariant_of-self-2 c =
    (got_call (parts_of c.self.inside) c.args.dev c.from.result c.in_ok-heard.heard c.index_mut.result.now c.hear.new.side c.push_reserved.new.self c.has_ended-ended.result c.hear.result
    (c.from.ensures ∙ c.get.ensures.number) c.index_mut.ensures.value c.hear.ensures c.in_ok-heard.was c.push_reserved.ensures
    c.args.self.now c.self.invariant (subst (λ (s : Seen). HasDevice s c.args.dev) (sym c.self.view_is) c.requires.device) c.self.view_is).0

pub returns : goal.returns
returns c =
    (got_call (parts_of c.self.inside) c.args.dev c.from.result c.in_ok-heard.heard c.index_mut.result.now c.hear.new.side c.push_reserved.new.self c.has_ended-ended.result c.hear.result
    (c.from.ensures ∙ c.get.ensures.number) c.index_mut.ensures.value c.hear.ensures c.in_ok-heard.was c.push_reserved.ensures
    c.args.self.now c.self.invariant (subst (λ (s : Seen). HasDevice s c.args.dev) (sym c.self.view_is) c.requires.device) c.self.view_is).1
