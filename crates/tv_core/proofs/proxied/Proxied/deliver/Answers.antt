use Rattle.std.proofs.Common.{◌∙◌, ℕ, ◌<◌, arith, subst, sym}
use Rattle.tv_base.specs.declared.limits.TheConstants.{HARTS}
use Rattle.std.specs.Prelude.{true, false}
use Rattle.tv_core.specs.Fields.{parts_of, seen_in}
use Rattle.tv_core.specs.Seen.{Seen, HasDevice}
use Rattle.tv_core.proofs.Deliveries.{deliver_reserved, delivered_as, landed_call, no_line_reached, nothing_lands, reply_awaited}
use Rattle.tv_core.proofs.Room.{entries_few}
use Rattle.tv_core.proofs.proxied.Proxied.deliver.Goals as goal

pub land-requires : goal.land-requires
land-requires c =
    reply_awaited (parts_of c.self.inside) c.args.dev c.from.result c.index_mut.result.now (c.from.ensures ∙ c.get.ensures.number) c.index_mut.ensures.value
    c.self.invariant (subst (λ (s : Seen). HasDevice s c.args.dev) (sym c.self.view_is) c.requires.device)

pub push_reserved-requires-clause-few : goal.push_reserved-requires-clause-few
push_reserved-requires-clause-few c = let few = entries_few (parts_of c.self.inside) c.self.invariant in omega (arith, few)

pub push_reserved-requires-clause-taken : goal.push_reserved-requires-clause-taken
push_reserved-requires-clause-taken c =
    deliver_reserved (parts_of c.self.inside) c.args.dev c.from.result c.in-Hart.hart c.in-Hart.value c.index_mut.result.now c.land.new.self c.in-Some.landed
    (c.from.ensures ∙ c.get.ensures.number) c.index_mut.ensures.value c.in-Some.ensures c.in-Hart.is
    (subst (λ (h : ℕ). h < HARTS) c.get-in-Hart.ensures.number c.get-in-Hart.ensures.bound)
    c.self.invariant (subst (λ (s : Seen). HasDevice s c.args.dev) (sym c.self.view_is) c.requires.device)

pub invariant_of-self : goal.invariant_of-self
invariant_of-self c =
    (landed_call (parts_of c.self.inside) c.args.dev c.from.result c.in-Hart.hart c.from-in-Hart.result c.in-Hart.value c.index_mut.result.now c.land.new.self c.in-Some.landed
    c.finish.new.self c.push_reserved.new.self (c.from.ensures ∙ c.get.ensures.number) (c.from-in-Hart.ensures ∙ c.get-in-Hart.ensures.number)
    c.index_mut.ensures.value c.in-Some.ensures c.in-Hart.is (subst (λ (h : ℕ). h < HARTS) c.get-in-Hart.ensures.number c.get-in-Hart.ensures.bound)
    c.finish.ensures c.push_reserved.ensures c.self.invariant (subst (λ (s : Seen). HasDevice s c.args.dev) (sym c.self.view_is) c.requires.device)).0

pub unreachable-requires : goal.unreachable-requires
unreachable-requires c =
    no_line_reached (parts_of c.self.inside) c.args.dev c.from.result c.in-Line.field-0 c.in-Line.field-1 c.index_mut.result.now c.land.new.self c.in-Some.landed
    (c.from.ensures ∙ c.get.ensures.number) c.index_mut.ensures.value c.in-Some.ensures c.in-Line.is
    c.self.invariant (subst (λ (s : Seen). HasDevice s c.args.dev) (sym c.self.view_is) c.requires.device)

pub returns-in-Hart : goal.returns-in-Hart
returns-in-Hart c =
    delivered_as (seen_in c.self.inside) c.args.self.now _ c.args.dev true c.self.view_is
    (landed_call (parts_of c.self.inside) c.args.dev c.from.result c.in-Hart.hart c.from-in-Hart.result c.in-Hart.value c.index_mut.result.now c.land.new.self c.in-Some.landed
    c.finish.new.self c.push_reserved.new.self (c.from.ensures ∙ c.get.ensures.number) (c.from-in-Hart.ensures ∙ c.get-in-Hart.ensures.number)
    c.index_mut.ensures.value c.in-Some.ensures c.in-Hart.is (subst (λ (h : ℕ). h < HARTS) c.get-in-Hart.ensures.number c.get-in-Hart.ensures.bound)
    c.finish.ensures c.push_reserved.ensures c.self.invariant (subst (λ (s : Seen). HasDevice s c.args.dev) (sym c.self.view_is) c.requires.device)).1

pub returns-in-None : goal.returns-in-None
returns-in-None c =
    delivered_as (seen_in c.self.inside) c.args.self.now _ c.args.dev false c.self.view_is
    (nothing_lands (parts_of c.self.inside) c.args.dev c.from.result c.index_mut.result.now c.land.new.self (c.from.ensures ∙ c.get.ensures.number)
    c.index_mut.ensures.value c.in-None.ensures c.self.invariant (subst (λ (s : Seen). HasDevice s c.args.dev) (sym c.self.view_is) c.requires.device))
