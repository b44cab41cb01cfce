use Rattle.std.proofs.Common.{◌∙◌, false, true, arith, sym}
use Rattle.tv_core.specs.Fields.{parts_of, seen_in}
use Rattle.tv_core.proofs.Room.{entries_few}
use Rattle.tv_core.proofs.Takes.{open_since}
use Rattle.tv_core.proofs.Ticks.{again_tick, full_tick, over_tick, ticked_as, ticked_call}
use Rattle.tv_core.proofs.proxied.Proxied.tick.Goals as goal
use Rattle.tv_core.proofs.proxied.Proxied.tick.Goals.{then-has_ended-via-then-has_ended, then-has_ended-via-else-has_ended+then-ends_with_tick}

pub returns-then-has_ended : goal.returns-then-has_ended
returns-then-has_ended c = elim c.then-has_ended.branch [
  | then-has_ended-via-then-has_ended w ↦
      over_tick (parts_of c.self.inside) c.args.self.now c.args.n c.self.invariant (c.has_ended.ensures.0 w.if-has_ended.true) c.self.view_is
  | then-has_ended-via-else-has_ended+then-ends_with_tick w ↦
      again_tick (parts_of c.self.inside) c.args.self.now c.args.n (sym w.ends_with_tick.ensures ∙ w.if-ends_with_tick.true) c.self.view_is
]

pub push-requires-clause-few : goal.push-requires-clause-few
push-requires-clause-few c = let few = entries_few (parts_of c.self.inside) c.self.invariant in omega (arith, few)

pub invariant_of-self : goal.invariant_of-self
invariant_of-self c =
    (full_tick (parts_of c.self.inside) c.args.n c.clock_seat-self-inside.result c.fill.new.guest c.push.new.self c.fill.new.journal c.push.result
    c.self.invariant c.requires.some (open_since (parts_of c.self.inside) c.has_ended.result c.self.invariant c.if-has_ended.false c.has_ended.ensures.1)
    (sym c.ends_with_tick.ensures ∙ c.if-ends_with_tick.false) c.if-not-push.true c.push.ensures c.fill.ensures.guest c.fill.ensures.journal
    (c.clock_seat-self-inside.ensures c.args.n)).0

pub returns-then-not-push : goal.returns-then-not-push
returns-then-not-push c =
    ticked_as (seen_in c.self.inside) c.args.self.now _ c.args.n false c.self.view_is
    (full_tick (parts_of c.self.inside) c.args.n c.clock_seat-self-inside.result c.fill.new.guest c.push.new.self c.fill.new.journal c.push.result
    c.self.invariant c.requires.some (open_since (parts_of c.self.inside) c.has_ended.result c.self.invariant c.if-has_ended.false c.has_ended.ensures.1)
    (sym c.ends_with_tick.ensures ∙ c.if-ends_with_tick.false) c.if-not-push.true c.push.ensures c.fill.ensures.guest c.fill.ensures.journal
    (c.clock_seat-self-inside.ensures c.args.n)).1

pub invariant_of-self-2 : goal.invariant_of-self-2
invariant_of-self-2 c =
    (ticked_call (parts_of c.self.inside) c.args.n c.tick.new.self c.push.new.self c.push.result c.self.invariant c.requires.some
    (open_since (parts_of c.self.inside) c.has_ended.result c.self.invariant c.if-has_ended.false c.has_ended.ensures.1)
    (sym c.ends_with_tick.ensures ∙ c.if-ends_with_tick.false) c.if-not-push.false c.push.ensures c.tick.ensures).0

pub returns : goal.returns
returns c =
    ticked_as (seen_in c.self.inside) c.args.self.now _ c.args.n true c.self.view_is
    (ticked_call (parts_of c.self.inside) c.args.n c.tick.new.self c.push.new.self c.push.result c.self.invariant c.requires.some
    (open_since (parts_of c.self.inside) c.has_ended.result c.self.invariant c.if-has_ended.false c.has_ended.ensures.1)
    (sym c.ends_with_tick.ensures ∙ c.if-ends_with_tick.false) c.if-not-push.false c.push.ensures c.tick.ensures).1
