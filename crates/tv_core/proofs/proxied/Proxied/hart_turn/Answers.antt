use Rattle.std.proofs.Common.{subst, sym}
use Rattle.tv_core.specs.Seen.{Seen, HasHart}
use Rattle.tv_core.proofs.Turns.{made_more, made_none, turn_done, turn_none, turn_stopped}
use Rattle.tv_core.proofs.proxied.Proxied.hart_turn.Goals as goal

pub loop-made-init : goal.loop-made-init
loop-made-init c = made_none c.args.self.now c.args.hart c.args.most

pub burst-requires-clause-hart : goal.burst-requires-clause-hart
burst-requires-clause-hart c = subst (λ (p : Seen). HasHart p c.args.hart) (sym c.loop-made.invariant.now_is) c.requires.hart

pub loop-made-preserved : goal.loop-made-preserved
loop-made-preserved c =
    made_more c.args.self.now c.loop-made.self c.burst.new.self c.args.hart c.args.most c.loop-made.made c.in-Ran.more c.loop-made.invariant c.in-Ran.ensures

pub returns-then-made-eq0 : goal.returns-then-made-eq0
returns-then-made-eq0 c =
    turn_none c.burst.result c.args.self.now c.loop-made.self c.burst.new.self c.args.hart c.args.most c.loop-made.made c.loop-made.invariant c.if-made-eq0.true
    c.in_default.not-Ran c.burst.ensures

pub returns-else-made-eq0 : goal.returns-else-made-eq0
returns-else-made-eq0 c =
    turn_stopped c.burst.result c.args.self.now c.loop-made.self c.burst.new.self c.args.hart c.args.most c.loop-made.made c.loop-made.invariant c.loop-made-test.true
    c.if-made-eq0.false c.in_default.not-Ran c.burst.ensures

pub returns : goal.returns
returns c =
    turn_done c.args.self.now c.loop-made.self c.args.hart c.args.most c.loop-made.made c.loop-made.invariant c.requires.some c.loop-made-test.false
