use Rattle.std.proofs.Common.{arith, refl}
use Rattle.tv_core.specs.Calls.{why_of}
use Rattle.tv_runner.proofs.HartLoops.{all_harts, below_harts, turned_done, turned_first, turned_next, turned_over, turned_whole}
use Rattle.tv_runner.proofs.LineAsks.{none_there, some_there}
use Rattle.tv_runner.proofs.engine.Engine.turns.Goals as goal

pub loop-number-init : goal.loop-number-init
loop-number-init c = record {
  turned = turned_first c.args.self.now.line.core c.args.self.now.devices.items c.args.self.now.harts c.requires.ready c.is_legal.ensures.legal c.is_legal.ensures.loads;
  harts = refl;
}

pub returns-then-is_some-clause-part : goal.returns-then-is_some-clause-part
returns-then-is_some-clause-part c =
    (turned_over c.args.self.now.line.core c.loop-number.self.line.core c.hart_turn-turn.new.self c.loop-number.self.devices.items c.loop-number.number c.in-Some.hart c.hart_turn-turn.result
    c.loop-number.invariant.turned c.in-Some.ensures.1
    (below_harts c.loop-number.number c.args.self.now.harts c.args.self.now.line.core.machine.harts c.requires.ready.harts c.loop-number-test.true)
    c.is_legal-in-loop-number.ensures.legal c.is_legal-in-loop-number.ensures.room c.hart_turn-turn.ensures
    (some_there (why_of c.hart_turn-turn.new.self) c.why.result c.is_some.result c.why.ensures c.is_some.ensures c.if-is_some.true)).0

pub returns-then-is_some-clause-bytes : goal.returns-then-is_some-clause-bytes
returns-then-is_some-clause-bytes c =
    (turned_over c.args.self.now.line.core c.loop-number.self.line.core c.hart_turn-turn.new.self c.loop-number.self.devices.items c.loop-number.number c.in-Some.hart c.hart_turn-turn.result
    c.loop-number.invariant.turned c.in-Some.ensures.1
    (below_harts c.loop-number.number c.args.self.now.harts c.args.self.now.line.core.machine.harts c.requires.ready.harts c.loop-number-test.true)
    c.is_legal-in-loop-number.ensures.legal c.is_legal-in-loop-number.ensures.room c.hart_turn-turn.ensures
    (some_there (why_of c.hart_turn-turn.new.self) c.why.result c.is_some.result c.why.ensures c.is_some.ensures c.if-is_some.true)).1

pub returns-then-is_some-clause-harts : goal.returns-then-is_some-clause-harts
returns-then-is_some-clause-harts c = c.loop-number.invariant.harts

pub loop-number-preserved : goal.loop-number-preserved
loop-number-preserved c = record {
  turned = turned_next c.args.self.now.line.core c.loop-number.self.line.core c.hart_turn-turn.new.self c.loop-number.self.devices.items c.loop-number.number _ c.in-Some.hart c.hart_turn-turn.result
      c.loop-number.invariant.turned c.in-Some.ensures.1 (omega arith)
      (below_harts c.loop-number.number c.args.self.now.harts c.args.self.now.line.core.machine.harts c.requires.ready.harts c.loop-number-test.true)
      c.is_legal-in-loop-number.ensures.legal c.is_legal-in-loop-number.ensures.room c.hart_turn-turn.ensures
      (none_there (why_of c.hart_turn-turn.new.self) c.why.result c.is_some.result c.why.ensures c.is_some.ensures c.if-is_some.false);
  harts = c.loop-number.invariant.harts;
}

pub returns-clause-part : goal.returns-clause-part
returns-clause-part c =
    (turned_whole c.args.self.now.line.core c.loop-number.self.line.core c.loop-number.self.devices.items c.loop-number.number c.loop-number.invariant.turned
    (all_harts c.loop-number.number c.args.self.now.harts c.args.self.now.line.core.machine.harts c.requires.ready.harts c.loop-number.auto.number-end c.loop-number-test.false)).0

pub returns-clause-bytes : goal.returns-clause-bytes
returns-clause-bytes c =
    (turned_whole c.args.self.now.line.core c.loop-number.self.line.core c.loop-number.self.devices.items c.loop-number.number c.loop-number.invariant.turned
    (all_harts c.loop-number.number c.args.self.now.harts c.args.self.now.line.core.machine.harts c.requires.ready.harts c.loop-number.auto.number-end c.loop-number-test.false)).1

pub returns-clause-next : goal.returns-clause-next
returns-clause-next c = λ none.
    turned_done c.args.self.now.line.core c.loop-number.self.line.core c.loop-number.self.devices.items c.loop-number.number c.loop-number.invariant.turned
    (all_harts c.loop-number.number c.args.self.now.harts c.args.self.now.line.core.machine.harts c.requires.ready.harts c.loop-number.auto.number-end c.loop-number-test.false)

pub returns-clause-harts : goal.returns-clause-harts
returns-clause-harts c = c.loop-number.invariant.harts
