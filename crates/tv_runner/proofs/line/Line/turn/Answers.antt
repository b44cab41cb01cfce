use Rattle.std.proofs.Common.{◌∙◌}
use Rattle.tv_core.specs.Calls.{why_of}
use Rattle.tv_runner.proofs.LineAsks.{none_there, some_there}
use Rattle.tv_runner.proofs.LineTurns.{left_falls, settled, settled_awaits, taken_device, taken_due, turned_empty, turned_over, turning_first, turning_on}
use Rattle.tv_runner.proofs.line.Line.turn.Goals as goal

pub loop-tag-init : goal.loop-tag-init
loop-tag-init g c = turning_first c.args.self.now.at c.args.self.now.core (g.D.Device.state c.args.device.now) c.requires.device c.requires.going c.requires.probe c.requires.rest

pub take-requires-clause-device : goal.take-requires-clause-device
take-requires-clause-device g c = c.loop-tag.invariant.exists

pub take-requires-clause-going : goal.take-requires-clause-going
take-requires-clause-going g c = c.loop-tag.invariant.going

pub take-requires-clause-still : goal.take-requires-clause-still
take-requires-clause-still g c = c.loop-tag.invariant.rest.still

pub take-requires-clause-over : goal.take-requires-clause-over
take-requires-clause-over g c = c.loop-tag.invariant.rest.over

pub settle-requires-clause-device : goal.settle-requires-clause-device
settle-requires-clause-device g c =
    taken_device c.args.self.now.at c.loop-tag.self.at c.take.new.self.at c.args.self.now.core c.loop-tag.self.core c.take.new.self.core (g.D.Device.state c.loop-tag.device) c.in-Some.tag c.in-Some.item
    c.loop-tag.invariant c.take.ensures.at c.in-Some.ensures.taken

pub settle-requires-clause-due : goal.settle-requires-clause-due
settle-requires-clause-due g c =
    taken_due c.args.self.now.at c.loop-tag.self.at c.take.new.self.at c.args.self.now.core c.loop-tag.self.core c.take.new.self.core (g.D.Device.state c.loop-tag.device) (g.D.Device.state c.act-acted.new.self) c.in-Some.tag c.in-Some.item
    c.act-acted.result c.loop-tag.invariant c.take.ensures.at c.in-Some.ensures.taken c.in-Some.ensures.access c.act-acted.ensures.acted

pub serve-served-requires : goal.serve-served-requires
serve-served-requires g c = record {
  awaits = settled_awaits c.args.self.now.at c.loop-tag.self.at c.settle.new.self.at c.args.self.now.core c.loop-tag.self.core c.settle.new.self.core (g.D.Device.state c.act-acted.new.self)
      (settled c.args.self.now.at c.loop-tag.self.at c.take.new.self.at c.settle.new.self.at c.args.self.now.core c.loop-tag.self.core c.take.new.self.core c.settle.new.self.core (g.D.Device.state c.loop-tag.device) (g.D.Device.state c.act-acted.new.self) c.in-Some.tag c.in-Some.item
      c.act-acted.result c.loop-tag.invariant c.take.ensures.at c.in-Some.ensures.taken c.act-acted.ensures.acted c.settle.ensures.at c.settle.ensures.settled);
}

pub returns-then-is_some-clause-turned : goal.returns-then-is_some-clause-turned
returns-then-is_some-clause-turned g c =
    turned_over c.args.self.now.at c.loop-tag.self.at c.settle.new.self.at c.serve-served.new.port.at c.args.self.now.core c.loop-tag.self.core c.settle.new.self.core c.serve-served.new.port.core (g.D.Device.state c.act-acted.new.self) (g.D.Device.state c.serve-served.new.self) c.serve-served.ensures.served.happened
    (settled c.args.self.now.at c.loop-tag.self.at c.take.new.self.at c.settle.new.self.at c.args.self.now.core c.loop-tag.self.core c.take.new.self.core c.settle.new.self.core (g.D.Device.state c.loop-tag.device) (g.D.Device.state c.act-acted.new.self) c.in-Some.tag c.in-Some.item
    c.act-acted.result c.loop-tag.invariant c.take.ensures.at c.in-Some.ensures.taken c.act-acted.ensures.acted c.settle.ensures.at c.settle.ensures.settled)
    c.serve-served.ensures.served.went (some_there (why_of c.serve-served.new.port.core) c.why.result c.is_some.result c.why.ensures c.is_some.ensures c.if-is_some.true)

pub returns-then-is_some-clause-at : goal.returns-then-is_some-clause-at
returns-then-is_some-clause-at g c =
    c.serve-served.ensures.served.went.0 ∙ c.settle.ensures.at ∙ c.take.ensures.at ∙ c.loop-tag.invariant.at

pub loop-tag-smaller : goal.loop-tag-smaller
loop-tag-smaller g c =
    left_falls c.args.self.now.at c.loop-tag.self.at c.settle.new.self.at c.serve-served.new.port.at c.args.self.now.core c.loop-tag.self.core c.settle.new.self.core c.serve-served.new.port.core (g.D.Device.state c.act-acted.new.self) c.serve-served.ensures.served.happened
    (settled c.args.self.now.at c.loop-tag.self.at c.take.new.self.at c.settle.new.self.at c.args.self.now.core c.loop-tag.self.core c.take.new.self.core c.settle.new.self.core (g.D.Device.state c.loop-tag.device) (g.D.Device.state c.act-acted.new.self) c.in-Some.tag c.in-Some.item
    c.act-acted.result c.loop-tag.invariant c.take.ensures.at c.in-Some.ensures.taken c.act-acted.ensures.acted c.settle.ensures.at c.settle.ensures.settled)
    c.serve-served.ensures.served.went

pub loop-tag-preserved : goal.loop-tag-preserved
loop-tag-preserved g c =
    turning_on _ _ _ c.args.self.now.at c.loop-tag.self.at c.settle.new.self.at c.serve-served.new.port.at c.args.self.now.core c.loop-tag.self.core c.settle.new.self.core c.serve-served.new.port.core (g.D.Device.state c.act-acted.new.self) (g.D.Device.state c.serve-served.new.self) c.serve-served.ensures.served.happened c.serve-served.result
    (λ over. over)
    (settled c.args.self.now.at c.loop-tag.self.at c.take.new.self.at c.settle.new.self.at c.args.self.now.core c.loop-tag.self.core c.take.new.self.core c.settle.new.self.core (g.D.Device.state c.loop-tag.device) (g.D.Device.state c.act-acted.new.self) c.in-Some.tag c.in-Some.item
    c.act-acted.result c.loop-tag.invariant c.take.ensures.at c.in-Some.ensures.taken c.act-acted.ensures.acted c.settle.ensures.at c.settle.ensures.settled)
    c.serve-served.ensures.served.went (none_there (why_of c.serve-served.new.port.core) c.why.result c.is_some.result c.why.ensures c.is_some.ensures c.if-is_some.false) c.serve-served.ensures.served.ends

pub returns-clause-turned : goal.returns-clause-turned
returns-clause-turned g c =
    turned_empty c.args.self.now.at c.loop-tag.self.at c.args.self.now.core c.loop-tag.self.core c.take.new.self.core (g.D.Device.state c.loop-tag.device) c.loop-tag.invariant c.in_default.ensures.taken

pub returns-clause-at : goal.returns-clause-at
returns-clause-at g c = c.take.ensures.at ∙ c.loop-tag.invariant.at
