use Rattle.tv_core.specs.Fields.{parts_of, seen_in}
use Rattle.tv_core.proofs.Ending.{no_outer}
use Rattle.tv_core.proofs.Ended.{ended_as, ended_call, over_stays}
use Rattle.tv_core.proofs.Takes.{open_since}
use Rattle.tv_core.proofs.proxied.Proxied.end.Goals as goal

pub returns-then-has_ended : goal.returns-then-has_ended
returns-then-has_ended c =
    over_stays (parts_of c.self.inside) c.args.self.now c.args.why c.args.seat c.self.invariant (c.has_ended.ensures.0 c.if-has_ended.true) c.self.view_is

pub stop-requires-clause-none : goal.stop-requires-clause-none
stop-requires-clause-none c =
    no_outer (parts_of c.self.inside) c.self.invariant
    (open_since (parts_of c.self.inside) c.has_ended.result c.self.invariant c.if-has_ended.false c.has_ended.ensures.1)

pub invariant_of-self : goal.invariant_of-self
invariant_of-self c =
    (ended_call (parts_of c.self.inside) c.args.why c.args.seat c.stop.new.guest c.stop.new.journal c.stop.ensures.guest c.stop.ensures.journal c.self.invariant
    (open_since (parts_of c.self.inside) c.has_ended.result c.self.invariant c.if-has_ended.false c.has_ended.ensures.1) c.requires.cause).0

pub returns : goal.returns
returns c =
    ended_as (seen_in c.self.inside) c.args.self.now _ c.args.why c.args.seat c.self.view_is
    (ended_call (parts_of c.self.inside) c.args.why c.args.seat c.stop.new.guest c.stop.new.journal c.stop.ensures.guest c.stop.ensures.journal c.self.invariant
    (open_since (parts_of c.self.inside) c.has_ended.result c.self.invariant c.if-has_ended.false c.has_ended.ensures.1) c.requires.cause).1
