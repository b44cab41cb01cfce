use Rattle.tv_runner.proofs.LineCalls.{rests_now, taken_access, taken_call}
use Rattle.tv_runner.proofs.line.Line.take.Goals as goal

pub take-taken-requires-clause-rests : goal.take-taken-requires-clause-rests
take-taken-requires-clause-rests c = rests_now c.args.self.now.core c.args.self.now.at c.requires.still c.requires.over

pub returns-clause-taken : goal.returns-clause-taken
returns-clause-taken c =
    taken_call c.args.self.now.core c.take-taken.new.self c.args.self.now.at c.take-taken.result c.requires.going c.requires.still c.requires.over
    (record { legal = c.is_legal.ensures.legal; room = c.is_legal.ensures.room }) c.take-taken.ensures

pub returns-clause-access : goal.returns-clause-access
returns-clause-access c =
    taken_access c.args.self.now.core c.take-taken.new.self c.args.self.now.at c.take-taken.result c.requires.going c.requires.still c.requires.over
    (record { legal = c.is_legal.ensures.legal; room = c.is_legal.ensures.room }) c.take-taken.ensures
