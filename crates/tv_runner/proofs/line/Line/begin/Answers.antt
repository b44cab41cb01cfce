use Rattle.tv_runner.proofs.LineCalls.{begun_call, wants_inside}
use Rattle.tv_runner.proofs.line.Line.begin.Goals as goal

pub send-begun-requires-clause-wants : goal.send-begun-requires-clause-wants
send-begun-requires-clause-wants c = wants_inside c.args.self.now.core c.args.self.now.at c.args.action.now c.requires.still c.requires.next c.requires.inside

pub returns-clause-begun : goal.returns-clause-begun
returns-clause-begun c =
    begun_call c.args.self.now.core c.send-begun.new.self c.args.self.now.at c.args.action.now c.send-begun.result c.requires.going c.requires.still c.requires.next c.requires.inside
    (record { legal = c.is_legal.ensures.legal; room = c.is_legal.ensures.room }) c.send-begun.ensures
