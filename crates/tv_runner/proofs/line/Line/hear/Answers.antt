use Rattle.tv_runner.proofs.LineCalls.{heard_call}
use Rattle.tv_runner.proofs.line.Line.hear.Goals as goal

pub returns-clause-heard : goal.returns-clause-heard
returns-clause-heard c =
    heard_call c.args.self.now.core c.got.new.self c.args.self.now.at c.in-Some.heard c.requires.going c.requires.served
    (record { legal = c.is_legal.ensures.legal; room = c.is_legal.ensures.room }) c.in-Some.ensures
