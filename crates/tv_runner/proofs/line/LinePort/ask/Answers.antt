use Rattle.tv_core.specs.Calls.{why_of}
use Rattle.tv_runner.proofs.LineAsks.{exchanged_at, none_there, over_at}
use Rattle.tv_runner.proofs.line.LinePort.ask.Goals as goal

pub returns-then-not-serve-clause-still : goal.returns-then-not-serve-clause-still
returns-then-not-serve-clause-still c =
    over_at c.args.self.now.at c.begin.new.self.at c.serve.new.self.at c.args.self.now.core c.begin.new.self.core c.serve.new.self.core c.begin.ensures.at c.serve.ensures.at
    c.if-not-begin.ensures.begun c.if-not-serve.ensures.done

pub returns-clause-moved : goal.returns-clause-moved
returns-clause-moved c =
    exchanged_at c.args.self.now.at c.begin.new.self.at c.serve.new.self.at c.hear.new.self.at c.args.self.now.core c.begin.new.self.core c.serve.new.self.core c.hear.new.self.core
    c.args.action.now c.hear.result c.begin.ensures.at c.serve.ensures.at c.hear.ensures.at
    (c.requires.awaited.still (none_there (why_of c.args.self.now.core) c.why.result c.is_some.result c.why.ensures c.is_some.ensures c.if-is_some.false))
    c.if-not-begin.ensures.begun c.if-not-serve.ensures.done c.hear.ensures.heard
