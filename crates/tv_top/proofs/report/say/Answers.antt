use Rattle.std.proofs.Common.{◌++◌}
use Rattle.tv_top.proofs.Said.{said-put}
use Rattle.tv_top.proofs.report.say.Goals as goal

pub returns-in-Some : goal.returns-in-Some
returns-in-Some g c =
    said-put c.put.result c.in-Some.line.items (c.args.text.now ++ (c.args.more.now ++ c.args.end.now)) (g.E.Sink.told c.args.err.now) (g.E.Sink.told c.put.new.self)
    c.in-Some.ensures.line (rw c.deref.ensures.0 at c.put.ensures.told) c.put.ensures.cause c.put.ensures.script
