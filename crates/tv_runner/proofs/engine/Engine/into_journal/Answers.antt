use Rattle.tv_runner.proofs.CoreRuns.{IsClosed, closed_call, closed_cause, closed_legal}
use Rattle.std.proofs.Common.{◌∙◌}
use Rattle.tv_runner.proofs.engine.Engine.into_journal.Goals as goal

pub returns-clause-entries : goal.returns-clause-entries
returns-clause-entries c =
    let closed : IsClosed c.args.self.line.core c.end.new.self = closed_call c.args.self.line.core c.end.new.self c.args.self.seat c.requires.ends c.end.ensures in
    c.into_journal.ensures.entries ∙ closed.entries

pub returns-clause-outer : goal.returns-clause-outer
returns-clause-outer c =
    let closed : IsClosed c.args.self.line.core c.end.new.self = closed_call c.args.self.line.core c.end.new.self c.args.self.seat c.requires.ends c.end.ensures in
    c.into_journal.ensures.outer ∙ closed.outer

pub returns-clause-legal : goal.returns-clause-legal
returns-clause-legal c =
    closed_legal c.args.self.line.core c.end.new.self c.into_journal.result.entries c.into_journal.result.outer
    (closed_call c.args.self.line.core c.end.new.self c.args.self.seat c.requires.ends c.end.ensures) c.into_journal.ensures.entries c.into_journal.ensures.outer c.is_legal.ensures.legal

pub returns-clause-cause : goal.returns-clause-cause
returns-clause-cause c =
    closed_cause c.args.self.line.core c.end.new.self c.into_journal.result.entries c.into_journal.result.outer
    (closed_call c.args.self.line.core c.end.new.self c.args.self.seat c.requires.ends c.end.ensures) c.into_journal.ensures.entries c.into_journal.ensures.outer c.is_legal.ensures.legal
