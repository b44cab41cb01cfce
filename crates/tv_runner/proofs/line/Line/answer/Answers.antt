use Rattle.tv_runner.proofs.LineCalls.{answered_call, first_due}
use Rattle.tv_runner.proofs.line.Line.answer.Goals as goal

pub reply-requires-clause-due : goal.reply-requires-clause-due
reply-requires-clause-due c = first_due c.args.self.now.core c.args.self.now.at c.args.tag c.args.value c.requires.owed

pub returns-clause-answered : goal.returns-clause-answered
returns-clause-answered c =
    answered_call c.args.self.now.core c.reply.new.self c.deliver-delivered.new.self c.args.self.now.at c.args.tag c.args.value c.deliver-delivered.result c.requires.going c.requires.owed
    (record { legal = c.is_legal.ensures.legal; room = c.is_legal.ensures.room }) c.reply.ensures
    (record { legal = c.is_legal-2.ensures.legal; room = c.is_legal-2.ensures.room }) c.deliver-delivered.ensures
