use Rattle.tv_runner.proofs.LineCalls.{interrupt_call}
use Rattle.tv_runner.proofs.line.Line.serve_interrupt.Goals as goal

pub returns-clause-done : goal.returns-clause-done
returns-clause-done c =
    interrupt_call c.args.self.now.core c.serve_irq-done.new.self c.args.self.now.at c.serve_irq-done.result c.requires.going c.requires.answered c.requires.can
    (record { legal = c.is_legal.ensures.legal; room = c.is_legal.ensures.room }) c.serve_irq-done.ensures
