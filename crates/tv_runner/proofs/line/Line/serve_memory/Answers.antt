use Rattle.tv_runner.proofs.LineCalls.{memory_call}
use Rattle.tv_runner.proofs.line.Line.serve_memory.Goals as goal

pub returns-clause-done : goal.returns-clause-done
returns-clause-done c =
    memory_call c.args.self.now.core c.serve_mem-done.new.self c.args.self.now.at c.serve_mem-done.result c.requires.going c.requires.answered c.requires.can
    (record { legal = c.is_legal.ensures.legal; room = c.is_legal.ensures.room }) c.serve_mem-done.ensures
