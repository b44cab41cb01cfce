use Rattle.std.proofs.Common.{arith}
use Rattle.tv_script.specs.Scripts.{AwaitsAll}
use Rattle.tv_plan.specs.Console.{console_part}
use Rattle.tv_serving.specs.Steps.{took_of}
use Rattle.tv_console.specs.Parts.{state_of, kept_of}
use Rattle.tv_console.proofs.States.{part_received}
use Rattle.tv_console.proofs.console.ConsoleAnswers.answer.Goals as goal

pub receive-requires-clause-awaits : goal.receive-requires-clause-awaits
receive-requires-clause-awaits g c =
    let all : AwaitsAll (g.P.Port.awaits c.args.port.now) (console_part (kept_of c.args.self.now) (state_of c.args.self.now) c.args.queue.now (took_of c.args.self.now.ring c.args.taken.head)) = c.requires.awaits in
    let r = rw (part_received (kept_of c.args.self.now) (state_of c.args.self.now) c.args.queue.now (took_of c.args.self.now.ring c.args.taken.head) c.min-most.result (omega arith) (omega arith)) at all in r
