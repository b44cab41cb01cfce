use Rattle.std.proofs.Common.{rules}
use Rattle.tv_intc.proofs.Choices.{lines_is_choice}
use Rattle.tv_intc.proofs.controller.Intc.lines.Goals as goal

pub returns-clause-claim : goal.returns-clause-claim
returns-clause-claim c =
    lines_is_choice c.args.self.now c.args.hart _ (search rules)
