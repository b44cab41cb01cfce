use Rattle.tv_probed.proofs.Given.{given_valid}
use Rattle.tv_probed.proofs.tests.two_harts.Goals as goal

pub returns : goal.returns
returns c =
    given_valid c.in_ok-machine.machine c.args.given.tube c.args.given.records c.args.given.steps c.in_ok-machine.ensures.machine
    c.in_ok-machine.ensures.valid c.requires.tube c.requires.records c.requires.steps
