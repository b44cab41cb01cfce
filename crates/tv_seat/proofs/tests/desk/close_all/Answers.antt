use Rattle.tv_seat.proofs.Adding.{every_of_two}
use Rattle.tv_seat.proofs.tests.desk.close_all.Goals as goal

pub close-requires-clause-every : goal.close-requires-clause-every
close-requires-clause-every c =
    let numbers = c.requires.numbers in
    every_of_two _ c.args.first c.args.one c.args.two c.in-Ok.ensures.items numbers.0 c.requires.made numbers.1 numbers.2
