use Rattle.std.specs.Prelude.{length}
use Rattle.tv_probed.proofs.Brings.{handed_brings, handed_few}
use Rattle.tv_probed.proofs.calls.debug_take.Goals as goal

pub returns-clause-brings : goal.returns-clause-brings
returns-clause-brings c =
    handed_brings c.args.core.now c.debug_take.new.self c.args.dev (length c.args.out.now) c.debug_take.result c.debug_take.new.out c.debug_take.ensures

pub returns-clause-few : goal.returns-clause-few
returns-clause-few c =
    handed_few c.args.core.now c.debug_take.new.self (length c.args.out.now) c.debug_take.result c.debug_take.new.out c.debug_take.ensures
