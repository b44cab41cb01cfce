use Rattle.tv_probed.proofs.Brings.{took_brings}
use Rattle.tv_probed.proofs.calls.take.Goals as goal

pub returns : goal.returns
returns c =
    took_brings c.args.core.now c.take-taken.new.self c.args.dev c.take-taken.result c.take-taken.ensures
    (record { legal = c.is_legal.ensures.legal; held = c.is_legal.ensures.held c.args.dev })
    (record { legal = c.is_legal-2.ensures.legal; held = c.is_legal-2.ensures.held c.args.dev })
