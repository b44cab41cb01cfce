use Rattle.tv_probed.proofs.Brings.{ticked_brings}
use Rattle.tv_probed.proofs.calls.tick.Goals as goal

pub returns : goal.returns
returns c =
    ticked_brings c.args.core.now c.tick-ticked.new.self c.args.dev c.args.n c.tick-ticked.result c.tick-ticked.ensures
    (record { legal = c.is_legal.ensures.legal; held = c.is_legal.ensures.held c.args.dev })
    (record { legal = c.is_legal-2.ensures.legal; held = c.is_legal-2.ensures.held c.args.dev })
