use Rattle.tv_probed.proofs.Brings.{delivered_brings}
use Rattle.tv_probed.proofs.calls.deliver.Goals as goal

pub returns : goal.returns
returns c =
    delivered_brings c.args.core.now c.deliver-delivered.new.self c.args.dev c.deliver-delivered.result c.deliver-delivered.ensures
    (record { legal = c.is_legal.ensures.legal; held = c.is_legal.ensures.held c.args.dev })
    (record { legal = c.is_legal-2.ensures.legal; held = c.is_legal-2.ensures.held c.args.dev })
