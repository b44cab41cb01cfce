use Rattle.tv_probed.proofs.Brings.{got_brings, got_fits}
use Rattle.tv_probed.proofs.calls.got.Goals as goal

pub returns-clause-brings : goal.returns-clause-brings
returns-clause-brings c =
    got_brings c.args.core.now c.got-heard.new.self c.args.dev c.got-heard.result c.got-heard.ensures
    (record { legal = c.is_legal.ensures.legal; held = c.is_legal.ensures.held c.args.dev })
    (record { legal = c.is_legal-2.ensures.legal; held = c.is_legal-2.ensures.held c.args.dev })

pub returns-clause-fits : goal.returns-clause-fits
returns-clause-fits c =
    got_fits c.args.core.now c.got-heard.new.self c.args.dev c.got-heard.result c.got-heard.ensures
