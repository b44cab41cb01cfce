use Rattle.tv_probed.proofs.Brings.{ended_brings}
use Rattle.tv_probed.proofs.calls.end.Goals as goal

pub returns : goal.returns
returns c =
    ended_brings c.args.core.now c.end.new.self c.args.dev c.args.seat c.args.why c.end.ensures
    (record { legal = c.is_legal.ensures.legal; held = c.is_legal.ensures.held c.args.dev })
    (record { legal = c.is_legal-2.ensures.legal; held = c.is_legal-2.ensures.held c.args.dev })
