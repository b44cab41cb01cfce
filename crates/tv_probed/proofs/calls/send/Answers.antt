use Rattle.tv_probed.proofs.Brings.{sent_brings}
use Rattle.tv_probed.proofs.calls.send.Goals as goal

pub returns : goal.returns
returns c =
    sent_brings c.args.core.now c.send-sent.new.self c.args.dev c.send-sent.result c.send-sent.ensures
    (record { legal = c.is_legal.ensures.legal; held = c.is_legal.ensures.held c.args.dev })
    (record { legal = c.is_legal-2.ensures.legal; held = c.is_legal-2.ensures.held c.args.dev })
