use Rattle.tv_probed.proofs.Brings.{replied_brings}
use Rattle.tv_probed.proofs.calls.reply.Goals as goal

pub returns : goal.returns
returns c =
    replied_brings c.args.core.now c.reply.new.self c.args.dev c.reply.ensures
    (record { legal = c.is_legal.ensures.legal; held = c.is_legal.ensures.held c.args.dev })
    (record { legal = c.is_legal-2.ensures.legal; held = c.is_legal-2.ensures.held c.args.dev })
