use Rattle.tv_probed.proofs.Brings.{interrupt_brings}
use Rattle.tv_probed.proofs.calls.serve_irq.Goals as goal

pub returns : goal.returns
returns c =
    interrupt_brings c.args.core.now c.serve_irq-served.new.self c.args.dev c.serve_irq-served.result c.serve_irq-served.ensures
    (record { legal = c.is_legal.ensures.legal; held = c.is_legal.ensures.held c.args.dev })
    (record { legal = c.is_legal-2.ensures.legal; held = c.is_legal-2.ensures.held c.args.dev })
