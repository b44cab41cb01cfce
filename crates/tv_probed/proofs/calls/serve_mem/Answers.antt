use Rattle.tv_probed.proofs.Brings.{memory_brings}
use Rattle.tv_probed.proofs.calls.serve_mem.Goals as goal

pub returns : goal.returns
returns c =
    memory_brings c.args.core.now c.serve_mem-served.new.self c.args.dev c.serve_mem-served.result c.serve_mem-served.ensures
    (record { legal = c.is_legal.ensures.legal; held = c.is_legal.ensures.held c.args.dev })
    (record { legal = c.is_legal-2.ensures.legal; held = c.is_legal-2.ensures.held c.args.dev })
