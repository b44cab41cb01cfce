use Rattle.tv_probed.proofs.Brings.{turned_brings}
use Rattle.tv_probed.proofs.calls.hart_turn.Goals as goal

pub returns : goal.returns
returns c =
    turned_brings c.args.core.now c.hart_turn-turn.new.self c.args.dev c.args.hart c.args.most c.hart_turn-turn.result c.requires.none c.hart_turn-turn.ensures
    (record { legal = c.is_legal.ensures.legal; held = c.is_legal.ensures.held c.args.dev })
    (record { legal = c.is_legal-2.ensures.legal; held = c.is_legal-2.ensures.held c.args.dev })
