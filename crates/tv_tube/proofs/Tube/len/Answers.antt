use Rattle.std.proofs.Common.{◌∙◌, sym}
use Rattle.tv_tube.proofs.Pieces.{count_is}
use Rattle.tv_tube.proofs.Tube.len.Goals as goal

pub returns-clause-len : goal.returns-clause-len
returns-clause-len c =
    rw (← c.self.view_is) (c.len.ensures.len ∙ sym (count_is c.self.inside.lengths.items c.self.inside.bytes.items))
