use Rattle.std.proofs.Common.{ap}
use Rattle.tv_side.proofs.Landing.{first_awaited, landed_first, may_land}
use Rattle.tv_side.specs.Fields.{seen}
use Rattle.tv_side.specs.Messages.{MessagesState}
use Rattle.tv_side.specs.Sides.{FirstIsAwaited}
use Rattle.tv_side.proofs.side.Side.land.Goals as goal

pub accept-requires : goal.accept-requires
accept-requires c =
    let first : FirstIsAwaited c.self.inside.proxy c.self.inside.replies.messages = let r = rw (← c.self.view_is) at c.requires in r in
    may_land c.self.inside.proxy c.in_ok-reply.reply c.each_tag_has_one_maker.ensures
    (first_awaited c.self.inside.replies c.pop.new.self c.in_ok-reply.reply c.self.inside.proxy c.in_ok-reply.ensures.first first)

pub returns : goal.returns
returns c =
    let first : FirstIsAwaited c.self.inside.proxy c.self.inside.replies.messages = let r = rw (← c.self.view_is) at c.requires in r in
    rw (← c.self.view_is) (landed_first (seen c.self.inside) c.accept.new.self c.in_ok-reply.reply c.pop.new.self.messages c.accept.result
    (ap (λ (t : MessagesState). t.messages) c.in_ok-reply.ensures.first)
    (first_awaited c.self.inside.replies c.pop.new.self c.in_ok-reply.reply c.self.inside.proxy c.in_ok-reply.ensures.first first)
    c.accept.ensures)
