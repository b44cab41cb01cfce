use Rattle.tv_ctl_wire.specs.Frames.{SpellsReply}
use Rattle.tv_ctl_wire.specs.Reading.{replies}
use Rattle.tv_ctl_wire.proofs.Cutting.{front_goes_on}
use Rattle.tv_ctl_wire.proofs.Replies.{laws}
use Rattle.tv_ctl_wire.proofs.laws.fronts_of_a_reply_go_on.Goals as goal
use Rattle.tv_request.specs.declared.ReplyFrame.{ReplyFrame}

pub returns : goal.returns
returns c frame front rest r spelt is some = front_goes_on ReplyFrame replies SpellsReply laws front frame rest r spelt is some
