use Rattle.std.proofs.Common.{◌≡◌, ◌∙◌, ◌+◌, ◌++◌, length, take, drop, rules, ap, take_at, drop_at, arith}
use Rattle.tv_ctl_wire.specs.Frames.{frame_bytes, reply_body}
use Rattle.tv_ctl_wire.proofs.Framed.{written_is}
use Rattle.tv_ctl_wire.proofs.Replies.{read_back}
use Rattle.tv_ctl_wire.proofs.writer.write_reply.Goals as goal

whole : (c : goal.After-write_head)
    → c.write_head.new.out ≡ frame_bytes c.args.reply.now.status c.args.reply.now.id (reply_body c.args.reply.now) ++ drop (14 + c.write_reply_body-size.result) c.args.out.now
whole c =
    written_is c.args.reply.now.status c.args.reply.now.id c.write_reply_body-size.result (reply_body c.args.reply.now) c.args.out.now c.write_reply_body-size.new.out c.write_head.new.out
    c.told-out c.write_reply_body-size.ensures.size c.write_reply_body-size.ensures.written c.write_head.ensures

size : (c : goal.After-write_head) → length (frame_bytes c.args.reply.now.status c.args.reply.now.id (reply_body c.args.reply.now)) ≡ 14 + c.write_reply_body-size.result
size c = omega (arith, c.write_reply_body-size.ensures.size)

pub returns-clause-written : goal.returns-clause-written
returns-clause-written c =
    ap (take (14 + c.write_reply_body-size.result)) (whole c)
    ∙ take_at (frame_bytes c.args.reply.now.status c.args.reply.now.id (reply_body c.args.reply.now)) (drop (14 + c.write_reply_body-size.result) c.args.out.now)
    (14 + c.write_reply_body-size.result) (size c)

pub returns-clause-others : goal.returns-clause-others
returns-clause-others c =
    ap (drop (14 + c.write_reply_body-size.result)) (whole c)
    ∙ drop_at (frame_bytes c.args.reply.now.status c.args.reply.now.id (reply_body c.args.reply.now)) (drop (14 + c.write_reply_body-size.result) c.args.out.now)
    (14 + c.write_reply_body-size.result) (size c)

pub returns-clause-spelled : goal.returns-clause-spelled
returns-clause-spelled c = record {
  legal = c.requires;
  id = search rules;
  other = c.write_reply_body-size.ensures.other;
  stats = c.write_reply_body-size.ensures.fits;
  spelt = returns-clause-written c;
}

pub returns-clause-back : goal.returns-clause-back
returns-clause-back c =
    read_back (take (14 + c.write_reply_body-size.result) c.write_head.new.out) c.args.reply.now (14 + c.write_reply_body-size.result) (returns-clause-spelled c)
    (ap length (returns-clause-written c) ∙ size c)
