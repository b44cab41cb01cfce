use Rattle.std.proofs.Common.{◌≡◌, ◌∙◌, ◌+◌, ◌++◌, ℕ, length, take, drop, rules, ap, sym, take_at, drop_at}
use Rattle.tv_wire.specs.Spelling.{message_bytes}
use Rattle.tv_wire.proofs.Whole.{written_is, length_is, reads_back}
use Rattle.tv_wire.proofs.writer.encode.Goals as goal

whole : (c : goal.After-write_head) → c.write_head.new.out ≡ message_bytes c.args.msg.now ++ drop (7 + c.write_body-size.result) c.args.out.now
whole c =
    written_is c.args.msg.now c.args.out.now c.write_body-size.new.out c.write_head.new.out c.write_body-size.result c.kind_of.result c.tag_of.result
    c.told-out c.write_body-size.ensures.size c.kind_of.ensures c.tag_of.ensures c.write_body-size.ensures.written c.write_head.ensures

size : (c : goal.After-write_head) → length (message_bytes c.args.msg.now) ≡ 7 + c.write_body-size.result
size c = length_is c.args.msg.now ∙ ap (λ (n : ℕ). 7 + n) (sym c.write_body-size.ensures.size)

pub returns-clause-written : goal.returns-clause-written
returns-clause-written c =
    ap (take (7 + c.write_body-size.result)) (whole c)
    ∙ take_at (message_bytes c.args.msg.now) (drop (7 + c.write_body-size.result) c.args.out.now) (7 + c.write_body-size.result) (size c)

pub returns-clause-others : goal.returns-clause-others
returns-clause-others c =
    ap (drop (7 + c.write_body-size.result)) (whole c)
    ∙ drop_at (message_bytes c.args.msg.now) (drop (7 + c.write_body-size.result) c.args.out.now) (7 + c.write_body-size.result) (size c)

pub returns-clause-spelled : goal.returns-clause-spelled
returns-clause-spelled c legal = record {
  legal = legal;
  tag = search rules;
  body = c.write_body-size.ensures.fits;
  spelt = returns-clause-written c;
}

pub returns-clause-back : goal.returns-clause-back
returns-clause-back c legal =
    reads_back (take (7 + c.write_body-size.result) c.write_head.new.out) c.args.msg.now (returns-clause-spelled c legal)
