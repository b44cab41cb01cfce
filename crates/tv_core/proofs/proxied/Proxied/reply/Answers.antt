use Rattle.std.proofs.Common.{◌∙◌, arith, subst, sym}
use Rattle.tv_spec.specs.declared.Answer.{Answer}
use Rattle.tv_core.specs.Calls.{IsFirstDue}
use Rattle.tv_core.specs.Fields.{parts_of}
use Rattle.tv_core.specs.Seen.{Seen, HasDevice, dev_of}
use Rattle.tv_core.proofs.Replies.{replied_call, reply_finds_place, reply_reserved}
use Rattle.tv_core.proofs.Room.{entries_few}
use Rattle.tv_core.proofs.proxied.Proxied.reply.Goals as goal

pub put_value-requires : goal.put_value-requires
put_value-requires c = record {
  room = reply_finds_place (parts_of c.self.inside) c.args.dev c.from.result c.index_mut.result.now (c.from.ensures ∙ c.get.ensures.number) c.index_mut.ensures.value
      c.self.invariant (subst (λ (s : Seen). HasDevice s c.args.dev) (sym c.self.view_is) c.requires.device);
}

pub push_reserved-requires-clause-few : goal.push_reserved-requires-clause-few
push_reserved-requires-clause-few c = let few = entries_few (parts_of c.self.inside) c.self.invariant in omega (arith, few)

pub push_reserved-requires-clause-taken : goal.push_reserved-requires-clause-taken
push_reserved-requires-clause-taken c =
    reply_reserved (parts_of c.self.inside) c.args.dev c.args.tag c.args.value c.self.invariant
    (subst (λ (s : Seen). IsFirstDue (dev_of s c.args.dev) c.args.tag (Answer.Value c.args.value)) (sym c.self.view_is) c.requires.due)

pub invariant_of-self : goal.invariant_of-self
invariant_of-self c =
    (replied_call (parts_of c.self.inside) c.args.dev c.from.result c.args.tag c.args.value c.index_mut.result.now c.put_value.new.self c.push_reserved.new.self
    (c.from.ensures ∙ c.get.ensures.number) c.index_mut.ensures.value c.put_value.ensures c.push_reserved.ensures c.self.invariant
    (subst (λ (s : Seen). HasDevice s c.args.dev) (sym c.self.view_is) c.requires.device)
    (subst (λ (s : Seen). IsFirstDue (dev_of s c.args.dev) c.args.tag (Answer.Value c.args.value)) (sym c.self.view_is) c.requires.due)).0

pub returns : goal.returns
returns c =
    rw (← c.self.view_is)
    (replied_call (parts_of c.self.inside) c.args.dev c.from.result c.args.tag c.args.value c.index_mut.result.now c.put_value.new.self c.push_reserved.new.self
    (c.from.ensures ∙ c.get.ensures.number) c.index_mut.ensures.value c.put_value.ensures c.push_reserved.ensures c.self.invariant
    (subst (λ (s : Seen). HasDevice s c.args.dev) (sym c.self.view_is) c.requires.device)
    (subst (λ (s : Seen). IsFirstDue (dev_of s c.args.dev) c.args.tag (Answer.Value c.args.value)) (sym c.self.view_is) c.requires.due)).1
