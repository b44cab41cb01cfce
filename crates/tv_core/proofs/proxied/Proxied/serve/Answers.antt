use Rattle.std.proofs.Common.{◌∙◌, arith, subst, sym}
use Rattle.tv_core.specs.Fields.{parts_of}
use Rattle.tv_core.specs.Seen.{Seen, HasDevice}
use Rattle.tv_core.specs.Serves as spec
use Rattle.tv_core.proofs.Room.{entries_few}
use Rattle.tv_core.proofs.Served.{act_memory, none_served_call, request_found, served_finds_place, served_legal}
use Rattle.tv_core.proofs.Services.{served_call, unserved_call}
use Rattle.tv_core.proofs.Takes.{open_since}
use Rattle.tv_core.proofs.proxied.Proxied.serve.Goals as goal

pub returns-then-not-has_request : goal.returns-then-not-has_request
returns-then-not-has_request c =
    none_served_call (parts_of c.self.inside) c.args.dev c.from-slot.result c.args.way (spec.serve_entry c.args.way c.args.dev) c.index.result.now c.has_request.result
    c.args.self.now (c.from-slot.ensures ∙ c.get.ensures.number) c.index.ensures c.has_request.ensures c.if-not-has_request.true c.requires.inside c.self.invariant
    (subst (λ (s : Seen). HasDevice s c.args.dev) (sym c.self.view_is) c.requires.device)
    (open_since (parts_of c.self.inside) c.has_ended.result c.self.invariant c.if-has_ended.false c.has_ended.ensures.1) c.self.view_is

pub push-requires-clause-few : goal.push-requires-clause-few
push-requires-clause-few c = let few = entries_few (parts_of c.self.inside) c.self.invariant in omega (arith, few)

pub invariant_of-self : goal.invariant_of-self
invariant_of-self c =
    (unserved_call (parts_of c.self.inside) c.args.dev c.from-slot.result c.service_seat-self-inside.result c.args.way c.index.result.now c.has_request.result
    c.fill.new.guest c.push.new.self c.fill.new.journal c.push.result c.serve_entry.result c.args.self.now
    (c.from-slot.ensures ∙ c.get.ensures.number) c.index.ensures c.has_request.ensures c.if-not-has_request.false c.requires.inside c.self.invariant
    (subst (λ (s : Seen). HasDevice s c.args.dev) (sym c.self.view_is) c.requires.device)
    (open_since (parts_of c.self.inside) c.has_ended.result c.self.invariant c.if-has_ended.false c.has_ended.ensures.1)
    c.serve_entry.ensures c.fill.ensures.guest c.fill.ensures.journal (c.service_seat-self-inside.ensures c.args.dev)
    c.if-not-push.true c.push.ensures c.self.view_is).0

pub returns-then-not-push : goal.returns-then-not-push
returns-then-not-push c =
    (unserved_call (parts_of c.self.inside) c.args.dev c.from-slot.result c.service_seat-self-inside.result c.args.way c.index.result.now c.has_request.result
    c.fill.new.guest c.push.new.self c.fill.new.journal c.push.result c.serve_entry.result c.args.self.now
    (c.from-slot.ensures ∙ c.get.ensures.number) c.index.ensures c.has_request.ensures c.if-not-has_request.false c.requires.inside c.self.invariant
    (subst (λ (s : Seen). HasDevice s c.args.dev) (sym c.self.view_is) c.requires.device)
    (open_since (parts_of c.self.inside) c.has_ended.result c.self.invariant c.if-has_ended.false c.has_ended.ensures.1)
    c.serve_entry.ensures c.fill.ensures.guest c.fill.ensures.journal (c.service_seat-self-inside.ensures c.args.dev)
    c.if-not-push.true c.push.ensures c.self.view_is).1

pub unreachable-requires : goal.unreachable-requires
unreachable-requires c =
    request_found (parts_of c.self.inside) c.args.dev c.from-slot.result c.args.way c.index.result.now c.index_mut-side.result.now c.has_request.result c.take_request.result
    (c.from-slot.ensures ∙ c.get.ensures.number) c.index.ensures c.has_request.ensures c.if-not-has_request.false c.index_mut-side.ensures.value c.take_request.ensures.request
    c.requires.inside c.self.invariant (subst (λ (s : Seen). HasDevice s c.args.dev) (sym c.self.view_is) c.requires.device) c.in-None.is

pub act-heard-requires-clause-memory : goal.act-heard-requires-clause-memory
act-heard-requires-clause-memory c = act_memory (parts_of c.self.inside) c.self.invariant

pub put_answer-requires-clause-free : goal.put_answer-requires-clause-free
put_answer-requires-clause-free c =
    served_finds_place (parts_of c.self.inside) c.args.dev c.from-slot.result c.args.way c.index_mut-side.result.now c.take_request.new.side c.in-Some.request c.take_request.result
    (c.from-slot.ensures ∙ c.get.ensures.number) c.index_mut-side.ensures.value c.take_request.ensures.request c.take_request.ensures.state
    c.in-Some.is c.requires.inside c.self.invariant (subst (λ (s : Seen). HasDevice s c.args.dev) (sym c.self.view_is) c.requires.device)

pub put_answer-requires-clause-legal : goal.put_answer-requires-clause-legal
put_answer-requires-clause-legal c =
    served_legal (parts_of c.self.inside) c.args.dev c.from-slot.result c.args.way c.index_mut-side.result.now c.in-Some.request c.take_request.result c.act-heard.result
    c.act-heard.new.self.local c.act-heard.new.grants.withdrawn c.reply_message.result
    (c.from-slot.ensures ∙ c.get.ensures.number) c.index_mut-side.ensures.value c.take_request.ensures.request c.in-Some.is c.requires.inside
    c.self.invariant (subst (λ (s : Seen). HasDevice s c.args.dev) (sym c.self.view_is) c.requires.device) c.in-Some.ensures.legal
    c.act-heard.ensures.direct c.reply_message.ensures

pub invariant_of-self-2 : goal.invariant_of-self-2
invariant_of-self-2 c =
    (served_call (parts_of c.self.inside) c.args.dev c.from-slot.result c.args.way c.index_mut-side.result.now c.put_answer.new.self c.take_request.new.side c.in-Some.request
    c.take_request.result c.act-heard.result c.act-heard.new.self c.act-heard.new.grants c.reply_message.result c.push.new.self c.push.result c.serve_entry.result c.args.self.now
    (c.from-slot.ensures ∙ c.get.ensures.number) c.index_mut-side.ensures.value c.take_request.ensures.request c.take_request.ensures.state
    c.in-Some.is c.requires.inside c.self.invariant (subst (λ (s : Seen). HasDevice s c.args.dev) (sym c.self.view_is) c.requires.device)
    (open_since (parts_of c.self.inside) c.has_ended.result c.self.invariant c.if-has_ended.false c.has_ended.ensures.1) c.in-Some.ensures.legal
    c.act-heard.ensures.direct c.act-heard.ensures.grants c.act-heard.ensures.guest c.reply_message.ensures c.put_answer.ensures c.serve_entry.ensures
    c.if-not-push.false c.push.ensures c.self.view_is).0

pub returns : goal.returns
returns c =
    (served_call (parts_of c.self.inside) c.args.dev c.from-slot.result c.args.way c.index_mut-side.result.now c.put_answer.new.self c.take_request.new.side c.in-Some.request
    c.take_request.result c.act-heard.result c.act-heard.new.self c.act-heard.new.grants c.reply_message.result c.push.new.self c.push.result c.serve_entry.result c.args.self.now
    (c.from-slot.ensures ∙ c.get.ensures.number) c.index_mut-side.ensures.value c.take_request.ensures.request c.take_request.ensures.state
    c.in-Some.is c.requires.inside c.self.invariant (subst (λ (s : Seen). HasDevice s c.args.dev) (sym c.self.view_is) c.requires.device)
    (open_since (parts_of c.self.inside) c.has_ended.result c.self.invariant c.if-has_ended.false c.has_ended.ensures.1) c.in-Some.ensures.legal
    c.act-heard.ensures.direct c.act-heard.ensures.grants c.act-heard.ensures.guest c.reply_message.ensures c.put_answer.ensures c.serve_entry.ensures
    c.if-not-push.false c.push.ensures c.self.view_is).1
