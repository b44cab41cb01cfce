use Rattle.std.proofs.Common.{rules, ◌≡◌, ◌∙◌, ◌++◌, ℕ, List, map, ap, sym}
use Rattle.tv_spec.specs.Shows.{byte_shown}
use Rattle.tv_model.specs.Parts.{IssuesSo, run_of, seen}
use Rattle.tv_model.proofs.Events.{holds_there, no_event, same_runs, some_events, tags_small, to_device}
use Rattle.tv_model.proofs.parts.Parts.burst.Goals as goal

pub returns-then-is_err-2 : goal.returns-then-is_err-2
returns-then-is_err-2 g c =
    let same : map run_of c.take_room.new.slots.items ≡ map run_of c.args.self.now.slots.items = c.take_room.ensures.runs in
    let s = same_runs (seen c.args.self.now) c.take_room.new.slots.items same in
    record { setup = s.setup; state = s.state; console = c.reserve.ensures.items }

pub returns-then-made-eq0 : goal.returns-then-made-eq0
returns-then-made-eq0 g c =
    let same : map run_of c.take_room.new.slots.items ≡ map run_of c.args.self.now.slots.items = c.take_room.ensures.runs in
    let n = no_event (seen c.args.self.now) c.args.hart c.args.most c.burst-made.result.0 c.all_open-open.result c.burst-made.new.self c.take_room.new.slots.items c.burst-made.result.1 c.requires.monitor
    (search rules) (search rules) c.requires.some c.all_open-open.ensures c.burst-made.ensures c.if-made-eq0.true same in
    record { cannot = n.cannot; same = record { setup = n.same.setup; state = n.same.state; console = c.reserve.ensures.items } }

pub issue-requires-clause-device : goal.issue-requires-clause-device
issue-requires-clause-device g c =
    let same : map run_of c.take_room.new.slots.items ≡ map run_of c.args.self.now.slots.items = c.take_room.ensures.runs in
    (to_device (seen c.args.self.now) c.args.hart c.args.most c.burst-made.result.0 c.all_open-open.result c.burst-made.new.self c.take_room.new.slots.items c.burst-made.result.1 c.requires.monitor
    (search rules) (search rules) c.burst-made.ensures c.if-made-eq0.false same)

pub issue-requires-clause-room : goal.issue-requires-clause-room
issue-requires-clause-room g c =
    holds_there c.take_room.result _ (sym c.is_err-2.ensures.value ∙ c.if-is_err-2.false) c.take_room.ensures.room

pub issue-requires-clause-tags : goal.issue-requires-clause-tags
issue-requires-clause-tags g c =
    let same : map run_of c.take_room.new.slots.items ≡ map run_of c.args.self.now.slots.items = c.take_room.ensures.runs in
    (λ slot. tags_small (seen c.args.self.now) c.take_room.new.slots.items slot c.requires.monitor same)

pub returns : goal.returns
returns g c =
    let same : map run_of c.take_room.new.slots.items ≡ map run_of c.args.self.now.slots.items = c.take_room.ensures.runs in
    let issued : IssuesSo c.args.hart c.burst-made.result.1 c.take_room.new.slots.items c.issue.new.slots.items c.args.self.now.pending c.issue.new.pending =
    c.issue.ensures.issued in
    some_events (seen c.args.self.now) c.args.hart c.args.most c.burst-made.result.0 c.all_open-open.result c.burst-made.new.self c.take_room.new.slots.items c.issue.new.slots.items c.issue.new.pending c.show.new.console.items
    c.burst-made.result.1 c.requires.monitor c.issue.ensures.lanes (search rules) (search rules) c.all_open-open.ensures c.burst-made.ensures c.if-made-eq0.false same issued
    (c.show.ensures ∙ ap (λ (xs : List ℕ). xs ++ byte_shown c.burst-made.result.1) c.reserve.ensures.items)
