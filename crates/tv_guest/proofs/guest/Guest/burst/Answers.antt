use Rattle.std.proofs.Common.{◌≡◌, ◌∙◌, arith}
use Rattle.tv_spec.specs.declared.Mode.TheVariants as mode
use Rattle.tv_guest.proofs.Guests.{burst_none_left, burst_some}
use Rattle.tv_guest.proofs.guest.Guest.burst.Goals as goal

pub returns-then-made-eq0 : goal.returns-then-made-eq0
returns-then-made-eq0 c =
    let running : c.self.inside.mode ≡ mode.Running = c.is_running.ensures.0 c.if-not-is_running.false in
    rw (← c.self.view_is)
    (burst_none_left c.self.inside.harts.items c.self.inside.local c.close.new.self c.run_events-made.new.local c.self.inside.mode c.self.inside.events c.self.inside.steps
    c.args.hart c.from-number.result c.args.most c.min.result c.run_events-made.result.0 c.args.closed.now c.index_mut.result.now c.run_events-made.new.hart c.run_events-made.result.1
    (c.from-number.ensures ∙ c.get.ensures.number) c.close.ensures c.self.invariant.quiet (c.self.invariant.within running) (omega arith) c.index_mut.ensures.value c.min.ensures
    c.run_events-made.ensures.all c.run_events-made.ensures.same c.if-made-eq0.true)

pub returns : goal.returns
returns c =
    let running : c.self.inside.mode ≡ mode.Running = c.is_running.ensures.0 c.if-not-is_running.false in
    rw (← c.self.view_is)
    (burst_some c.self.inside.harts.items c.self.inside.local c.close.new.self c.run_events-made.new.local c.self.inside.mode c.mode_after-self-inside.result c.self.inside.events c.self.inside.steps
    c.args.hart c.from-number.result c.args.most c.min.result c.run_events-made.result.0 c.args.closed.now c.index_mut.result.now c.run_events-made.new.hart c.run_events-made.result.1
    (c.from-number.ensures ∙ c.get.ensures.number) c.close.ensures c.run_events-made.ensures.quiet c.run_events-made.ensures.gate
    running (c.self.invariant.within running) (omega arith) c.index_mut.ensures.value c.min.ensures
    c.run_events-made.ensures.burst c.run_events-made.ensures.few c.run_events-made.ensures.all c.if-made-eq0.false c.mode_after-self-inside.ensures)
