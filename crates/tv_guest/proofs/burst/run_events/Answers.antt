use Rattle.std.proofs.Common.{◌≡◌, ◌≢◌, ℕ, ◌+◌, ◌<◌, ap, refl, subst, arith, ◌∙◌, sym}
use Rattle.tv_hart.specs.declared.Did.TheVariants as did
use Rattle.tv_spec.specs.declared.Shown.{Shown}
use Rattle.tv_spec.specs.declared.Shown.TheVariants as shown
use Rattle.tv_spec.specs.Reach.{Reach}
use Rattle.tv_guest.specs.Burst.{IsBurst, mode_then}
use Rattle.tv_guest.proofs.Bursts.{IsAlong, along_more, event_made, gate_kept, made_is_some, ready_after}
use Rattle.tv_guest.proofs.Rows.{along_kept, along_quiet, full_again, lines_after}
use Rattle.tv_guest.proofs.burst.run_events.Goals as goal

pub step-requires : goal.step-requires
step-requires c =
    let row = along_quiet c.args.number c.args.hart.now c.loop-made.hart c.run_quiet-made.new.hart c.args.local.now c.loop-made.local c.lines-lines.new.self c.run_quiet-made.new.local c.args.most
    c.loop-made.made c.run_quiet-made.result c.lines-lines.result c.loop-made.invariant.0 c.lines-lines.ensures.lines c.lines-lines.ensures.unchanged c.run_quiet-made.ensures.row
    (omega (arith, c.run_quiet-made.ensures.few, c.loop-made.invariant.1)) in
    row.ready

pub returns-in_default : goal.returns-in_default
returns-in_default c =
    let some : c.step.result ≢ did.Full = made_is_some c.step.result c.in-Retired.is in
    let row = along_quiet c.args.number c.args.hart.now c.loop-made.hart c.run_quiet-made.new.hart c.args.local.now c.loop-made.local c.lines-lines.new.self c.run_quiet-made.new.local c.args.most
    c.loop-made.made c.run_quiet-made.result c.lines-lines.result c.loop-made.invariant.0 c.lines-lines.ensures.lines c.lines-lines.ensures.unchanged c.run_quiet-made.ensures.row
    (omega (arith, c.run_quiet-made.ensures.few, c.loop-made.invariant.1)) in
    let lines = lines_after c.args.number c.lines-lines.result c.loop-made.hart c.run_quiet-made.new.hart c.loop-made.local c.lines-lines.new.self c.run_quiet-made.new.local c.run_quiet-made.result
    c.lines-lines.ensures.lines c.lines-lines.ensures.unchanged c.run_quiet-made.ensures.row in
    let few : c.loop-made.made + c.run_quiet-made.result < c.args.most = (let r = c.run_quiet-made.ensures.few in let m = c.loop-made.invariant.1 in omega (arith, r, m, c.if-made-most.false)) in
    let event = event_made c.args.number c.args.hart.now c.run_quiet-made.new.hart c.step.new.self c.args.local.now c.run_quiet-made.new.local c.run_quiet-made.new.local c.step.new.place c.args.most
    (c.loop-made.made + c.run_quiet-made.result) c.lines-lines.result c.step.result row lines refl c.step.ensures.event in
    record {
      burst = along_more c.args.number c.args.hart.now c.run_quiet-made.new.hart c.step.new.self c.args.local.now c.run_quiet-made.new.local c.run_quiet-made.new.local c.step.new.place c.take_shown.new.self
          c.args.most (c.loop-made.made + c.run_quiet-made.result) c.lines-lines.result c.step.result c.take_shown.result row few lines refl some c.step.ensures.event c.take_shown.ensures.shown
          c.take_shown.ensures.taken;
      quiet = ap (λ (l : Reach). l.shown) c.take_shown.ensures.taken;
      gate = ap (λ (l : Reach). l.closed) c.take_shown.ensures.taken ∙ gate_kept c.args.number c.run_quiet-made.new.hart c.step.new.self c.run_quiet-made.new.local c.step.new.place c.args.local.now.closed c.step.result _ event;
      few = omega (arith, few);
      all = λ less nothing. absurd (c.in_default.not-Nothing nothing);
      same = λ none. absurd (omega (arith, none));
    }

pub loop-made-preserved : goal.loop-made-preserved
loop-made-preserved c =
    let some : c.step.result ≢ did.Full = made_is_some c.step.result c.in-Retired.is in
    let row = along_quiet c.args.number c.args.hart.now c.loop-made.hart c.run_quiet-made.new.hart c.args.local.now c.loop-made.local c.lines-lines.new.self c.run_quiet-made.new.local c.args.most
    c.loop-made.made c.run_quiet-made.result c.lines-lines.result c.loop-made.invariant.0 c.lines-lines.ensures.lines c.lines-lines.ensures.unchanged c.run_quiet-made.ensures.row
    (omega (arith, c.run_quiet-made.ensures.few, c.loop-made.invariant.1)) in
    let lines = lines_after c.args.number c.lines-lines.result c.loop-made.hart c.run_quiet-made.new.hart c.loop-made.local c.lines-lines.new.self c.run_quiet-made.new.local c.run_quiet-made.result
    c.lines-lines.ensures.lines c.lines-lines.ensures.unchanged c.run_quiet-made.ensures.row in
    let few : c.loop-made.made + c.run_quiet-made.result < c.args.most = (let r = c.run_quiet-made.ensures.few in let m = c.loop-made.invariant.1 in omega (arith, r, m, c.if-made-most.false)) in
    let event = event_made c.args.number c.args.hart.now c.run_quiet-made.new.hart c.step.new.self c.args.local.now c.run_quiet-made.new.local c.run_quiet-made.new.local c.step.new.place c.args.most
    (c.loop-made.made + c.run_quiet-made.result) c.lines-lines.result c.step.result row lines refl c.step.ensures.event in
    let quiet : c.step.new.place.shown ≡ shown.Nothing = sym c.take_shown.ensures.shown ∙ c.in-Nothing.is in (
      record {
        burst = λ setup s at.
            subst (λ (seen : Shown). IsBurst setup s c.args.number (c.loop-made.made + c.run_quiet-made.result + 1) c.step.new.self c.take_shown.new.self.local
            (mode_then setup s (c.loop-made.made + c.run_quiet-made.result + 1) seen) c.args.local.now.closed seen) c.in-Nothing.is
            (along_more c.args.number c.args.hart.now c.run_quiet-made.new.hart c.step.new.self c.args.local.now c.run_quiet-made.new.local c.run_quiet-made.new.local c.step.new.place c.take_shown.new.self
            c.args.most (c.loop-made.made + c.run_quiet-made.result) c.lines-lines.result c.step.result c.take_shown.result row few lines refl some c.step.ensures.event c.take_shown.ensures.shown
            c.take_shown.ensures.taken setup s at);
        ready = ready_after c.run_quiet-made.new.hart c.step.new.self c.run_quiet-made.new.local c.step.new.place c.args.local.now.closed c.step.result _ event quiet some c.step.ensures.waits;
        quiet = ap (λ (l : Reach). l.shown) c.take_shown.ensures.taken;
        gate = ap (λ (l : Reach). l.closed) c.take_shown.ensures.taken ∙ gate_kept c.args.number c.run_quiet-made.new.hart c.step.new.self c.run_quiet-made.new.local c.step.new.place c.args.local.now.closed c.step.result _ event;
        same = λ none. absurd (omega (arith, none));
      },
      omega (arith, few),
    )

pub returns-in-Full : goal.returns-in-Full
returns-in-Full c =
    let row = along_quiet c.args.number c.args.hart.now c.loop-made.hart c.run_quiet-made.new.hart c.args.local.now c.loop-made.local c.lines-lines.new.self c.run_quiet-made.new.local c.args.most
    c.loop-made.made c.run_quiet-made.result c.lines-lines.result c.loop-made.invariant.0 c.lines-lines.ensures.lines c.lines-lines.ensures.unchanged c.run_quiet-made.ensures.row
    (omega (arith, c.run_quiet-made.ensures.few, c.loop-made.invariant.1)) in
    let lines = lines_after c.args.number c.lines-lines.result c.loop-made.hart c.run_quiet-made.new.hart c.loop-made.local c.lines-lines.new.self c.run_quiet-made.new.local c.run_quiet-made.result
    c.lines-lines.ensures.lines c.lines-lines.ensures.unchanged c.run_quiet-made.ensures.row in
    let few : c.loop-made.made + c.run_quiet-made.result < c.args.most = (let r = c.run_quiet-made.ensures.few in let m = c.loop-made.invariant.1 in omega (arith, r, m, c.if-made-most.false)) in
    let kept = c.in-Full.ensures.unchanged in
    let along : IsAlong c.args.number c.args.hart.now c.step.new.self c.args.local.now c.step.new.place c.args.most (c.loop-made.made + c.run_quiet-made.result) =
    along_kept c.args.number c.args.hart.now c.run_quiet-made.new.hart c.step.new.self c.args.local.now c.run_quiet-made.new.local c.step.new.place c.args.most
    (c.loop-made.made + c.run_quiet-made.result) row kept.0 kept.1 in
    record {
      burst = along.burst;
      quiet = along.quiet;
      gate = along.gate;
      few = omega (arith, few);
      all = λ less nothing. full_again c.args.number c.lines-lines.result c.run_quiet-made.new.hart c.step.new.self c.run_quiet-made.new.local c.step.new.place lines kept.0 kept.1 c.in-Full.ensures.event;
      same = λ none. ((along.same none).0, (along.same none).1, refl);
    }

pub returns-then-made-most : goal.returns-then-made-most
returns-then-made-most c =
    let row = along_quiet c.args.number c.args.hart.now c.loop-made.hart c.run_quiet-made.new.hart c.args.local.now c.loop-made.local c.lines-lines.new.self c.run_quiet-made.new.local c.args.most
    c.loop-made.made c.run_quiet-made.result c.lines-lines.result c.loop-made.invariant.0 c.lines-lines.ensures.lines c.lines-lines.ensures.unchanged c.run_quiet-made.ensures.row
    (omega (arith, c.run_quiet-made.ensures.few, c.loop-made.invariant.1)) in
    let all : c.loop-made.made + c.run_quiet-made.result ≡ c.args.most = c.if-made-most.true in
    let along : IsAlong c.args.number c.args.hart.now c.run_quiet-made.new.hart c.args.local.now c.run_quiet-made.new.local c.args.most c.args.most =
    subst (λ (n : ℕ). IsAlong c.args.number c.args.hart.now c.run_quiet-made.new.hart c.args.local.now c.run_quiet-made.new.local c.args.most n) all row in
    record {
      burst = along.burst;
      quiet = along.quiet;
      gate = along.gate;
      few = omega arith;
      all = λ less nothing. absurd (omega (arith, less));
      same = λ none. ((along.same none).0, (along.same none).1, refl);
    }
