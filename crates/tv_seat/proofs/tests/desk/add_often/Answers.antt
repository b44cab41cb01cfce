use Rattle.std.proofs.Common.{ap, ◌∙◌}
use Rattle.tv_seat.specs.Desk.{total_of}
use Rattle.tv_seat.proofs.Adding.{grown_by_own, tally_grown}
use Rattle.tv_seat.proofs.tests.desk.add_often.Goals as goal

pub leave-requires-clause-entered : goal.leave-requires-clause-entered
leave-requires-clause-entered g c = (
  c.enter-guard.result,
  ap (λ s. s.inside) c.enter-guard.ensures.seat,
  grown_by_own c.put-fits.result c.number.result _ c.args.amount _ _ c.number.ensures c.put-fits.ensures.few c.put-fits.ensures.added,
)

pub loop-preserved : goal.loop-preserved
loop-preserved g c =
    let number = ap (λ s. s.own.number) c.enter-guard.ensures.seat in (
      ap (λ s. s.lock) c.leave.ensures ∙ ap (λ s. s.lock) c.enter-guard.ensures.seat ∙ c.loop.invariant.0,
      ap (λ s. s.inside) c.leave.ensures,
      ap (λ s. s.own.number) c.leave.ensures ∙ number ∙ c.loop.invariant.2,
      ap (λ s. s.own.tally) c.leave.ensures
          ∙ tally_grown c.put-fits.result c.number.result _ c.args.amount c.args.seat.own.tally c.loop.counter c.enter-guard.result c.put-fits.new.guard
          c.if-not-fits.false c.number.ensures c.put-fits.ensures.added
          (ap (λ n. total_of n c.enter-guard.result) number ∙ c.enter-guard.ensures.promised.2 ∙ c.loop.invariant.3),
    )
