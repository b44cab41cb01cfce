use Rattle.std.proofs.Common.{rules, refl, arith}
use Rattle.tv_script.proofs.Scripts.{reached_here}
use Rattle.tv_virtio.specs.Queue.{with_value}
use Rattle.tv_vring.proofs.Runs.{call_awaited, call_leads, call_passed, passed_on}
use Rattle.tv_vring.proofs.Walks.{walk_is, onward_to, onward_end}
use Rattle.tv_vring.proofs.walk.walk.Goals as goal

pub loop-next-init : goal.loop-next-init
loop-next-init g c = rw c.requires.empty (record { here = reached_here _ _ _ (g.met.P.Port.stays _); count = omega arith }, omega arith)

pub visit-requires-clause-awaits : goal.visit-requires-clause-awaits
visit-requires-clause-awaits g c = call_awaited _ g.P.Port.awaits _ _ _ _ _ _ g.met.P.Port.goes_on c.requires.awaits c.loop-next.invariant.0.here (walk_is _ _ _ _)

pub loop-next-preserved : goal.loop-next-preserved
loop-next-preserved g c = (
  record {
    here = call_leads _ _ _ _ _ _ _ _ _ _ g.met.P.Port.joins c.loop-next.invariant.0.here (walk_is _ _ _ _) c.in_ok-next.ensures.ran (onward_to _ _ _ _ _ c.in-Some.is (search rules));
    count = search rules;
  },
  search rules,
)

pub returns-in-None-clause-ran : goal.returns-in-None-clause-ran
returns-in-None-clause-ran g c = call_leads _ _ _ _ _ _ _ _ _ _ g.met.P.Port.joins c.loop-next.invariant.0.here (walk_is _ _ _ _) c.in_ok-next.ensures.ran (onward_end _ _ _ _ c.in-None.is)

pub returns-in_err-next-clause-ran : goal.returns-in_err-next-clause-ran
returns-in_err-next-clause-ran g c = call_passed _ _ _ _ _ _ _ _ _ _ _ _ g.met.P.Port.joins c.loop-next.invariant.0.here (walk_is _ _ _ _) c.in_err-next.ensures.ran (passed_on (with_value c.visit.new.chain) c.from_residual.result c.in_err-next.field-0.0 refl c.from_residual.ensures)
