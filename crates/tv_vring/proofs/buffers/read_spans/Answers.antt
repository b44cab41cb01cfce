use Rattle.std.proofs.Common.{rules, refl, arith}
use Rattle.tv_script.proofs.Scripts.{reached_here}
use Rattle.tv_virtio.specs.Queue.{with_value}
use Rattle.tv_vring.proofs.Runs.{call_awaited, call_leads, call_passed, passed_on}
use Rattle.tv_vring.proofs.Pieces.{read_spans_next, read_spans_end}
use Rattle.tv_virtio.specs.declared.queue.Span.{Span}
use Rattle.tv_vring.proofs.Spans.{total_next}
use Rattle.tv_vring.proofs.buffers.read_spans.Goals as goal

pub loop-span-init : goal.loop-span-init
loop-span-init g c = (record { here = reached_here _ _ _ (g.met.P.Port.stays _); count = omega arith; room = omega arith }, omega arith)

pub read_span-requires-clause-awaits : goal.read_span-requires-clause-awaits
read_span-requires-clause-awaits g c = call_awaited _ g.P.Port.awaits _ _ _ _ _ _ g.met.P.Port.goes_on c.requires.awaits c.loop-span.invariant.0.here (read_spans_next _ _ _ _ c.loop-span-test.true)

pub returns-in_err-read_span-clause-ran : goal.returns-in_err-read_span-clause-ran
returns-in_err-read_span-clause-ran g c = call_passed _ _ _ _ _ _ _ _ _ _ _ _ g.met.P.Port.joins c.loop-span.invariant.0.here (read_spans_next _ _ _ _ c.loop-span-test.true) c.in_err-read_span.ensures.ran (passed_on (with_value c.read_span.new.into.items) c.from_residual.result c.in_err-read_span.field-0.0 refl c.from_residual.ensures)

pub loop-span-preserved : goal.loop-span-preserved
loop-span-preserved g c = (
  record {
    here = call_leads _ _ _ _ _ _ _ _ _ _ g.met.P.Port.joins c.loop-span.invariant.0.here (read_spans_next _ _ _ _ c.loop-span-test.true) c.in_ok-read_span.ensures.ran refl;
    count = let none : Span = record { addr = 0; len = 0 } in omega (arith, total_next c.args.spans.now c.loop-span.span-index none c.loop-span-test.true, c.in_ok-read_span.ensures.len);
    room = search rules;
  },
  search rules,
)

pub returns-clause-ran : goal.returns-clause-ran
returns-clause-ran g c = rw (← read_spans_end c.args.spans.now c.loop-span.span-index c.loop-span.into.items (omega arith)) c.loop-span.invariant.0.here
