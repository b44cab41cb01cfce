use Rattle.std.proofs.Common.{rules, refl, arith, drop}
use Rattle.tv_script.proofs.Scripts.{reached_here}
use Rattle.tv_vring.proofs.Runs.{call_awaited, call_leads, call_passed, passed_on}
use Rattle.tv_virtio.specs.declared.queue.Span.{Span}
use Rattle.tv_vring.proofs.Pieces.{write_spans_next, write_spans_end}
use Rattle.tv_vring.proofs.buffers.write_spans.Goals as goal

abbrev no_span : Span
no_span = record { addr = 0; len = 0 }

pub loop-span-init : goal.loop-span-init
loop-span-init g c = (reached_here _ _ _ (g.met.P.Port.stays _), omega arith, omega arith)

pub write_span-requires-clause-awaits : goal.write_span-requires-clause-awaits
write_span-requires-clause-awaits g c = (call_awaited _ g.P.Port.awaits _ _ _ _ _ _ g.met.P.Port.goes_on c.requires.awaits c.loop-span.invariant.0 (write_spans_next c.args.spans.now c.loop-span.span-index c.loop-span.at c.min-len.result no_span c.args.bytes.now c.part.result.now c.loop-span-test.true c.min-len.ensures c.part.ensures))

pub returns-in_err-write_span-clause-ran : goal.returns-in_err-write_span-clause-ran
returns-in_err-write_span-clause-ran g c = call_passed _ _ _ _ _ _ _ _ _ _ _ _ g.met.P.Port.joins c.loop-span.invariant.0 (write_spans_next c.args.spans.now c.loop-span.span-index c.loop-span.at c.min-len.result no_span c.args.bytes.now c.part.result.now c.loop-span-test.true c.min-len.ensures c.part.ensures) c.in_err-write_span.ensures.ran (passed_on (λ r. r) c.from_residual.result c.in_err-write_span.field-0.0 refl c.from_residual.ensures)

pub loop-span-preserved : goal.loop-span-preserved
loop-span-preserved g c = (call_leads _ _ _ _ _ _ _ _ _ _ g.met.P.Port.joins c.loop-span.invariant.0 (write_spans_next c.args.spans.now c.loop-span.span-index c.loop-span.at c.min-len.result no_span c.args.bytes.now c.part.result.now c.loop-span-test.true c.min-len.ensures c.part.ensures) c.in_ok-write_span.ensures.ran refl, search rules, search rules)

pub returns-clause-ran : goal.returns-clause-ran
returns-clause-ran g c = rw (← write_spans_end c.args.spans.now c.loop-span.span-index (drop c.loop-span.at c.args.bytes.now) (omega arith)) c.loop-span.invariant.0
