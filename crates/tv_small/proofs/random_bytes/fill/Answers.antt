use Rattle.std.proofs.Common.{rules, ◌++◌, ℕ, refl, ap, arith, length-append}
use Rattle.tv_script.proofs.Scripts.{reached_here}
use Rattle.tv_virtio.specs.Queue.{with_value}
use Rattle.tv_vring.specs.Rings.{Ring, with_answered}
use Rattle.tv_vring.proofs.Runs.{call_awaited, call_leads, call_passed, passed_on}
use Rattle.tv_small.proofs.Fills.{fill_next, fill_end}
use Rattle.tv_small.proofs.random_bytes.fill.Goals as goal

pub loop-n-init : goal.loop-n-init
loop-n-init g c = rw c.requires.none (record { here = reached_here _ _ _ (g.met.P.Port.stays _); ring = search rules; len = search rules }, omega arith)

pub random-requires-clause-awaits : goal.random-requires-clause-awaits
random-requires-clause-awaits g c = call_awaited _ g.P.Port.awaits _ _ _ _ _ _ g.met.P.Port.goes_on c.requires.awaits c.loop-n.invariant.0.here (fill_next (record { addr = 0; len = c.args.len }) _ _ _ (omega arith) c.min.ensures)

pub returns-in_err-bytes-clause-ran : goal.returns-in_err-bytes-clause-ran
returns-in_err-bytes-clause-ran g c =
    call_passed _ _ _ _ _ _ _ _ _ _ _ _ g.met.P.Port.joins c.loop-n.invariant.0.here (fill_next (record { addr = 0; len = c.args.len }) _ _ _ (omega arith) c.min.ensures) c.in_err-bytes.ensures.ran
    (passed_on (with_value c.loop-n.ring.answered) c.from_residual.result c.in_err-bytes.field-0.0 refl c.from_residual.ensures)

pub loop-n-preserved : goal.loop-n-preserved
loop-n-preserved g c = (
  rw (c.answer.ensures, c.as_slice.ensures.bytes) (record {
    here = call_leads _ _ _ _ _ _ _ _ _ _ g.met.P.Port.joins c.loop-n.invariant.0.here (fill_next (record { addr = 0; len = c.args.len }) _ _ _ (omega arith) c.min.ensures) c.in_ok-bytes.ensures.ran refl;
    ring = ap (λ (r : Ring). with_answered r (c.loop-n.ring.answered ++ c.in_ok-bytes.bytes)) c.loop-n.invariant.0.ring;
    len = omega (arith, length-append {A = ℕ}, c.in_ok-bytes.ensures.len);
  }),
  search rules,
)

pub returns-clause-ran : goal.returns-clause-ran
returns-clause-ran g c = rw (← fill_end (record { addr = 0; len = c.args.len }) c.loop-n.n c.loop-n.ring.answered (omega arith)) c.loop-n.invariant.0.here
