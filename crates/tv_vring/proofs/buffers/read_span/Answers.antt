use Rattle.std.proofs.Common.{rules, refl, arith}
use Rattle.tv_script.proofs.Scripts.{reached_here}
use Rattle.tv_virtio.specs.Queue.{with_value}
use Rattle.tv_vring.proofs.Runs.{call_awaited, call_leads, call_passed, passed_on}
use Rattle.tv_vring.proofs.Pieces.{read_pieces_next, read_pieces_end}
use Rattle.tv_vring.proofs.buffers.read_span.Goals as goal

pub loop-n-init : goal.loop-n-init
loop-n-init g c = (record { here = reached_here _ _ _ (g.met.P.Port.stays _); count = omega arith; room = omega arith }, omega arith)

pub read-requires-clause-awaits : goal.read-requires-clause-awaits
read-requires-clause-awaits g c = call_awaited _ g.P.Port.awaits _ _ _ _ _ _ g.met.P.Port.goes_on c.requires.awaits c.loop-n.invariant.0.here (read_pieces_next _ _ _ _ _ (omega arith) (cc) (cc))

pub returns-in_err-bytes-clause-ran : goal.returns-in_err-bytes-clause-ran
returns-in_err-bytes-clause-ran g c = call_passed _ _ _ _ _ _ _ _ _ _ _ _ g.met.P.Port.joins c.loop-n.invariant.0.here (read_pieces_next _ _ _ _ _ (omega arith) (cc) (cc)) c.in_err-bytes.ensures.ran (passed_on (with_value c.loop-n.into.items) c.from_residual.result c.in_err-bytes.field-0.0 refl c.from_residual.ensures)

pub loop-n-preserved : goal.loop-n-preserved
loop-n-preserved g c = (
  record {
    here = rw (c.append.ensures.items, c.as_slice.ensures.bytes) (call_leads _ _ _ _ _ _ _ _ _ _ g.met.P.Port.joins c.loop-n.invariant.0.here (read_pieces_next _ _ _ _ _ (omega arith) (cc) (cc)) c.in_ok-bytes.ensures.ran refl);
    count = search rules;
    room = search rules;
  },
  search rules,
)

pub returns-clause-ran : goal.returns-clause-ran
returns-clause-ran g c = rw (← read_pieces_end c.args.span c.loop-n.n c.loop-n.into.items (omega arith)) c.loop-n.invariant.0.here
