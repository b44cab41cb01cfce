use Rattle.std.proofs.Common.{rules, ◌+◌, ◌++◌, ℕ, List, Option, [], refl, ap, arith, subst, length-append}
use Rattle.tv_blk.proofs.Places.{read_begin, read_next, read_end}
use Rattle.tv_blk.proofs.sectors.read_sectors.Goals as goal
use Rattle.tv_plan.specs.Block.{read_sectors}
use Rattle.tv_blk.specs.Reading.{with_content}
use Rattle.tv_script.proofs.Scripts.{reached_here}
use Rattle.tv_script.specs.Scripts.{Script, Reached}
use Rattle.tv_virtio.specs.declared.queue.QueueStop.{QueueStop}
use Rattle.tv_vring.proofs.Runs.{call_awaited, call_leads, call_passed, passed_on}
use Rattle.tv_vring.specs.Rings.{Ring, with_answered}

pub loop-n-init : goal.loop-n-init
loop-n-init g c =
    rw c.requires.none (
      record {
        here = subst (λ (s : Script QueueStop (Option (List ℕ))). Reached g.P.Port.moved c.args.port.now (read_sectors c.args.count c.args.first []) c.args.port.now s) (read_begin c.args.count c.args.first []) (reached_here _ _ _ (g.met.P.Port.stays _));
        ring = search rules;
        len = search rules;
      },
      omega arith,
    )

pub read_sector-requires : goal.read_sector-requires
read_sector-requires g c =
    record {
      awaits = call_awaited _ g.P.Port.awaits _ _ _ _ _ _ g.met.P.Port.goes_on c.requires.awaits c.loop-n.invariant.0.here
          (read_next c.args.count c.args.first c.loop-n.n (c.args.first + c.from.result) c.loop-n.ring.answered (omega arith) (ap (λ (k : ℕ). c.args.first + k) c.from.ensures));
    }

pub returns-in_default-clause-ran : goal.returns-in_default-clause-ran
returns-in_default-clause-ran g c =
    call_leads _ _ _ _ _ _ _ _ _ _ g.met.P.Port.joins c.loop-n.invariant.0.here
    (read_next c.args.count c.args.first c.loop-n.n (c.args.first + c.from.result) c.loop-n.ring.answered (omega arith) (ap (λ (k : ℕ). c.args.first + k) c.from.ensures))
    (rw c.in_default.is at c.in_ok-bytes.ensures.ran) refl

pub returns-in_err-bytes-clause-ran : goal.returns-in_err-bytes-clause-ran
returns-in_err-bytes-clause-ran g c =
    call_passed _ _ _ _ _ _ _ _ _ _ _ _ g.met.P.Port.joins c.loop-n.invariant.0.here
    (read_next c.args.count c.args.first c.loop-n.n (c.args.first + c.from.result) c.loop-n.ring.answered (omega arith) (ap (λ (k : ℕ). c.args.first + k) c.from.ensures))
    c.in_err-bytes.ensures.ran (passed_on (with_content c.loop-n.ring.answered) c.from_residual.result c.in_err-bytes.field-0.0 refl c.from_residual.ensures)

pub loop-n-preserved : goal.loop-n-preserved
loop-n-preserved g c = (
  rw (c.answer.ensures, c.as_slice.ensures.bytes) (record {
    here = call_leads _ _ _ _ _ _ _ _ _ _ g.met.P.Port.joins c.loop-n.invariant.0.here
        (read_next c.args.count c.args.first c.loop-n.n (c.args.first + c.from.result) c.loop-n.ring.answered (omega arith) (ap (λ (k : ℕ). c.args.first + k) c.from.ensures))
        (rw c.in-Some.is at c.in_ok-bytes.ensures.ran) refl;
    ring = ap (λ (r : Ring). with_answered r (c.loop-n.ring.answered ++ c.in-Some.bytes)) c.loop-n.invariant.0.ring;
    len = (let len = rw c.in-Some.is at c.in_ok-bytes.ensures.len in omega (arith, length-append {A = ℕ}, len));
  }),
  omega arith,
)

pub returns-clause-ran : goal.returns-clause-ran
returns-clause-ran g c =
    subst (λ (s : Script QueueStop (Option (List ℕ))). Reached g.P.Port.moved c.args.port.now (read_sectors c.args.count c.args.first []) c.loop-n.port s)
    (read_end c.args.count c.args.first c.loop-n.n c.loop-n.ring.answered (omega arith)) c.loop-n.invariant.0.here
