use Rattle.std.proofs.Common.{◌∙◌, ◌*◌, ◌/◌, Bool, Result, refl, arith, subst, drop, length}
use Rattle.tv_blk.proofs.Places.{write_begin, write_next, write_end}
use Rattle.tv_blk.proofs.sectors.write_sectors.Goals as goal
use Rattle.tv_plan.specs.Block.{write_sectors}
use Rattle.tv_script.proofs.Scripts.{reached_here}
use Rattle.tv_script.specs.Scripts.{Script, Reached}
use Rattle.tv_virtio.specs.declared.queue.QueueStop.{QueueStop}
use Rattle.tv_vring.proofs.Runs.{call_awaited, call_leads, call_passed, passed_on}

pub loop-n-init : goal.loop-n-init
loop-n-init g c = (
  subst (λ (s : Script QueueStop Bool). Reached g.P.Port.moved c.args.port.now (write_sectors (length c.args.bytes.now / 512) c.args.first c.args.bytes.now) c.args.port.now s)
      (write_begin (length c.args.bytes.now / 512) c.args.first c.args.bytes.now) (reached_here _ _ _ (g.met.P.Port.stays _)),
  omega arith,
)

pub write_sector-requires-clause-awaits : goal.write_sector-requires-clause-awaits
write_sector-requires-clause-awaits g c =
    call_awaited _ g.P.Port.awaits _ _ _ _ _ _ g.met.P.Port.goes_on c.requires.awaits c.loop-n.invariant.0
    (write_next (length c.args.bytes.now / 512) c.args.first c.loop-n.n c.args.bytes.now c.of.result (omega arith) (c.of.ensures ∙ c.part.ensures.bytes))

pub returns-then-not-branch-clause-ran : goal.returns-then-not-branch-clause-ran
returns-then-not-branch-clause-ran g c =
    call_leads _ _ _ _ _ _ _ _ _ _ g.met.P.Port.joins c.loop-n.invariant.0
    (write_next (length c.args.bytes.now / 512) c.args.first c.loop-n.n c.args.bytes.now c.of.result (omega arith) (c.of.ensures ∙ c.part.ensures.bytes))
    (rw c.if-not-branch.true at c.in_ok-write_sector.ensures.ran) refl

pub returns-in_err-write_sector-clause-ran : goal.returns-in_err-write_sector-clause-ran
returns-in_err-write_sector-clause-ran g c =
    call_passed _ _ _ _ _ _ _ _ _ _ _ _ g.met.P.Port.joins c.loop-n.invariant.0
    (write_next (length c.args.bytes.now / 512) c.args.first c.loop-n.n c.args.bytes.now c.of.result (omega arith) (c.of.ensures ∙ c.part.ensures.bytes))
    c.in_err-write_sector.ensures.ran (passed_on (λ (r : Result Bool QueueStop). r) c.from_residual.result c.in_err-write_sector.field-0.0 refl c.from_residual.ensures)

pub loop-n-preserved : goal.loop-n-preserved
loop-n-preserved g c = (
  call_leads _ _ _ _ _ _ _ _ _ _ g.met.P.Port.joins c.loop-n.invariant.0
      (write_next (length c.args.bytes.now / 512) c.args.first c.loop-n.n c.args.bytes.now c.of.result (omega arith) (c.of.ensures ∙ c.part.ensures.bytes))
      (rw c.if-not-branch.false at c.in_ok-write_sector.ensures.ran) refl,
  omega arith,
)

pub returns-clause-ran : goal.returns-clause-ran
returns-clause-ran g c =
    subst (λ (s : Script QueueStop Bool). Reached g.P.Port.moved c.args.port.now (write_sectors (length c.args.bytes.now / 512) c.args.first c.args.bytes.now) c.loop-n.port s)
    (write_end (length c.args.bytes.now / 512) c.args.first c.loop-n.n (drop (512 * c.loop-n.n) c.args.bytes.now) (omega arith)) c.loop-n.invariant.0
