use Rattle.std.proofs.Common.{rules, ◌*◌, ◌∙◌, refl, arith, drop, length}
use Rattle.tv_base.specs.declared.limits.TheConstants.{PIECE_BYTES}
use Rattle.tv_script.proofs.Scripts.{reached_here}
use Rattle.tv_vring.proofs.Runs.{call_awaited, call_leads, call_passed, passed_on}
use Rattle.tv_console.proofs.Puts.{put_pieces_next, put_pieces_end}
use Rattle.tv_console.proofs.streams.put_all.Goals as goal

pub loop-n-init : goal.loop-n-init
loop-n-init g c = (reached_here _ _ _ (g.met.P.Port.stays _), omega arith)

pub put-requires-clause-awaits : goal.put-requires-clause-awaits
put-requires-clause-awaits g c =
    call_awaited _ g.P.Port.awaits _ _ _ _ _ _ g.met.P.Port.goes_on c.requires.awaits c.loop-n.invariant.0 (put_pieces_next (record { addr = 0; len = length c.args.bytes.now }) _ _ _ (omega arith) refl (c.of.ensures ∙ c.piece.ensures))

pub loop-n-preserved : goal.loop-n-preserved
loop-n-preserved g c = (
  call_leads _ _ _ _ _ _ _ _ _ _ g.met.P.Port.joins c.loop-n.invariant.0 (put_pieces_next (record { addr = 0; len = length c.args.bytes.now }) _ _ _ (omega arith) refl (c.of.ensures ∙ c.piece.ensures)) c.in_ok-put.ensures.ran (rw c.if-not-branch.false refl),
  search rules,
)

pub returns-in_err-put-clause-ran : goal.returns-in_err-put-clause-ran
returns-in_err-put-clause-ran g c =
    call_passed _ _ _ _ _ _ _ _ _ _ _ _ g.met.P.Port.joins c.loop-n.invariant.0 (put_pieces_next (record { addr = 0; len = length c.args.bytes.now }) _ _ _ (omega arith) refl (c.of.ensures ∙ c.piece.ensures)) c.in_err-put.ensures.ran
    (passed_on (λ r. r) c.from_residual.result c.in_err-put.field-0.0 refl c.from_residual.ensures)

pub returns-then-not-branch-clause-ran : goal.returns-then-not-branch-clause-ran
returns-then-not-branch-clause-ran g c =
    call_leads _ _ _ _ _ _ _ _ _ _ g.met.P.Port.joins c.loop-n.invariant.0 (put_pieces_next (record { addr = 0; len = length c.args.bytes.now }) _ _ _ (omega arith) refl (c.of.ensures ∙ c.piece.ensures)) c.in_ok-put.ensures.ran (rw c.if-not-branch.true refl)

pub returns-clause-ran : goal.returns-clause-ran
returns-clause-ran g c = rw (← put_pieces_end (record { addr = 0; len = length c.args.bytes.now }) c.loop-n.n (drop (c.loop-n.n * PIECE_BYTES) c.args.bytes.now) (omega arith)) c.loop-n.invariant.0
