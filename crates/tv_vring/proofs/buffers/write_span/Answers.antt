use Rattle.std.proofs.Common.{rules, ◌*◌, ◌∙◌, ℕ, refl, ap, arith, take, drop}
use Rattle.tv_base.specs.declared.limits.TheConstants.{PIECE_BYTES}
use Rattle.tv_script.proofs.Scripts.{reached_here}
use Rattle.tv_vring.proofs.Runs.{call_awaited, call_leads, call_passed, passed_on}
use Rattle.tv_vring.proofs.Pieces.{write_pieces_next, write_pieces_end}
use Rattle.tv_vring.proofs.buffers.write_span.Goals as goal

pub loop-n-init : goal.loop-n-init
loop-n-init g c = (reached_here _ _ _ (g.met.P.Port.stays _), omega arith)

pub write-requires-clause-awaits : goal.write-requires-clause-awaits
write-requires-clause-awaits g c = call_awaited _ g.P.Port.awaits _ _ _ _ _ _ g.met.P.Port.goes_on c.requires.awaits c.loop-n.invariant.0 (write_pieces_next _ _ _ _ _ (omega arith) (rw c.from.ensures refl) c.requires.len (c.of-piece.ensures ∙ c.part.ensures ∙ ap (λ (m : ℕ). take m (drop (c.loop-n.n * PIECE_BYTES) c.args.bytes.now)) c.min-len.ensures))

pub returns-in_err-write-clause-ran : goal.returns-in_err-write-clause-ran
returns-in_err-write-clause-ran g c = call_passed _ _ _ _ _ _ _ _ _ _ _ _ g.met.P.Port.joins c.loop-n.invariant.0 (write_pieces_next _ _ _ _ _ (omega arith) (rw c.from.ensures refl) c.requires.len (c.of-piece.ensures ∙ c.part.ensures ∙ ap (λ (m : ℕ). take m (drop (c.loop-n.n * PIECE_BYTES) c.args.bytes.now)) c.min-len.ensures)) c.in_err-write.ensures.ran (passed_on (λ r. r) c.from_residual.result c.in_err-write.field-0.0 refl c.from_residual.ensures)

pub loop-n-preserved : goal.loop-n-preserved
loop-n-preserved g c = (call_leads _ _ _ _ _ _ _ _ _ _ g.met.P.Port.joins c.loop-n.invariant.0 (write_pieces_next _ _ _ _ _ (omega arith) (rw c.from.ensures refl) c.requires.len (c.of-piece.ensures ∙ c.part.ensures ∙ ap (λ (m : ℕ). take m (drop (c.loop-n.n * PIECE_BYTES) c.args.bytes.now)) c.min-len.ensures)) c.in_ok-write.ensures.ran refl, search rules)

pub returns-clause-ran : goal.returns-clause-ran
returns-clause-ran g c = rw (← write_pieces_end c.args.span c.loop-n.n (drop (c.loop-n.n * PIECE_BYTES) c.args.bytes.now) (omega arith)) c.loop-n.invariant.0
