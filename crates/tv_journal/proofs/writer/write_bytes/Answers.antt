use Rattle.std.proofs.Common.{ℕ, List, subst, append-nil}
use Rattle.tv_out.specs.Told.{ToldSink}
use Rattle.tv_journal.specs.Writing.{IsWriting, IsPartPut}
use Rattle.tv_journal.proofs.Written.{cut-more, at-err}
use Rattle.tv_journal.proofs.writer.write_bytes.Goals as goal

pub returns-in_err-put_piece-clause-err : goal.returns-in_err-put_piece-clause-err
returns-in_err-put_piece-clause-err g c = at-err c.from_residual.result λ (start : ToldSink) (written : List ℕ) (so_far : IsWriting written start (g.K.Sink.told c.args.sink.now) c.args.piece.now.items).
    cut-more written c.args.bytes.now start (g.K.Sink.told c.put_piece.new.sink)
    (subst (λ (xs : List ℕ). IsPartPut xs start (g.K.Sink.told c.put_piece.new.sink)) (append-nil written) (c.in_err-put_piece.ensures.err start written so_far))
