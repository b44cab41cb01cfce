use Rattle.std.proofs.Common.{ℕ, List, ◌++◌, take, arith}
use Rattle.std.specs.Prelude.{flat_map}
use Rattle.tv_out.specs.Told.{ToldSink}
use Rattle.tv_journal.specs.Stores.{stored_bytes}
use Rattle.tv_journal.specs.Writing.{IsWriting}
use Rattle.tv_journal.proofs.Written.{cut-in-records, at-err}
use Rattle.tv_journal.proofs.writer.write_records.Goals as goal

pub returns-in_err-write_record-clause-err : goal.returns-in_err-write_record-clause-err
returns-in_err-write_record-clause-err g c = at-err c.from_residual.result λ (start : ToldSink) (written : List ℕ) (so_far : IsWriting written start (g.K.Sink.told c.args.sink.now) c.args.piece.now.items).
    let before = written ++ flat_map (stored_bytes c.args.payload.now) (take c.loop-more.more-index c.args.records.now) in
    cut-in-records (stored_bytes c.args.payload.now) c.args.records.now c.loop-more.more-index c.more-item.result written start (g.K.Sink.told c.write_record.new.sink) (omega arith) c.more-item.is
    (c.in_err-write_record.ensures.err start before (c.loop-more.invariant.written start written so_far))
