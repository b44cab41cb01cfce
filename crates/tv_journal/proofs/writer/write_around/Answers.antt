use Rattle.std.proofs.Common.{◌++◌, take, drop}
use Rattle.std.specs.Prelude.{flat_map}
use Rattle.tv_journal.specs.Grammar.{end_bytes}
use Rattle.tv_journal.specs.Stores.{stored_bytes}
use Rattle.tv_journal.specs.Writing.{EndsIn}
use Rattle.tv_journal.proofs.Written.{writes-after, ends-after, ends-before, on-err, at-err}
use Rattle.tv_journal.proofs.writer.write_around.Goals as goal

pub returns-in_err-write_records-clause-err : goal.returns-in_err-write_records-clause-err
returns-in_err-write_records-clause-err g c =
    let rs = c.args.records.now in
    let n = c.args.end.records in
    at-err c.from_residual.result
    (ends-before (flat_map (stored_bytes c.args.payload.now) (take n rs) ++ end_bytes c.args.end) (flat_map (stored_bytes c.args.payload.now) (drop n rs)) _ _ _
    (ends-before (flat_map (stored_bytes c.args.payload.now) (take n rs)) (end_bytes c.args.end) _ _ _ (rw c.split_at.ensures.front at c.in_err-write_records.ensures.err)))

pub returns-in_err-write_end-clause-err : goal.returns-in_err-write_end-clause-err
returns-in_err-write_end-clause-err g c =
    let rs = c.args.records.now in
    let n = c.args.end.records in
    at-err c.from_residual-in_err-write_end.result
    (ends-before (flat_map (stored_bytes c.args.payload.now) (take n rs) ++ end_bytes c.args.end) (flat_map (stored_bytes c.args.payload.now) (drop n rs)) _ _ _
    (ends-after (flat_map (stored_bytes c.args.payload.now) (take n rs)) (end_bytes c.args.end) _ _ _ _ _ (rw c.split_at.ensures.front at c.in_ok-write_records.ensures.ok) c.in_err-write_end.ensures.err))

pub returns-clause-err : goal.returns-clause-err
returns-clause-err g c =
    let rs = c.args.records.now in
    let n = c.args.end.records in
    let mid = (g.K.Sink.told c.write_end.new.sink) in
    let new = (g.K.Sink.told c.write_records-2.new.sink) in
    let piece = c.write_end.new.piece.items in
    on-err (EndsIn (flat_map (stored_bytes c.args.payload.now) c.split_at.result.1.now) mid piece new) _ c.write_records-2.result
    (λ (ends : EndsIn (flat_map (stored_bytes c.args.payload.now) c.split_at.result.1.now) mid piece new).
    ends-after (flat_map (stored_bytes c.args.payload.now) (take n rs) ++ end_bytes c.args.end) (flat_map (stored_bytes c.args.payload.now) (drop n rs)) _ mid new _ piece
    (writes-after (flat_map (stored_bytes c.args.payload.now) (take n rs)) (end_bytes c.args.end) _ _ mid _ _ piece (rw c.split_at.ensures.front at c.in_ok-write_records.ensures.ok) c.in_ok-write_end.ensures.ok)
    (rw c.split_at.ensures.back at ends))
    c.write_records-2.ensures.err
