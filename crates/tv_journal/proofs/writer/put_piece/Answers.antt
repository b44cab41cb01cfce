use Rattle.std.proofs.Common.{ℕ, List, [], length, ◌<◌, sym, arith}
use Rattle.std.proofs.lemmas.Bool.{eqb-false}
use Rattle.tv_out.specs.Told.{ToldSink}
use Rattle.tv_journal.specs.Writing.{IsWriting}
use Rattle.tv_journal.proofs.Written.{writing-put, writing-cut, at-err}
use Rattle.tv_journal.proofs.writer.put_piece.Goals as goal

pub returns-in-Err-clause-err : goal.returns-in-Err-clause-err
returns-in-Err-clause-err g c = at-err (Rattle.std.proofs.Common.Err _) λ (start : ToldSink) (written : List ℕ) (so_far : IsWriting written start (g.K.Sink.told c.args.sink.now) c.args.piece.now.items).
    let some : 0 < length c.args.piece.now.items = omega (arith, eqb-false (length c.args.piece.now.items) 0 (sym c.if-is_empty.ensures)) in
    writing-cut written start (g.K.Sink.told c.args.sink.now) (g.K.Sink.told c.put.new.self) c.args.piece.now.items [] c.in-Err.field-0 so_far some
    (rw c.deref.ensures.0 at c.in-Err.ensures.told) (rw c.deref.ensures.0 at c.in-Err.ensures.follows)

pub returns-in-Ok-clause-ok : goal.returns-in-Ok-clause-ok
returns-in-Ok-clause-ok g c = λ (start : ToldSink) (written : List ℕ) (so_far : IsWriting written start (g.K.Sink.told c.args.sink.now) c.args.piece.now.items).
    let some : 0 < length c.args.piece.now.items = omega (arith, eqb-false (length c.args.piece.now.items) 0 (sym c.if-is_empty.ensures)) in
    writing-put written start (g.K.Sink.told c.args.sink.now) (g.K.Sink.told c.put.new.self) c.args.piece.now.items c.in-Ok.field-0 so_far some (rw c.deref.ensures.0 at c.deref.ensures.1)
    (rw c.deref.ensures.0 at c.in-Ok.ensures.told) c.in-Ok.ensures.script (rw c.deref.ensures.0 at c.in-Ok.ensures.follows)
