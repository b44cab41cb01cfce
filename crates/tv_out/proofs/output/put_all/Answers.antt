use Rattle.std.proofs.Common.{Result, Ok, Err, OnErr, subst, List, ℕ}
use Rattle.tv_out.specs.Told.{IsAllOut, IsCut}
use Rattle.tv_out.proofs.Pieces.{IsPutUpTo, put-more, put-part}
use Rattle.tv_out.proofs.output.put_all.Goals as goal

on-err : {T E P : Type 0} (answer : Result T E) → P → OnErr answer P
on-err (Ok _) holds = tt
on-err (Err _) holds = holds

pub returns-in_err-put_piece-clause-cut : goal.returns-in_err-put_piece-clause-cut
returns-in_err-put_piece-clause-cut g c =
    on-err c.from_residual.result
    (put-part c.min.result c.loop-rest.rest.now c.args.bytes.now (g.K.Sink.told c.args.sink.now) (g.K.Sink.told c.loop-rest.sink)
    (g.K.Sink.told c.put_piece.new.sink).bytes c.loop-rest.invariant
    (subst (λ (xs : List ℕ). IsCut xs (g.K.Sink.told c.loop-rest.sink).bytes (g.K.Sink.told c.put_piece.new.sink).bytes) c.split_at.ensures.front
    c.in_err-put_piece.ensures.cut))

pub loop-rest-preserved : goal.loop-rest-preserved
loop-rest-preserved g c =
    let so_far : IsPutUpTo _ c.args.bytes.now (g.K.Sink.told c.args.sink.now) (g.K.Sink.told c.put_piece.new.sink) =
    put-more c.min.result c.loop-rest.rest.now c.args.bytes.now (g.K.Sink.told c.args.sink.now) (g.K.Sink.told c.loop-rest.sink)
    (g.K.Sink.told c.put_piece.new.sink) c.loop-rest.invariant
    (subst (λ (xs : List ℕ). IsAllOut xs (g.K.Sink.told c.loop-rest.sink) (g.K.Sink.told c.put_piece.new.sink)) c.split_at.ensures.front
    c.in_ok-put_piece.ensures.all)
    c.in_ok-put_piece.ensures.cause.later
    in rw c.split_at.ensures.back so_far
