use Rattle.std.proofs.Common.{ℕ, List, ◌∙◌, subst}
use Rattle.tv_journal.specs.Stores.{head_bytes, carried_bytes}
use Rattle.tv_journal.specs.Writing.{WritesOn, EndsIn}
use Rattle.tv_journal.proofs.Written.{ends-after, ends-before, on-err, at-err}
use Rattle.tv_journal.proofs.writer.write_record.Goals as goal

pub returns-in_err-write_bytes-clause-err : goal.returns-in_err-write_bytes-clause-err
returns-in_err-write_bytes-clause-err g c =
    at-err c.from_residual.result
    (ends-before (head_bytes c.args.more.now) (carried_bytes c.args.payload.now c.args.more.now) _ _ _
    (subst (λ (bytes : List ℕ). EndsIn bytes (g.K.Sink.told c.args.sink.now) c.args.piece.now.items (g.K.Sink.told c.write_bytes.new.sink))
    (c.deref.ensures.0 ∙ c.line_of_record.ensures) c.in_err-write_bytes.ensures.err))

pub returns-clause-err : goal.returns-clause-err
returns-clause-err g c =
    let old = (g.K.Sink.told c.args.sink.now) in
    let mid = (g.K.Sink.told c.write_bytes.new.sink) in
    let new = (g.K.Sink.told c.write_bytes-2.new.sink) in
    let piece = c.write_bytes.new.piece.items in
    let head = head_bytes c.args.more.now in
    let carried = carried_bytes c.args.payload.now c.args.more.now in
    let first : WritesOn head old c.args.piece.now.items mid piece =
    subst (λ (bytes : List ℕ). WritesOn bytes old c.args.piece.now.items mid piece) (c.deref.ensures.0 ∙ c.line_of_record.ensures) c.in_ok-write_bytes.ensures.ok in
    on-err (EndsIn c.carried.result.now mid piece new) _ c.write_bytes-2.result
    (λ (ends : EndsIn c.carried.result.now mid piece new). ends-after head carried old mid new c.args.piece.now.items piece first (rw (← c.carried.ensures.bytes) ends))
    c.write_bytes-2.ensures.err
