use Rattle.std.proofs.Common.{ℕ, List, [], ◌∙◌, subst}
use Rattle.tv_journal.specs.Grammar.{closing_bytes}
use Rattle.tv_journal.specs.Writing.{WritesOn, EndsIn}
use Rattle.tv_journal.proofs.Written.{ends-after, on-err, at-err}
use Rattle.tv_journal.proofs.writer.write_closing.Goals as goal

pub returns-in_err-write_bytes-clause-err : goal.returns-in_err-write_bytes-clause-err
returns-in_err-write_bytes-clause-err g c =
    at-err c.from_residual.result
    (subst (λ (bytes : List ℕ). EndsIn bytes (g.K.Sink.told c.args.sink.now) c.args.piece.now.items (g.K.Sink.told c.write_bytes.new.sink))
    (c.deref.ensures.0 ∙ c.line_of_count.ensures) c.in_err-write_bytes.ensures.err)

pub returns-clause-err : goal.returns-clause-err
returns-clause-err g c =
    let old = (g.K.Sink.told c.args.sink.now) in
    let mid = (g.K.Sink.told c.write_bytes.new.sink) in
    let new = (g.K.Sink.told c.put_piece.new.sink) in
    let first : WritesOn (closing_bytes c.args.count) old c.args.piece.now.items mid c.write_bytes.new.piece.items =
    subst (λ (bytes : List ℕ). WritesOn bytes old c.args.piece.now.items mid c.write_bytes.new.piece.items) (c.deref.ensures.0 ∙ c.line_of_count.ensures) c.in_ok-write_bytes.ensures.ok in
    on-err (EndsIn [] mid c.write_bytes.new.piece.items new) _ c.put_piece.result
    (λ (ends : EndsIn [] mid c.write_bytes.new.piece.items new). ends-after (closing_bytes c.args.count) [] old mid new c.args.piece.now.items c.write_bytes.new.piece.items first ends)
    c.put_piece.ensures.err
