use Rattle.std.proofs.Common.{◌≡◌, [], ◌++◌, length, arith}
use Rattle.std.specs.Prelude.{codes, OnOk, OnErr}
use Rattle.tv_journal.specs.Grammar.{lines_bytes, closing_bytes}
use Rattle.tv_journal.specs.Stores.{held}
use Rattle.tv_journal.specs.Writing.{WritesOn, EndsIn}
use Rattle.tv_journal.proofs.Room.{held-length}
use Rattle.tv_journal.proofs.Written.{writes-after, ends-after, ends-before, on-err, on-ok, cut-whole, gives-whole, gives-cut}
use Rattle.tv_journal.proofs.writer.write_lines.Goals as goal

pub returns-in_err-write_bytes-clause-gives : goal.returns-in_err-write_bytes-clause-gives
returns-in_err-write_bytes-clause-gives g c =
    let lines = lines_bytes (held c.args.store.now) c.args.end in
    let closing = closing_bytes (length (held c.args.store.now)) in
    let magic : EndsIn (codes "TVJ1") (g.K.Sink.told c.args.sink.now) [] (g.K.Sink.told c.write_bytes.new.sink) =
    rw c.new-piece.ensures at c.in_err-write_bytes.ensures.err in
    gives-cut c.from_residual.result ((codes "TVJ1" ++ lines) ++ closing) _ _ c.from_residual.ensures.0
    (cut-whole ((codes "TVJ1" ++ lines) ++ closing) _ _ (ends-before (codes "TVJ1" ++ lines) closing _ _ _ (ends-before (codes "TVJ1") lines _ _ _ magic)))

pub returns-in_err-write_body-clause-gives : goal.returns-in_err-write_body-clause-gives
returns-in_err-write_body-clause-gives g c =
    let lines = lines_bytes (held c.args.store.now) c.args.end in
    let closing = closing_bytes (length (held c.args.store.now)) in
    let magic : WritesOn (codes "TVJ1") (g.K.Sink.told c.args.sink.now) [] (g.K.Sink.told c.write_bytes.new.sink) c.write_bytes.new.piece.items =
    rw c.new-piece.ensures at c.in_ok-write_bytes.ensures.ok in
    gives-cut c.from_residual-in_err-write_body.result ((codes "TVJ1" ++ lines) ++ closing) _ _ c.from_residual-in_err-write_body.ensures.0
    (cut-whole ((codes "TVJ1" ++ lines) ++ closing) _ _ (ends-before (codes "TVJ1" ++ lines) closing _ _ _ (ends-after (codes "TVJ1") lines _ _ _ _ _ magic c.in_err-write_body.ensures.err)))

pub returns-clause-gives : goal.returns-clause-gives
returns-clause-gives g c =
    let lines = lines_bytes (held c.args.store.now) c.args.end in
    let closing = closing_bytes (length (held c.args.store.now)) in
    let old = (g.K.Sink.told c.args.sink.now) in
    let mid = (g.K.Sink.told c.write_body.new.sink) in
    let new = (g.K.Sink.told c.write_closing.new.sink) in
    let piece = c.write_body.new.piece.items in
    let count : c.len.result ≡ length (held c.args.store.now) = omega (arith, c.len.ensures, held-length c.args.store.now) in
    let magic : WritesOn (codes "TVJ1") old [] (g.K.Sink.told c.write_bytes.new.sink) c.write_bytes.new.piece.items =
    rw c.new-piece.ensures at c.in_ok-write_bytes.ensures.ok in
    let body : WritesOn (codes "TVJ1" ++ lines) old [] mid piece =
    writes-after (codes "TVJ1") lines old (g.K.Sink.told c.write_bytes.new.sink) mid [] c.write_bytes.new.piece.items piece magic c.in_ok-write_body.ensures.ok in
    let ok : OnOk c.write_closing.result (WritesOn ((codes "TVJ1" ++ lines) ++ closing) old [] new []) =
    on-ok (WritesOn closing mid piece new []) _ c.write_closing.result
    (λ (writes : WritesOn closing mid piece new []). writes-after (codes "TVJ1" ++ lines) closing old mid new [] piece [] body writes) (rw (← count) c.write_closing.ensures.ok) in
    let err : OnErr c.write_closing.result (EndsIn ((codes "TVJ1" ++ lines) ++ closing) old [] new) =
    on-err (EndsIn closing mid piece new) _ c.write_closing.result
    (λ (ends : EndsIn closing mid piece new). ends-after (codes "TVJ1" ++ lines) closing old mid new [] piece body ends) (rw (← count) c.write_closing.ensures.err) in
    gives-whole c.write_closing.result ((codes "TVJ1" ++ lines) ++ closing) old new (omega arith) ok err
