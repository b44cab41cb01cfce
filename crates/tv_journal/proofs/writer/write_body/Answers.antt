use Rattle.std.proofs.Common.{ℕ, List, Some, None, subst}
use Rattle.std.specs.Prelude.{OnOk, OnErr}
use Rattle.tv_journal.specs.Writing.{WritesOn, EndsIn}
use Rattle.tv_journal.proofs.Stored.{lines-spelled}
use Rattle.tv_journal.proofs.writer.write_body.Goals as goal

pub returns-in-Some-clause-ok : goal.returns-in-Some-clause-ok
returns-in-Some-clause-ok g c =
    rw c.in-Some.is
    (subst (λ (bytes : List ℕ). OnOk c.write_around.result (WritesOn bytes (g.K.Sink.told c.args.sink.now) c.args.piece.now.items (g.K.Sink.told c.write_around.new.sink) c.write_around.new.piece.items))
    (lines-spelled c.args.store.now.payload.items c.args.store.now.records.items (Some c.in-Some.end) c.requires.lies) (rw (c.deref.ensures.value, c.deref-in-Some.ensures.value) at c.write_around.ensures.ok))

pub returns-in-Some-clause-err : goal.returns-in-Some-clause-err
returns-in-Some-clause-err g c =
    rw c.in-Some.is
    (subst (λ (bytes : List ℕ). OnErr c.write_around.result (EndsIn bytes (g.K.Sink.told c.args.sink.now) c.args.piece.now.items (g.K.Sink.told c.write_around.new.sink)))
    (lines-spelled c.args.store.now.payload.items c.args.store.now.records.items (Some c.in-Some.end) c.requires.lies) (rw (c.deref.ensures.value, c.deref-in-Some.ensures.value) at c.write_around.ensures.err))

pub returns-in-None-clause-ok : goal.returns-in-None-clause-ok
returns-in-None-clause-ok g c =
    rw c.in-None.is
    (subst (λ (bytes : List ℕ). OnOk c.write_records.result (WritesOn bytes (g.K.Sink.told c.args.sink.now) c.args.piece.now.items (g.K.Sink.told c.write_records.new.sink) c.write_records.new.piece.items))
    (lines-spelled c.args.store.now.payload.items c.args.store.now.records.items None c.requires.lies) (rw (c.deref-in-None.ensures.value, c.deref-in-None-2.ensures.value) at c.write_records.ensures.ok))

pub returns-in-None-clause-err : goal.returns-in-None-clause-err
returns-in-None-clause-err g c =
    rw c.in-None.is
    (subst (λ (bytes : List ℕ). OnErr c.write_records.result (EndsIn bytes (g.K.Sink.told c.args.sink.now) c.args.piece.now.items (g.K.Sink.told c.write_records.new.sink)))
    (lines-spelled c.args.store.now.payload.items c.args.store.now.records.items None c.requires.lies) (rw (c.deref-in-None.ensures.value, c.deref-in-None-2.ensures.value) at c.write_records.ensures.err))
