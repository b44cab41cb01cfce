use Rattle.std.proofs.Common.{None, Option, string_bytes}
use Rattle.std.specs.Result.{result_map_both}
use Rattle.tv_top.proofs.Chains.{passed-on, replay-without, replay-illegal, replay-legal}
use Rattle.tv_top.specs.declared.run.Run.{Run}
use Rattle.tv_top.specs.Refusals.{refused_by}
use Rattle.tv_top.proofs.PlainOutside.replay_journal.Goals as goal

pub returns-in_err-journal-clause-does : goal.returns-in_err-journal-clause-does
returns-in_err-journal-clause-does g c =
    rw (passed-on {X = Unit {0}} {Y = Option Run} (λ x. None) c.from_residual-in_err-journal.result c.in_err-journal.field-0.0 c.from_residual-in_err-journal.ensures)
    (replay-without c.args.machine.now c.args.image.now c.in_ok-loaded.loaded.items c.args.journal.now
    (g.S.Store.told c.args.self.now.store) (g.S.Store.told c.load_image.new.store) (g.S.Store.told c.load_journal.new.store) (g.O.Sink.told c.args.self.now.out)
    (refused_by c.in_err-journal.field-0.0) c.in_ok-loaded.ensures.loads c.in_err-journal.ensures)

pub returns-in_err-line-clause-does : goal.returns-in_err-line-clause-does
returns-in_err-line-clause-does g c =
    rw (passed-on {X = Unit {0}} {Y = Option Run} (λ x. None) c.from_residual-in_err-line.result c.in_err-line.field-0.0 c.from_residual-in_err-line.ensures)
    (replay-illegal c.args.machine.now c.args.image.now c.in_ok-loaded.loaded.items c.args.journal.now c.in_ok-journal.journal
    (g.S.Store.told c.args.self.now.store) (g.S.Store.told c.load_image.new.store) (g.S.Store.told c.load_journal.new.store) (g.O.Sink.told c.args.self.now.out)
    (refused_by c.in_err-line.field-0.0) c.in_ok-loaded.ensures.loads c.in_ok-journal.ensures (rw c.deref.ensures.value at c.in_err-line.ensures.judged))

pub returns-clause-does : goal.returns-clause-does
returns-clause-does g c =
    replay-legal c.args.machine.now c.args.image.now c.in_ok-loaded.loaded.items c.args.journal.now (string_bytes c.in_ok-line.line) c.in_ok-journal.journal
    (g.S.Store.told c.args.self.now.store) (g.S.Store.told c.load_image.new.store) (g.S.Store.told c.load_journal.new.store) (g.O.Sink.told c.args.self.now.out) (g.O.Sink.told c.put.new.out)
    (result_map_both {T = Unit {0}} {U = Option Run} (λ x. None) refused_by c.put.result) c.in_ok-loaded.ensures.loads c.in_ok-journal.ensures
    (rw c.deref.ensures.value at c.in_ok-line.ensures.judged) (rw c.as_bytes.ensures.value at c.put.ensures)
