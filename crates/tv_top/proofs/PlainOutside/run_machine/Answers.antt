use Rattle.std.proofs.Common.{Some}
use Rattle.std.specs.Option.{option_map}
use Rattle.std.specs.Result.{result_map_both}
use Rattle.tv_top.proofs.Chains.{passed-on, solo-uncreated, solo-ran}
use Rattle.tv_top.specs.Refusals.{refused_by}
use Rattle.tv_top.proofs.PlainOutside.run_machine.Goals as goal

pub returns-in_err-file-clause-does : goal.returns-in_err-file-clause-does
returns-in_err-file-clause-does g c =
    rw (passed-on Some c.from_residual-in_err-file.result c.in_err-file.field-0.0 c.from_residual-in_err-file.ensures)
    (solo-uncreated c.args.machine.now c.args.image.now c.in_ok-image.image.items (option_map (λ file. file.now) c.args.journal)
    (g.S.Store.told c.args.self.now.store) (g.S.Store.told c.load_image.new.store) (g.S.Store.told c.create_file.new.store) (g.O.Sink.told c.args.self.now.out)
    (refused_by c.in_err-file.field-0.0) c.in_ok-image.ensures.loads c.in_err-file.ensures)

pub returns-clause-does : goal.returns-clause-does
returns-clause-does g c =
    solo-ran c.args.machine.now c.args.image.now c.in_ok-image.image.items (option_map (λ file. file.now) c.args.journal) (option_map g.S.Sink.Sink.told c.in_ok-file.file)
    (g.S.Store.told c.args.self.now.store) (g.S.Store.told c.load_image.new.store) (g.S.Store.told c.create_file.new.store) (g.O.Sink.told c.args.self.now.out) (g.O.Sink.told c.run_saved.new.out)
    (result_map_both Some refused_by c.run_saved.result) c.in_ok-image.ensures.loads c.in_ok-file.ensures (rw c.deref.ensures.value at c.run_saved.ensures)
