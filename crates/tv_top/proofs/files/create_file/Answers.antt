use Rattle.std.proofs.Common.{Ok, Err, Option}
use Rattle.std.specs.Option.{option_map}
use Rattle.tv_out.specs.Told.{ToldSink}
use Rattle.tv_top.specs.declared.refusal.Refusal.TheVariants as refusal
use Rattle.tv_top.proofs.Chains.{passed-on}
use Rattle.tv_top.proofs.Loads.{creation-by}
use Rattle.tv_top.proofs.files.create_file.Goals as goal

pub returns : goal.returns
returns g c =
    rw c.in-Some.is
    (creation-by c.in-Some.name.now (g.S.Store.told c.args.store.now) (g.S.Store.told c.create.new.self) (Ok (g.S.Sink.Sink.told c.in_ok-create.field-0))
    c.in_ok-create.ensures.opened)

pub returns-in_err-create : goal.returns-in_err-create
returns-in_err-create g c =
    rw (c.in-Some.is, passed-on {Y = Option ToldSink} (option_map g.S.Sink.Sink.told) c.from_residual.result refusal.Unwritable c.from_residual.ensures)
    (creation-by c.in-Some.name.now (g.S.Store.told c.args.store.now) (g.S.Store.told c.create.new.self) (Err c.in_err-create.field-0.0)
    c.in_err-create.ensures.opened)
