use Rattle.std.proofs.Common.{None, Option}
use Rattle.tv_top.proofs.Chains.{passed-on}
use Rattle.tv_top.proofs.Lines.{front-cut}
use Rattle.tv_top.specs.declared.run.Run.{Run}
use Rattle.tv_top.specs.declared.refusal.Refusal.TheVariants as refusal
use Rattle.tv_top.proofs.commands.put.Goals as goal

pub returns-in_err-put : goal.returns-in_err-put
returns-in_err-put g c =
    rw (passed-on {X = Unit {0}} {Y = Option Run} (λ x. None) c.from_residual.result refusal.Unwritable c.from_residual.ensures)
    (record {
      cut = rw c.in_err-put.ensures.told (front-cut c.in_err-put.field-0.0.taken c.args.text.now (g.O.Sink.told c.args.out.now).bytes);
      rose = c.in_err-put.ensures.cause.failed;
    })
