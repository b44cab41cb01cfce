use Rattle.std.proofs.Common.{Option, refl}
use Rattle.tv_top.proofs.Chains.{passed-on}
use Rattle.tv_top.specs.declared.run.Run.{Run}
use Rattle.tv_top.proofs.PlainOutside.carry_out.Goals as goal

pub returns-in_err-put-in-Check-clause-does : goal.returns-in_err-put-in-Check-clause-does
returns-in_err-put-in-Check-clause-does g c =
    rw (c.in-Check.is, passed-on {X = Option Run} {Y = Option Run} (λ run. run) c.from_residual-in_err-put-in-Check.result c.in_err-put-in-Check.field-0.0 c.from_residual-in_err-put-in-Check.ensures)
    (record { on_out = c.in_err-put-in-Check.ensures; store_stays = refl })

pub returns-in_ok-put-in-Check-clause-does : goal.returns-in_ok-put-in-Check-clause-does
returns-in_ok-put-in-Check-clause-does g c = rw c.in-Check.is (record { on_out = c.in_ok-put-in-Check.ensures; store_stays = refl })
