use Rattle.tv_top.proofs.Lines.{short-line}
use Rattle.tv_top.proofs.Statuses.{status-small}
use Rattle.tv_top.proofs.replay.judge.Goals as goal

pub returns-in-Legal-clause-short : goal.returns-in-Legal-clause-short
returns-in-Legal-clause-short c =
    rw c.in_ok-line-in-Legal.ensures
    (short-line c.records.result c.events.result c.in-Legal.status c.records.type_inv c.events.type_inv
    (status-small _ c.in-Legal.status (rw c.in-Legal.is at c.in_ok-status.ensures).status_is))
