use Rattle.std.proofs.Common.{◌-◌, length, arith}
use Rattle.tv_journal.specs.declared.record.Stored.TheVariants as stored
use Rattle.tv_journal.proofs.Stored.{events-joined, bare-lies}
use Rattle.tv_journal.proofs.record.Store.add_events.Goals as goal

pub returns-then-number-get-clause-added : goal.returns-then-number-get-clause-added
returns-then-number-get-clause-added c =
    events-joined c.args.self.now.payload.items c.args.self.now.records.items c.args.hart _ _ c.args.more (c.len-at.result - 1)
    c.in-Some.ensures (omega (arith, c.get-number.ensures, c.get.ensures)) (omega (arith, c.len-at.ensures))

pub returns-else-number-get-clause-lies : goal.returns-else-number-get-clause-lies
returns-else-number-get-clause-lies c =
    rw (c.keep_within.ensures.kept, c.keep_within.ensures.payload)
    (bare-lies (length c.args.self.now.payload.items) c.args.self.now.records.items (stored.Run c.args.hart c.args.more) tt c.requires.lies)

pub returns-in-None-clause-lies : goal.returns-in-None-clause-lies
returns-in-None-clause-lies c =
    rw (c.keep_within-in-None.ensures.kept, c.keep_within-in-None.ensures.payload)
    (bare-lies (length c.args.self.now.payload.items) c.args.self.now.records.items (stored.Run c.args.hart c.args.more) tt c.requires.lies)
