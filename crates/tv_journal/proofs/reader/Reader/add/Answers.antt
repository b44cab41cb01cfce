use Rattle.std.proofs.Common.{[], length, arith}
use Rattle.tv_journal.specs.Stores.{held, record_in}
use Rattle.tv_journal.proofs.Records.{entries_at_most}
use Rattle.tv_journal.proofs.Stored.{bare-carries, bare-held, bare-lies, tally-more}
use Rattle.tv_journal.proofs.reader.Reader.add.Goals as goal

pub overflow_add-self : goal.overflow_add-self
overflow_add-self c =
    let most = entries_at_most (held c.args.self.now.store) c.requires.lines.each in
    omega (arith, c.requires.counted.counted, c.requires.lines.few)

pub returns-clause-counted : goal.returns-clause-counted
returns-clause-counted c =
    let old = c.args.self.now.store in
    rw c.move_to.ensures
    (tally-more old c.keep.new.self c.args.self.now.events c.args.events (record_in [] c.args.more) c.requires.counted
    (rw (c.in-Ok.ensures.kept, c.keep.ensures.payload) (bare-held old.payload.items old.records.items c.args.more c.requires.none))
    (rw (c.in-Ok.ensures.kept, c.keep.ensures.payload) (bare-lies (length old.payload.items) old.records.items c.args.more c.requires.none c.requires.counted.lies))
    (rw (c.keep.ensures.payload, bare-carries c.args.more c.requires.none) (omega arith)) c.requires.events)
