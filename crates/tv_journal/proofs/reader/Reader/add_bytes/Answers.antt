use Rattle.std.proofs.Common.{refl, arith, length-append}
use Rattle.tv_items.specs.declared.action.Heard.TheVariants as heard
use Rattle.tv_journal.specs.declared.Entry.TheVariants as entry
use Rattle.tv_journal.specs.Entries.{One}
use Rattle.tv_journal.specs.Stores.{held}
use Rattle.tv_journal.proofs.Kept.{payload-one}
use Rattle.tv_journal.proofs.Records.{entries_at_most}
use Rattle.tv_journal.proofs.Stored.{tally-more}
use Rattle.tv_journal.proofs.reader.Reader.add_bytes.Goals as goal

pub overflow_add-self : goal.overflow_add-self
overflow_add-self c =
    let most = entries_at_most (held c.args.self.now.store) c.requires.lines.each in
    omega (arith, c.requires.counted.counted, c.requires.lines.few)

pub returns-clause-counted : goal.returns-clause-counted
returns-clause-counted c =
    let e = entry.Did c.args.device (heard.Bytes c.args.self.now.field) in
    rw c.move_to.ensures
    (tally-more c.args.self.now.store c.keep_bytes.new.self c.args.self.now.events 1 (One e) c.requires.counted
    (rw (← c.as_slice.ensures) c.in-Ok.ensures.kept) c.in-Ok.ensures.lies
    (rw (payload-one e, ← c.as_slice.ensures, c.in-Ok.ensures.payload) (length-append c.args.self.now.store.payload.items c.as_slice.result.now)) refl)
