use Rattle.std.proofs.Common.{refl}
use Rattle.tv_journal.specs.Entries.{payload_bytes}
use Rattle.tv_journal.proofs.reader.Reader.new.Goals as goal

pub returns-clause-counted : goal.returns-clause-counted
unfolding payload_bytes
returns-clause-counted c = record {
  counted = rw c.new-2.ensures.records refl;
  carried = rw (c.new-2.ensures.records, c.new-2.ensures.payload) refl;
  lies = rw c.new-2.ensures.records tt;
}
