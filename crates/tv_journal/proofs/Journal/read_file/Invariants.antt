use Rattle.std.proofs.Common.{take}
use Rattle.tv_journal.specs.Reading.{HasRead, IsCounted, read_of}
use Rattle.tv_journal.proofs.Journal.read_file.Given as goal

-- the bytes so far were read, and the entries counted
abbrev pub invariant-loop-at : goal.invariant-loop-at
invariant-loop-at l = record { has : HasRead (read_of l.reader) (take l.at l.bytes); counted : IsCounted l.reader }
