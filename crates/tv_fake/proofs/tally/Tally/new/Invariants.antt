use Rattle.tv_fake.proofs.Zero.{AreZero}
use Rattle.tv_fake.proofs.tally.Tally.new.Given as goal

abbrev pub invariant-loop-name : goal.invariant-loop-name
invariant-loop-name l = AreZero l.counts.items l.yielded
