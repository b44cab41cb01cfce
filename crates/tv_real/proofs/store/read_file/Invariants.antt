use Rattle.std.proofs.Common.{◌≤◌, length}
use Rattle.tv_real.proofs.store.read_file.Given as goal

abbrev pub invariant-loop : goal.invariant-loop
invariant-loop g l = length l.bytes.items ≤ l.most
