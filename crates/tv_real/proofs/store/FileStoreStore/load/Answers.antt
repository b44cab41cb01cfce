use Rattle.std.proofs.Common.{◌+◌, ℕ, arith}
use Rattle.std.proofs.Math.ListN.{replicate}
use Rattle.std.proofs.lemmas.List.{length-replicate}
use Rattle.tv_real.proofs.store.FileStoreStore.load.Goals as goal

-- where nothing is told of a file, any bytes may be its own
pub returns-in-Err-TooLong-clause-too_long : goal.returns-in-Err-TooLong-clause-too_long
returns-in-Err-TooLong-clause-too_long g c same = record {
  bytes = replicate (c.args.most + 1) 0;
  held = tt;
  longer = rw (length-replicate {A = ℕ} (c.args.most + 1) 0) (omega arith);
}
