use Rattle.std.proofs.Common.{◌∙◌, sym}
use Rattle.std.proofs.lemmas.Option.{same_Some}
use Rattle.tv_wire.proofs.Whole.{reads_back}
use Rattle.tv_wire.proofs.laws.one_reading.Goals as goal

pub returns : goal.returns
returns c bytes m n one other = same_Some m n (sym (reads_back bytes m one) ∙ reads_back bytes n other)
