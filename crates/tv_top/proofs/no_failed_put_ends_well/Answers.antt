use Rattle.tv_top.proofs.Outputs.{zero-sound}
use Rattle.tv_top.proofs.no_failed_put_ends_well.Goals as goal

pub returns : goal.returns
returns c = zero-sound
