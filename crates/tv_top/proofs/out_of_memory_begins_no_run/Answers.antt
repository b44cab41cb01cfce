use Rattle.tv_top.proofs.Outputs.{nine-keeps}
use Rattle.tv_top.proofs.out_of_memory_begins_no_run.Goals as goal

pub returns : goal.returns
returns c = nine-keeps
