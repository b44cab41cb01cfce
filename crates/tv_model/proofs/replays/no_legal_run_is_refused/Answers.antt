use Rattle.tv_model.proofs.Stepping.{first-illegal}
use Rattle.tv_model.proofs.replays.no_legal_run_is_refused.Goals as goal

pub returns : goal.returns
returns c = first-illegal
