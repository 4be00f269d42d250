use Rattle.explain_core.proofs.Reached.{reach_is_least}
use Rattle.explain_core.proofs.laws.reach_is_least.Goals as goal

pub returns : goal.returns
returns c = reach_is_least
