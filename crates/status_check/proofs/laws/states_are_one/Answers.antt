use Rattle.status_check.proofs.States.{states_are_one}
use Rattle.status_check.proofs.laws.states_are_one.Goals as goal

pub returns : goal.returns
returns c = states_are_one
