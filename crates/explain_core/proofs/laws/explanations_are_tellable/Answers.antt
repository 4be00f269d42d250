use Rattle.explain_core.proofs.Tellable.{explanation_tellable}
use Rattle.explain_core.proofs.laws.explanations_are_tellable.Goals as goal

pub returns : goal.returns
returns c = explanation_tellable
