use Rattle.explain_core.proofs.OnStanzas.{explanations_hold}
use Rattle.explain_core.proofs.laws.explanations_hold.Goals as goal

pub returns : goal.returns
returns c = explanations_hold
