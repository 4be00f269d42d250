use Rattle.repo_model.proofs.Healthy.{healthy_same}
use Rattle.repo_model.proofs.laws.health_is_kept.Goals as goal

pub returns : goal.returns
returns c = λ home stanzas I. healthy_same home stanzas I
