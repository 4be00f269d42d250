use Rattle.sample_suite.proofs.Fitting.{sample_accepted}
use Rattle.sample_suite.proofs.laws.samples_are_accepted.Goals as goal

pub returns : goal.returns
returns c = sample_accepted
