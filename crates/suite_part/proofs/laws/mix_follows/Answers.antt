use Rattle.suite_part.proofs.Followed.{mix_follows_lem}
use Rattle.suite_part.proofs.laws.mix_follows.Goals as goal

pub returns : goal.returns
returns c = mix_follows_lem
