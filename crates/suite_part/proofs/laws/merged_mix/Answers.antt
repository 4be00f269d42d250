use Rattle.suite_part.proofs.Mixes.{merged_mix_lem}
use Rattle.suite_part.proofs.laws.merged_mix.Goals as goal

pub returns : goal.returns
returns c = merged_mix_lem
