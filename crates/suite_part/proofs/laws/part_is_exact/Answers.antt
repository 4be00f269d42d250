use Rattle.suite_part.proofs.LawRows.{repository_part}
use Rattle.suite_part.proofs.laws.part_is_exact.Goals as goal

pub returns : goal.returns
returns c = λ home stanzas flags sized. repository_part home stanzas flags sized
