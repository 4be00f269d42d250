use Rattle.suite_part.proofs.LawRows.{names_part}
use Rattle.suite_part.proofs.laws.names_are_part.Goals as goal

pub returns : goal.returns
returns c = λ stanzas flags sized. names_part stanzas flags sized
