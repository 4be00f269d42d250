use Rattle.suite_compare.proofs.NamesOfBoth.{names_are_theirs}
use Rattle.suite_compare.proofs.listing_laws.names_are_theirs.Goals as goal

pub returns : goal.returns
returns c = names_are_theirs
