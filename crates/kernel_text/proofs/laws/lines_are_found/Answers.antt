use Rattle.kernel_text.proofs.Candidates.{lines_are_found}
use Rattle.kernel_text.proofs.laws.lines_are_found.Goals as goal

pub returns : goal.returns
returns c = lines_are_found
