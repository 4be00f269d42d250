use Rattle.kernel_text.proofs.LineCounts.{lines_are_counted}
use Rattle.kernel_text.proofs.laws.lines_are_counted.Goals as goal

pub returns : goal.returns
returns c = lines_are_counted
