use Rattle.suite_part.proofs.Smalls.{small_tells_lem}
use Rattle.suite_part.proofs.laws.small_tells.Goals as goal

pub returns : goal.returns
returns c = small_tells_lem
