use Rattle.std.proofs.Common.{◌*◌, ◌+◌}
use Rattle.row_book.proofs.subsets.+choices.Given as goal

abbrev pub decreases-extends : goal.decreases-extends
decreases-extends l = 2 * l.left

abbrev pub decreases-extends_by : goal.decreases-extends_by
decreases-extends_by l = 2 * l.left + 1
