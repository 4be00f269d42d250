use Rattle.std.proofs.Common.{◌∙◌, ap}
use Rattle.row_book.specs.Thinning.{thin}
use Rattle.kernel_rounds.proofs.rounding.prune_and_thin.Goals as goal

pub returns-clause-book : goal.returns-clause-book
returns-clause-book c = c.in_ok-thinned.ensures.thinned ∙ ap thin c.in_ok-pruned.ensures.pruned
