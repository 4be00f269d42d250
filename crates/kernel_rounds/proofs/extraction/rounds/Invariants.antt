use Rattle.row_book.specs.{Book.{repository_of}, Rounds.{round_count}}
use Rattle.kernel_rounds.specs.Extracting.{IsMidway}
use Rattle.kernel_rounds.proofs.extraction.rounds.Given as goal

abbrev pub invariant-loop-made : goal.invariant-loop-made
invariant-loop-made l = IsMidway (repository_of l.fn.into l.fn.book) l.limit l.hold l.fn.into l.into l.work l.now

abbrev pub decreases-loop-made : goal.decreases-loop-made
decreases-loop-made l = round_count l.limit l.hold (repository_of l.work l.now.book)
