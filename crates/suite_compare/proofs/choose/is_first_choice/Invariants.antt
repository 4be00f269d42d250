use Rattle.std.proofs.Common.{ℕ, take}
use Rattle.listed.specs.Lists.{In}
use Rattle.row_book.specs.Book.{repository_of}
use Rattle.suite_compare.specs.Choices.{IsServed}
use Rattle.suite_compare.proofs.choose.is_first_choice.Given as goal

abbrev pub invariant-loop-class : goal.invariant-loop-class
invariant-loop-class l = (p : ℕ) → In p (take l.class-index l.class-items) → IsServed (repository_of l.kernel.pool.now l.kernel.book.now) l.chosen.1 p
