-- Judged pairs of kinds, and the searches that they decide.
use Rattle.std.specs.Prelude.{◌≡◌}
use Rattle.row_book.specs.Book.{Sound, repository_of}
use Rattle.suite_compare.specs.{Bad.{AreAllBad}, Kinds.{kernel_in}}
use Rattle.suite_compare.specs.declared.known.KnownPairs.{KnownPairs}
use Rattle.suite_compare.specs.declared.judge.Judge.{Judge}

-- the judge is asked of the same kernel and of the same kinds in the same order, within the same
-- budget
pub record IsAskedAlike (known : KnownPairs) (judge : Judge) : Type 0 where
  pub kernel : kernel_in judge ≡ repository_of known.pool known.book
  pub kinds : judge.kinds.items ≡ known.kinds.items
  pub budget : judge.budget ≡ known.budget

-- a kernel, some kinds, and for each of these the kinds that are bad with it: the lists are right
-- for every judge that is asked alike
pub record AreKnownPairs (known : KnownPairs) : Type 0 where
  pub sound : Sound known.pool known.book
  pub bad : (judge : Judge) → IsAskedAlike known judge → AreAllBad judge known.lists.items
