use Rattle.std.proofs.Common.{◌≡◌, filter, length, ltb}
use Rattle.std.specs.List.{sum_by}
use Rattle.row_book.specs.{Book.{listed_for}, Numbers.{numbers}}
use Rattle.coinst_run.proofs.sample.conflict_count.Given as goal

abbrev pub invariant-loop-class : goal.invariant-loop-class
invariant-loop-class l = l.count ≡ sum_by (λ n. length (filter (λ m. ltb n m) (listed_for l.book.conflicts n))) (numbers l.class 0)
