use Rattle.std.proofs.Common.{◌≡◌, length}
use Rattle.std.specs.List.{sum_by}
use Rattle.row_book.specs.{Book.{repository_of}, Numbers.{numbers}, Repository.{clauses_of}}
use Rattle.coinst_run.proofs.sample.clause_count.Given as goal

abbrev pub invariant-loop-class : goal.invariant-loop-class
invariant-loop-class l = l.count ≡ sum_by (λ n. length (clauses_of (repository_of l.pool l.book) n)) (numbers l.class 0)
