use Rattle.std.proofs.Common.{length}
use Rattle.row_book.specs.{Book.{repository_of}, Repository.{clauses_of}}
use Rattle.coinst_run.proofs.Sizes.{sum_more, sum_none}
use Rattle.coinst_run.proofs.sample.clause_count.Goals as goal

pub loop-class-init : goal.loop-class-init
loop-class-init c = sum_none (λ n. length (clauses_of (repository_of c.args.pool.now c.args.book.now) n))

pub loop-class-preserved : goal.loop-class-preserved
loop-class-preserved c =
    sum_more (λ n. length (clauses_of (repository_of c.args.pool.now c.args.book.now) n)) c.loop-class.class c.loop-class.count c.row_length.result c.in_ok-count.count
    c.loop-class.invariant c.row_length.ensures c.in_ok-count.ensures.1
