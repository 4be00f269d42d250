use Rattle.std.proofs.Common.{drop}
use Rattle.row_book.specs.Thinning.{thin_over}
use Rattle.conflict_reduce.specs.Tests.{book_left, pairs_with}
use Rattle.conflict_reduce.proofs.Passed.{Passing}
use Rattle.conflict_reduce.proofs.live.LiveBook.thin_package.Given as goal

abbrev pub invariant-loop-other : goal.invariant-loop-other
invariant-loop-other l =
    Passing l.self.pool.now l.self.book.now (thin_over (book_left l.self.pool.now l.self.book.now l.fn.gone.items) (pairs_with l.number l.list)) l.number l.gone.items (drop l.other-index l.list)
