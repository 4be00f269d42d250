use Rattle.std.proofs.Common.{arith, drop}
use Rattle.row_book.specs.Thinning.{thin_over}
use Rattle.conflict_reduce.specs.Tests.{book_left, pairs_with}
use Rattle.conflict_reduce.proofs.Passed.{next_inside, pass_end, pass_next, pass_start, passed_more}
use Rattle.conflict_reduce.proofs.live.LiveBook.thin_package.Goals as goal

pub loop-other-init : goal.loop-other-init
loop-other-init c = pass_start c.args.self.now.pool.now c.args.self.now.book.now c.args.number c.args.gone.now.items c.args.list.now c.requires.live.sound.rows.is_pool c.requires.live.sound c.requires.list c.requires.passed

pub thin_pair-requires-clause-count : goal.thin_pair-requires-clause-count
thin_pair-requires-clause-count c = c.loop-other.invariant.count

pub thin_pair-requires-clause-gone : goal.thin_pair-requires-clause-gone
thin_pair-requires-clause-gone c = c.loop-other.invariant.ascending

pub thin_pair-requires-clause-b : goal.thin_pair-requires-clause-b
thin_pair-requires-clause-b c =
    next_inside c.args.self.now.pool.now c.args.self.now.book.now (thin_over (book_left c.args.self.now.pool.now c.args.self.now.book.now c.args.gone.now.items) (pairs_with c.args.number c.args.list.now)) c.args.number
    c.loop-other.gone.items c.args.list.now c.loop-other.other-index _ (omega arith) c.loop-other.invariant

pub loop-other-preserved : goal.loop-other-preserved
loop-other-preserved c =
    pass_next c.args.self.now.pool.now c.args.self.now.book.now (thin_over (book_left c.args.self.now.pool.now c.args.self.now.book.now c.args.gone.now.items) (pairs_with c.args.number c.args.list.now)) c.args.number
    c.loop-other.gone.items c.thin_pair.new.gone.items c.args.list.now c.loop-other.other-index _ (omega arith) c.loop-other.invariant c.in_ok-thin_pair.ensures

pub returns-clause-left : goal.returns-clause-left
returns-clause-left c =
    pass_end c.args.self.now.pool.now c.args.self.now.book.now (thin_over (book_left c.args.self.now.pool.now c.args.self.now.book.now c.args.gone.now.items) (pairs_with c.args.number c.args.list.now)) c.args.number
    c.loop-other.gone.items c.args.list.now c.loop-other.other-index (omega arith) c.loop-other.invariant

pub returns-clause-passed : goal.returns-clause-passed
returns-clause-passed c =
    passed_more c.args.self.now.pool.now c.args.self.now.book.now (thin_over (book_left c.args.self.now.pool.now c.args.self.now.book.now c.args.gone.now.items) (pairs_with c.args.number c.args.list.now)) c.args.number
    c.loop-other.gone.items (drop c.loop-other.other-index c.args.list.now) c.loop-other.invariant
