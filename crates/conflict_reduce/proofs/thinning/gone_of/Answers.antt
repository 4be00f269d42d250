use Rattle.std.proofs.Common.{length, ◌∙◌, arith}
use Rattle.conflict_reduce.proofs.Passed.{all_end, all_more, all_start, no_lists}
use Rattle.conflict_reduce.proofs.thinning.gone_of.Goals as goal

pub loop-number-init : goal.loop-number-init
loop-number-init c =
    all_start c.args.pool.now c.args.book.now c.in_ok-gone.gone.items
    (no_lists c.in_ok-gone.gone.items (length c.args.book.now.rows) (c.in_ok-gone.ensures.size ∙ c.size.ensures) c.in_ok-gone.ensures.empty)

pub thin_package-requires-clause-passed : goal.thin_package-requires-clause-passed
thin_package-requires-clause-passed c = c.loop-number.invariant.passed

pub loop-number-preserved : goal.loop-number-preserved
loop-number-preserved c =
    all_more c.args.pool.now c.args.book.now c.loop-number.number c.loop-number.gone.items c.thin_package.new.gone.items c.against-list.result.now c.requires.rows.is_pool c.requires (omega arith) c.against-list.ensures
    c.loop-number.invariant c.in_ok-thin_package.ensures.left c.in_ok-thin_package.ensures.passed

pub returns-clause-thinned : goal.returns-clause-thinned
returns-clause-thinned c = all_end c.args.pool.now c.args.book.now c.loop-number.number c.loop-number.gone.items (omega arith) c.loop-number.invariant

pub returns-clause-ascending : goal.returns-clause-ascending
returns-clause-ascending c = c.loop-number.invariant.passed.ascending
