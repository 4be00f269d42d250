use Rattle.std.proofs.Common.{◌≡◌, ◌∙◌, ap, arith, filter, length, map, not}
use Rattle.row_book.proofs.Numbers.{lists_more}
use Rattle.row_book.specs.{Numbers.{numbers}, Facing.{against_in}}
use Rattle.conflict_reduce.specs.Tests.{left_for, left_of}
use Rattle.conflict_reduce.proofs.Left.{left_size}
use Rattle.conflict_reduce.proofs.thinning.left_lists.Goals as goal

pub loop-number-init : goal.loop-number-init
unfolding numbers
loop-number-init c = c.new-made.ensures.items

pub loop-number-preserved : goal.loop-number-preserved
loop-number-preserved c =
    lists_more (left_for c.args.table.now c.args.gone.now) c.loop-number.number c.loop-number.made.items c.push.new.self.items c.in_ok-list.list c.loop-number.invariant
    (c.in_ok-list.ensures ∙ ap (filter (λ q. not (against_in c.args.gone.now c.loop-number.number q))) c.conflicts_of.ensures)
    c.in_ok-push.ensures.items

pub returns-clause-left : goal.returns-clause-left
unfolding left_of
returns-clause-left c =
    c.loop-number.invariant
    ∙ ap (λ n. map (left_for c.args.table.now c.args.gone.now) (numbers n 0))
    (let e : c.loop-number.number ≡ length c.args.table.now = (let s : length c.args.table.now ≡ c.args.size = c.requires.size in omega (arith, s)) in e)

pub returns-clause-count : goal.returns-clause-count
returns-clause-count c = ap length (returns-clause-left c) ∙ left_size c.args.table.now c.args.gone.now ∙ c.requires.size
