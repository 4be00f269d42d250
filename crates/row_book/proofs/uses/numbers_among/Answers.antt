use Rattle.std.proofs.{Common.{◌∙◌, ◌&&◌, ap, sym, eqb}, lemmas.List.{take_all}, lemmas.List.Sorted.{IsNonDecreasingBy-from_sort, list_any-IsPermutation}}
use Rattle.clause_pool.specs.Interned.{clauses_at}
use Rattle.listed.specs.Lists.{has}
use Rattle.row_book.specs.Uses.{some_holds}
use Rattle.listed.proofs.Lists.{item_in}
use Rattle.row_book.proofs.Tables.{wanted_more}
use Rattle.row_book.proofs.uses.numbers_among.Goals as goal

pub slice-requires : goal.slice-requires
slice-requires c = c.requires.of_pool c.id-item.result (item_in c.args.ids.now c.loop-id.id-index c.id-item.result c.loop-id-test.true c.id-item.is)

pub loop-id-preserved : goal.loop-id-preserved
loop-id-preserved c = λ n.
    wanted_more c.args.pool.now c.args.ids.now c.loop-id.id-index c.id-item.result c.loop-id.found.items c.slice.result.now c.args.wanted.now c.add_wanted.new.found.items
    c.loop-id-test.true c.id-item.is c.slice.ensures.lent n (c.loop-id.invariant n) (c.in_ok-add_wanted.ensures n)

pub returns-clause-members : goal.returns-clause-members
returns-clause-members c = λ n.
    sym (list_any-IsPermutation (λ m. eqb n m) c.loop-id.found.items c.sort_unstable.new.self.items c.sort_unstable.ensures.permutation)
    ∙ c.loop-id.invariant n
    ∙ ap (λ ids. some_holds (clauses_at c.args.pool.now ids) n && has c.args.wanted.now n) (take_all c.loop-id.id-index c.args.ids.now c.loop-id-test.false)

pub returns-clause-sorted : goal.returns-clause-sorted
returns-clause-sorted c = IsNonDecreasingBy-from_sort (λ x. x) c.sort_unstable.new.self.items c.sort_unstable.ensures.sorted
