use Rattle.row_book.proofs.Pairs.{fit_permuted, lists_all}
use Rattle.row_book.proofs.pairing.conflict_lists.Goals as goal

pub enter_pairs-requires-clause-fit : goal.enter_pairs-requires-clause-fit
enter_pairs-requires-clause-fit c =
    rw (c.as_slice.ensures.value, c.in_ok-table.ensures.size) (fit_permuted _ _ _ c.in_ok-ordered.ensures.same c.requires)

pub returns : goal.returns
returns c =
    lists_all c.enter_pairs.new.table.items c.args.size c.args.pairs.now c.in_ok-ordered.ordered.items c.in_ok-ordered.ensures.same c.requires
    (rw (c.as_slice.ensures.value, c.in_ok-table.ensures.size) at c.in_ok-enter_pairs.ensures)
