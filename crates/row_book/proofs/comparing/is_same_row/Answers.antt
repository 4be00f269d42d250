use Rattle.std.proofs.Common.{◌∙◌, ap, arith, map, sym}
use Rattle.listed.proofs.Lists.{item_in}
use Rattle.clause_pool.specs.Interned.{clause_at}
use Rattle.row_book.proofs.Compared.{same_mapped}
use Rattle.row_book.proofs.comparing.is_same_row.Goals as goal

pub slice-requires : goal.slice-requires
slice-requires c =
    c.row-ids.ensures.of_pool c.index-ids-place.result
    (item_in c.row-ids.result.now c.loop-place.place c.index-ids-place.result (omega arith) c.index-ids-place.is)

pub slice-requires-in-loop-place : goal.slice-requires-in-loop-place
slice-requires-in-loop-place c =
    c.row-others.ensures.of_pool c.index-others-place.result
    (item_in c.row-others.result.now c.loop-place.place c.index-others-place.result (omega arith) c.index-others-place.is)

pub returns : goal.returns
returns c =
    let one = clause_at c.args.pool.now in
    let other = clause_at c.args.other_pool.now in
    ap (map one) (sym c.row-ids.ensures.lent)
    ∙ same_mapped one other c.row-ids.result.now c.row-others.result.now c.if-ids-others.false (λ k l. c.loop-place.invariant k (omega arith))
    ∙ ap (map other) c.row-others.ensures.lent
