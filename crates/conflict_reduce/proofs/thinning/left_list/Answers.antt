use Rattle.std.proofs.Common.{◌∙◌, ap, eqb, length, sym}
use Rattle.listed.proofs.Lists.{none_listed}
use Rattle.row_book.specs.Book.{listed_for}
use Rattle.conflict_reduce.proofs.Left.{none_go}
use Rattle.conflict_reduce.proofs.thinning.left_list.Goals as goal

pub returns-then-is_empty : goal.returns-then-is_empty
returns-then-is_empty c =
    c.of.ensures ∙ c.in_ok-from_slice.ensures.items
    ∙ sym (none_go c.args.gone.now c.args.number c.args.list.now
    (none_listed (listed_for c.args.gone.now c.args.number) (ap (λ xs. eqb (length xs) 0) (sym c.conflicts_of.ensures) ∙ sym c.is_empty.ensures ∙ c.if-is_empty.true)))
