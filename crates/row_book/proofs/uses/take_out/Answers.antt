use Rattle.std.proofs.Common.{sym, subst}
use Rattle.listed.specs.Lists.{has}
use Rattle.row_book.specs.{Sets.{without}, Uses.{IsListOf}}
use Rattle.row_book.proofs.Inserts.{missed_is_gone, removed_where_found}
use Rattle.row_book.proofs.uses.take_out.Goals as goal

pub returns-in-Ok : goal.returns-in-Ok
returns-in-Ok c = λ a.
    subst (λ ys. IsListOf (without (has c.args.list.now.items) c.args.number) ys) (sym c.remove.ensures.items)
    (removed_where_found c.args.list.now.items c.args.number c.in-Ok.place a ((rw c.as_slice.ensures.value at c.in-Ok.ensures.place) a))

pub returns-in_default : goal.returns-in_default
returns-in_default c = λ a.
    missed_is_gone c.args.list.now.items c.args.number c.in_default.field-0 a ((rw c.as_slice.ensures.value at c.in_default.ensures.place) a)
