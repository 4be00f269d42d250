use Rattle.std.proofs.Common.{◌∙◌, ap, sym}
use Rattle.clause_pool.specs.Interned.{clauses_at, ids_at}
use Rattle.listed.proofs.Lists.{In_at}
use Rattle.row_book.proofs.Books.{clauses_row}
use Rattle.suite_compare.proofs.Chosen.{row_numbers}
use Rattle.suite_compare.proofs.choose.row_of.Goals as goal

pub row-requires : goal.row-requires
row-requires c = rw c.row-id.ensures (c.args.kernel.now.sound.rows.of_pool _ (In_at c.args.kernel.now.book.now.rows c.args.class 0 c.requires))

pub returns-clause-clauses : goal.returns-clause-clauses
returns-clause-clauses c = ap (clauses_at c.args.kernel.now.pool.now) (c.row.ensures.lent ∙ ap (ids_at c.args.kernel.now.pool.now) c.row-id.ensures) ∙ sym (clauses_row c.args.kernel.now.pool.now c.args.kernel.now.book.now c.args.class c.requires)

pub returns-clause-numbers : goal.returns-clause-numbers
returns-clause-numbers c = row_numbers c.args.kernel.now.pool.now c.args.kernel.now.book.now c.args.class c.row.result.now c.args.kernel.now.sound c.requires (c.row.ensures.lent ∙ ap (ids_at c.args.kernel.now.pool.now) c.row-id.ensures)
