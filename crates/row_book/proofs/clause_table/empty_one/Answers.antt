use Rattle.std.proofs.Common.{◌∙◌}
use Rattle.row_book.proofs.Tables.{list_set_other, list_set_same}
use Rattle.row_book.proofs.clause_table.empty_one.Goals as goal

pub returns-then-number-lists-clause-empty : goal.returns-then-number-lists-clause-empty
returns-then-number-lists-clause-empty c = list_set_same c.args.lists.now c.args.number c.new.result c.if-number-lists.true ∙ c.new.ensures.items

pub returns-then-number-lists-clause-others : goal.returns-then-number-lists-clause-others
returns-then-number-lists-clause-others c = list_set_other c.args.lists.now c.args.number c.new.result
