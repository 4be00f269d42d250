use Rattle.std.proofs.{Common.{rules}, lemmas.Fn.{filter_same}}
use Rattle.row_book.proofs.clause_table.users_still.Goals as goal

pub returns : goal.returns
returns c = λ placed. filter_same _ _ _ (λ x b f' k. search rules) _ _ c.retain.ensures.filtered
