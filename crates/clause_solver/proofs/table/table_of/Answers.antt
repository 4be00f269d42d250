use Rattle.std.proofs.{Common.{◌≡◌, []}, lemmas.List.Elements.{All-from_get_or}}
use Rattle.clause_solver.proofs.table.table_of.Goals as goal

pub enter_all-requires-clause-empty : goal.enter_all-requires-clause-empty
enter_all-requires-clause-empty c = rw c.deref_mut.ensures.value (All-from_get_or (λ row. row ≡ []) c.in_ok-uses.uses.items [] (λ i l. c.in_ok-uses.ensures.empty i))
