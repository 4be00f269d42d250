use Rattle.std.proofs.{Common.{◌∙◌, ap, sym}, lemmas.Bool.{OnTrue_at, OnTrue_from, not-true}}
use Rattle.clause_pool.specs.{Interned.{clause_at, clauses_at}, Clauses.{apart_from}}
use Rattle.listed.specs.Lists.{has}
use Rattle.clause_families.specs.Families.{IncludesOneOf}
use Rattle.clause_families.proofs.Families.{row_has_it}
use Rattle.clause_families.proofs.useful.stands_at.Goals as goal

pub returns-then-is_at : goal.returns-then-is_at
returns-then-is_at c =
    OnTrue_from _ (IncludesOneOf (apart_from c.args.spent (clauses_at c.args.pool.now c.args.row.now)) (clause_at c.args.pool.now c.args.id))
    (λ h. row_has_it c.args.pool.now c.args.spent c.args.row.now c.args.id (OnTrue_at c.if-is_at.true c.is_at.ensures)
    (ap (λ z. has z c.args.spent) (sym c.slice.ensures.lent) ∙ sym c.holds_ascending.ensures ∙ not-true c.holds_ascending.result h))
