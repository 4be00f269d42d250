use Rattle.std.proofs.{Common.{◌≡◌, ap, not, ◌||◌, sym, ◌∙◌, subst}, lemmas.Result.{IfOk-weaker}}
use Rattle.std.specs.List.{list_all}
use Rattle.clause_pool.specs.{Interned.{clauses_at, row_at, IsIdOf, OfPool}, Clauses.{minimal_of}, Lists.{InOrder}}
use Rattle.clause_pool.proofs.{Interned.{kept_along}, Order.{order_filter}}
use Rattle.listed.specs.Lists.{is_inside}
use Rattle.clause_families.proofs.Families.{row_interned}
use Rattle.clause_families.proofs.family.intern_minimal.Goals as goal

pub intern_row-requires-clause-in_order : goal.intern_row-requires-clause-in_order
intern_row-requires-clause-in_order c =
    subst (λ z. InOrder z) (sym (ap (clauses_at c.minimal_ids.new.pool) c.as_slice.ensures.value ∙ c.in_ok-ids.ensures.ok))
    (order_filter (λ T. list_all (λ S. not (is_inside S T) || is_inside T S) c.args.family.now) c.args.family.now c.requires.in_order)

pub returns-clause-ok : goal.returns-clause-ok
returns-clause-ok c =
    IfOk-weaker c.intern_row.result (IsIdOf c.intern_row.new.self.rows c.as_slice.result.now)
    (λ id. row_at c.intern_row.new.self id ≡ minimal_of c.args.family.now)
    (λ id at.
    row_interned c.minimal_ids.new.pool c.intern_row.new.self c.as_slice.result.now id c.intern_row.ensures.kept
    (subst (λ z. OfPool c.minimal_ids.new.pool z) (sym c.as_slice.ensures.value) c.in_ok-ids.ensures.of_pool) at
    ∙ ap (clauses_at c.minimal_ids.new.pool) c.as_slice.ensures.value ∙ c.in_ok-ids.ensures.ok)
    c.intern_row.ensures.ok

pub returns-clause-kept : goal.returns-clause-kept
returns-clause-kept c = kept_along c.args.pool.now c.minimal_ids.new.pool c.intern_row.new.self c.in_ok-ids.ensures.kept c.intern_row.ensures.kept
