use Rattle.std.proofs.{Common.{◌∙◌, ap, subst, sym}, lemmas.Result.{IfOk-weaker}}
use Rattle.clause_pool.specs.{Interned.{clauses_at, OfPool}, Lists.{InOrder}}
use Rattle.clause_pool.proofs.Interned.{kept_along}
use Rattle.clause_families.proofs.Families.{row_interned}
use Rattle.suite_part.proofs.Backs.{back_kept, clauses_in_order}
use Rattle.suite_part.proofs.back.row_back.Goals as goal
use Rattle.listed.proofs.Bools.{on_ok}

pub intern_row-requires-clause-in_order : goal.intern_row-requires-clause-in_order
intern_row-requires-clause-in_order c =
    subst InOrder (sym (ap (clauses_at c.ids_back.new.pool) c.as_slice.ensures.value ∙ c.in_ok-ids.ensures.ids))
    (clauses_in_order c.args.numbers.now (clauses_at c.args.from.now c.args.row.now) c.requires.ascending c.requires.within c.requires.order)

pub returns-clause-row : goal.returns-clause-row
returns-clause-row c =
    IfOk-weaker c.intern_row.result _ _ (λ id at.
    row_interned c.ids_back.new.pool c.intern_row.new.self c.as_slice.result.now id c.intern_row.ensures.kept (subst (OfPool c.ids_back.new.pool) (sym c.as_slice.ensures.value) c.in_ok-ids.ensures.of_pool) at
    ∙ ap (clauses_at c.ids_back.new.pool) c.as_slice.ensures.value ∙ c.in_ok-ids.ensures.ids) c.intern_row.ensures.ok

pub returns-clause-seen : goal.returns-clause-seen
returns-clause-seen c =
    on_ok c.intern_row.result
    (back_kept c.args.from.now c.args.numbers.now c.ids_back.new.pool c.intern_row.new.self c.ids_back.new.seen.items c.intern_row.ensures.kept c.in_ok-ids.ensures.seen)

pub returns-clause-kept : goal.returns-clause-kept
returns-clause-kept c = kept_along c.args.pool.now c.ids_back.new.pool c.intern_row.new.self c.ids_back.ensures.kept c.intern_row.ensures.kept
