use Rattle.std.proofs.{Common.{◌∙◌, ap, subst, sym}, lemmas.Bool.{OnTrue_at}, lemmas.Result.{IfOk-weaker}}
use Rattle.row_book.proofs.Parts.{ordered_already}
use Rattle.listed.specs.Lists.{In}
use Rattle.clause_pool.specs.Interned.{clauses_at, OfPool}
use Rattle.clause_pool.proofs.Interned.{kept_along}
use Rattle.clause_families.specs.Families.{SameClauses}
use Rattle.clause_families.proofs.Families.{row_interned}
use Rattle.suite_part.proofs.Parted.{same_order}
use Rattle.suite_part.proofs.rows.intern_in_order.Goals as goal
use Rattle.clause_families.proofs.Rewritten.{ids_ascend}

pub returns-then-are_in_order-clause-row : goal.returns-then-are_in_order-clause-row
returns-then-are_in_order-clause-row c =
    IfOk-weaker c.intern_row.result _ _ (λ id at.
    row_interned c.args.pool.now c.intern_row.new.self c.args.ids.now id c.intern_row.ensures.kept c.requires.of_pool at
    ∙ ordered_already (clauses_at c.args.pool.now c.args.ids.now) (OnTrue_at c.if-are_in_order.true c.are_in_order.ensures)) c.intern_row.ensures.ok

pub ids_of-requires : goal.ids_of-requires
ids_of-requires c = λ d i.
    ids_ascend c.args.pool.now c.args.ids.now c.requires.pool c.requires.of_pool d
    (subst (λ z. In d z) c.in_ok-family.ensures (c.put_in_order.ensures.same.back d (subst (λ z. In d z) c.as_slice.ensures.value i)))

pub returns-clause-row : goal.returns-clause-row
returns-clause-row c =
    let all = clauses_at c.args.pool.now c.args.ids.now in
    let family = c.put_in_order.new.family.items in
    let same : SameClauses all family = subst (λ z. SameClauses z family) c.in_ok-family.ensures c.put_in_order.ensures.same in
    IfOk-weaker c.intern_row-2.result _ _ (λ id at.
    row_interned c.ids_of.new.pool c.intern_row-2.new.self c.as_slice-2.result.now id c.intern_row-2.ensures.kept
    (subst (λ z. OfPool c.ids_of.new.pool z) (sym c.as_slice-2.ensures.value) c.in_ok-ordered.ensures.of_pool) at
    ∙ ap (clauses_at c.ids_of.new.pool) c.as_slice-2.ensures.value ∙ c.in_ok-ordered.ensures.ids ∙ c.as_slice.ensures.value
    ∙ same_order all family same c.put_in_order.ensures.in_order) c.intern_row-2.ensures.ok

pub returns-clause-kept : goal.returns-clause-kept
returns-clause-kept c = kept_along c.args.pool.now c.ids_of.new.pool c.intern_row-2.new.self c.ids_of.ensures.kept c.intern_row-2.ensures.kept
