use Rattle.std.proofs.Common.{◌∙◌, ap, subst, sym}
use Rattle.clause_pool.specs.{Interned.{clauses_at}, Lists.{InOrder}}
use Rattle.clause_pool.proofs.{Interned.{kept_along}, Order.{ordered_order}}
use Rattle.listed.proofs.Lists.{item_in}
use Rattle.clause_families.specs.Unions.{substituted}
use Rattle.clause_flatten.proofs.{NewRow.{copied_row, id_fits, id_is, id_numbers, id_tidies, row_minimal}, Replacing.{at_same, fit_kept, tidy_kept}}
use Rattle.clause_flatten.proofs.substitution.new_row.Goals as goal

pub row-requires : goal.row-requires
row-requires c = c.requires.fit.of_pool c.index-rows-user.result (item_in c.args.rows.now c.args.user c.index-rows-user.result c.requires.user c.index-rows-user.is)

pub row-requires-2 : goal.row-requires-2
row-requires-2 c = c.requires.fit.of_pool c.index-rows-gone.result (item_in c.args.rows.now c.args.gone c.index-rows-gone.result c.requires.gone c.index-rows-gone.is)

pub rewrite-requires-clause-minimal : goal.rewrite-requires-clause-minimal
rewrite-requires-clause-minimal c =
    row_minimal c.args.pool.now c.args.rows.now c.requires.fit c.requires.tidy c.args.user c.args.gone c.requires.user c.requires.gone c.as_slice.result.now c.as_slice-2.result.now
    (copied_row c.args.pool.now c.args.rows.now c.args.user c.index-rows-user.result c.row.result.now c.in_ok-row.row.items c.as_slice.result.now c.requires.user c.index-rows-user.is c.row.ensures.lent c.in_ok-row.ensures.items c.as_slice.ensures.value)
    (copied_row c.args.pool.now c.args.rows.now c.args.gone c.index-rows-gone.result c.row-2.result.now c.in_ok-own.own.items c.as_slice-2.result.now c.requires.gone c.index-rows-gone.is c.row-2.ensures.lent c.in_ok-own.ensures.items c.as_slice-2.ensures.value)

pub returns-in_err-clauses-clause-stay : goal.returns-in_err-clauses-clause-stay
returns-in_err-clauses-clause-stay c p l = at_same c.args.pool.now c.rewrite.new.pool c.args.rows.now c.requires.fit.is_pool c.rewrite.ensures.kept c.requires.fit p l

pub returns-in_err-clauses-clause-fit : goal.returns-in_err-clauses-clause-fit
returns-in_err-clauses-clause-fit c = fit_kept c.args.pool.now c.rewrite.new.pool c.args.rows.now c.requires.fit.is_pool c.rewrite.ensures.kept c.requires.fit

pub returns-in_err-clauses-clause-tidy : goal.returns-in_err-clauses-clause-tidy
returns-in_err-clauses-clause-tidy c = tidy_kept c.args.pool.now c.rewrite.new.pool c.args.rows.now c.requires.fit.is_pool c.rewrite.ensures.kept c.requires.fit c.requires.tidy

pub intern_row-requires-clause-in_order : goal.intern_row-requires-clause-in_order
intern_row-requires-clause-in_order c =
    subst InOrder (sym (ap (clauses_at c.rewrite.new.pool) c.as_slice-3.ensures.value ∙ c.in_ok-clauses.ensures.ok))
    (ordered_order (substituted c.args.user c.args.gone (clauses_at c.args.pool.now c.as_slice.result.now) (clauses_at c.args.pool.now c.as_slice-2.result.now)))

pub returns-in_err-new-clause-stay : goal.returns-in_err-new-clause-stay
returns-in_err-new-clause-stay c p l = at_same c.args.pool.now c.intern_row.new.self c.args.rows.now c.requires.fit.is_pool (kept_along c.args.pool.now c.rewrite.new.pool c.intern_row.new.self c.in_ok-clauses.ensures.kept c.intern_row.ensures.kept) c.requires.fit p l

pub returns-in_err-new-clause-fit : goal.returns-in_err-new-clause-fit
returns-in_err-new-clause-fit c = fit_kept c.args.pool.now c.intern_row.new.self c.args.rows.now c.requires.fit.is_pool (kept_along c.args.pool.now c.rewrite.new.pool c.intern_row.new.self c.in_ok-clauses.ensures.kept c.intern_row.ensures.kept) c.requires.fit

pub returns-in_err-new-clause-tidy : goal.returns-in_err-new-clause-tidy
returns-in_err-new-clause-tidy c = tidy_kept c.args.pool.now c.intern_row.new.self c.args.rows.now c.requires.fit.is_pool (kept_along c.args.pool.now c.rewrite.new.pool c.intern_row.new.self c.in_ok-clauses.ensures.kept c.intern_row.ensures.kept) c.requires.fit c.requires.tidy

pub returns-clause-ok : goal.returns-clause-ok
returns-clause-ok c =
    id_is c.args.pool.now c.args.rows.now c.requires.fit c.requires.tidy c.args.user c.args.gone c.requires.user c.requires.gone c.as_slice.result.now c.as_slice-2.result.now
    (copied_row c.args.pool.now c.args.rows.now c.args.user c.index-rows-user.result c.row.result.now c.in_ok-row.row.items c.as_slice.result.now c.requires.user c.index-rows-user.is c.row.ensures.lent c.in_ok-row.ensures.items c.as_slice.ensures.value)
    (copied_row c.args.pool.now c.args.rows.now c.args.gone c.index-rows-gone.result c.row-2.result.now c.in_ok-own.own.items c.as_slice-2.result.now c.requires.gone c.index-rows-gone.is c.row-2.ensures.lent c.in_ok-own.ensures.items c.as_slice-2.ensures.value)
    c.rewrite.new.pool c.intern_row.new.self c.in_ok-clauses.clauses.items c.as_slice-3.result.now c.in_ok-new.new c.in_ok-clauses.ensures.kept c.intern_row.ensures.kept
    c.in_ok-clauses.ensures.ok c.in_ok-clauses.ensures.of_pool c.as_slice-3.ensures.value c.in_ok-new.ensures.ok

pub returns-clause-numbers : goal.returns-clause-numbers
returns-clause-numbers c =
    id_numbers c.args.pool.now c.args.rows.now c.requires.fit c.requires.tidy c.args.user c.args.gone c.requires.user c.requires.gone c.as_slice.result.now c.as_slice-2.result.now
    (copied_row c.args.pool.now c.args.rows.now c.args.user c.index-rows-user.result c.row.result.now c.in_ok-row.row.items c.as_slice.result.now c.requires.user c.index-rows-user.is c.row.ensures.lent c.in_ok-row.ensures.items c.as_slice.ensures.value)
    (copied_row c.args.pool.now c.args.rows.now c.args.gone c.index-rows-gone.result c.row-2.result.now c.in_ok-own.own.items c.as_slice-2.result.now c.requires.gone c.index-rows-gone.is c.row-2.ensures.lent c.in_ok-own.ensures.items c.as_slice-2.ensures.value)
    c.rewrite.new.pool c.intern_row.new.self c.in_ok-clauses.clauses.items c.as_slice-3.result.now c.in_ok-new.new c.in_ok-clauses.ensures.kept c.intern_row.ensures.kept
    c.in_ok-clauses.ensures.ok c.in_ok-clauses.ensures.of_pool c.as_slice-3.ensures.value c.in_ok-new.ensures.ok

pub returns-clause-stay : goal.returns-clause-stay
returns-clause-stay c p l = at_same c.args.pool.now c.intern_row.new.self c.args.rows.now c.requires.fit.is_pool (kept_along c.args.pool.now c.rewrite.new.pool c.intern_row.new.self c.in_ok-clauses.ensures.kept c.intern_row.ensures.kept) c.requires.fit p l

pub returns-clause-fit : goal.returns-clause-fit
returns-clause-fit c = fit_kept c.args.pool.now c.intern_row.new.self c.args.rows.now c.requires.fit.is_pool (kept_along c.args.pool.now c.rewrite.new.pool c.intern_row.new.self c.in_ok-clauses.ensures.kept c.intern_row.ensures.kept) c.requires.fit

pub returns-clause-tidy : goal.returns-clause-tidy
returns-clause-tidy c = tidy_kept c.args.pool.now c.intern_row.new.self c.args.rows.now c.requires.fit.is_pool (kept_along c.args.pool.now c.rewrite.new.pool c.intern_row.new.self c.in_ok-clauses.ensures.kept c.intern_row.ensures.kept) c.requires.fit c.requires.tidy

pub returns-clause-fits : goal.returns-clause-fits
returns-clause-fits c =
    id_fits c.args.pool.now c.args.rows.now c.requires.fit c.requires.tidy c.args.user c.args.gone c.requires.user c.requires.gone c.as_slice.result.now c.as_slice-2.result.now
    (copied_row c.args.pool.now c.args.rows.now c.args.user c.index-rows-user.result c.row.result.now c.in_ok-row.row.items c.as_slice.result.now c.requires.user c.index-rows-user.is c.row.ensures.lent c.in_ok-row.ensures.items c.as_slice.ensures.value)
    (copied_row c.args.pool.now c.args.rows.now c.args.gone c.index-rows-gone.result c.row-2.result.now c.in_ok-own.own.items c.as_slice-2.result.now c.requires.gone c.index-rows-gone.is c.row-2.ensures.lent c.in_ok-own.ensures.items c.as_slice-2.ensures.value)
    c.rewrite.new.pool c.intern_row.new.self c.in_ok-clauses.clauses.items c.as_slice-3.result.now c.in_ok-new.new c.in_ok-clauses.ensures.kept c.intern_row.ensures.kept
    c.in_ok-clauses.ensures.ok c.in_ok-clauses.ensures.of_pool c.as_slice-3.ensures.value c.in_ok-new.ensures.ok

pub returns-clause-tidies : goal.returns-clause-tidies
returns-clause-tidies c =
    id_tidies c.args.pool.now c.args.rows.now c.requires.fit c.requires.tidy c.args.user c.args.gone c.requires.user c.requires.gone c.as_slice.result.now c.as_slice-2.result.now
    (copied_row c.args.pool.now c.args.rows.now c.args.user c.index-rows-user.result c.row.result.now c.in_ok-row.row.items c.as_slice.result.now c.requires.user c.index-rows-user.is c.row.ensures.lent c.in_ok-row.ensures.items c.as_slice.ensures.value)
    (copied_row c.args.pool.now c.args.rows.now c.args.gone c.index-rows-gone.result c.row-2.result.now c.in_ok-own.own.items c.as_slice-2.result.now c.requires.gone c.index-rows-gone.is c.row-2.ensures.lent c.in_ok-own.ensures.items c.as_slice-2.ensures.value)
    c.rewrite.new.pool c.intern_row.new.self c.in_ok-clauses.clauses.items c.as_slice-3.result.now c.in_ok-new.new c.in_ok-clauses.ensures.kept c.intern_row.ensures.kept
    c.in_ok-clauses.ensures.ok c.in_ok-clauses.ensures.of_pool c.as_slice-3.ensures.value c.in_ok-new.ensures.ok
