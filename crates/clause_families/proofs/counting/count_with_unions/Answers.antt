use Rattle.std.proofs.{Common.{◌≡◌, ◌<◌, ◌+◌, ◌++◌, ℕ, List, arith, length, subst, sym, ◌∙◌, ap₂, not}, lemmas.Result.{IfOk-weaker}}
use Rattle.clause_pool.specs.{Interned.{clauses_at}, Clauses.{apart_from, in_row_order, minimal_of}, Lists.{InOrder}}
use Rattle.clause_pool.proofs.Order.{order_filter}
use Rattle.listed.specs.Lists.{In, Inside, has}
use Rattle.clause_families.specs.{Counting.{own_count, slices}, Families.{all_unions}}
use Rattle.clause_families.proofs.CountedRows.{first_apart, first_minimal, first_rise, kept_beside, kept_rise, row_count_is, rw_parts, second_minimal}
use Rattle.clause_families.proofs.{CountedRows.{second_rise}, Rewritten.{ids_ascend}}
use Rattle.clause_families.proofs.counting.count_with_unions.Goals as goal

pub parts_of-requires-clause-kept : goal.parts_of-requires-clause-kept
parts_of-requires-clause-kept c =
    subst InOrder (sym c.in_ok-kept.ensures) (order_filter (λ d. not (has d c.args.spent)) (clauses_at c.args.pool.now c.args.row.now) c.requires.in_order)

pub parts_of-requires-clause-kept_rise : goal.parts_of-requires-clause-kept_rise
parts_of-requires-clause-kept_rise c =
    kept_rise c.args.spent (clauses_at c.args.pool.now c.args.row.now) (clauses_at c.args.pool.now c.args.useful.now)
    c.in_ok-kept.kept.items c.in_ok-first.first.items c.in_ok-second.second.items
    (ids_ascend c.args.pool.now c.args.row.now c.requires.pool c.requires.row) (ids_ascend c.args.pool.now c.args.useful.now c.requires.pool c.requires.useful)
    c.requires.minimal c.in_ok-kept.ensures c.in_ok-first.ensures.same c.in_ok-second.ensures.same

pub parts_of-requires-clause-first_rise : goal.parts_of-requires-clause-first_rise
parts_of-requires-clause-first_rise c =
    first_rise c.args.spent (clauses_at c.args.pool.now c.args.row.now) (clauses_at c.args.pool.now c.args.useful.now)
    c.in_ok-kept.kept.items c.in_ok-first.first.items c.in_ok-second.second.items
    (ids_ascend c.args.pool.now c.args.row.now c.requires.pool c.requires.row) (ids_ascend c.args.pool.now c.args.useful.now c.requires.pool c.requires.useful)
    c.requires.minimal c.in_ok-kept.ensures c.in_ok-first.ensures.same c.in_ok-second.ensures.same

pub parts_of-requires-clause-second_rise : goal.parts_of-requires-clause-second_rise
parts_of-requires-clause-second_rise c =
    second_rise c.args.spent (clauses_at c.args.pool.now c.args.row.now) (clauses_at c.args.pool.now c.args.useful.now)
    c.in_ok-kept.kept.items c.in_ok-first.first.items c.in_ok-second.second.items
    (ids_ascend c.args.pool.now c.args.row.now c.requires.pool c.requires.row) (ids_ascend c.args.pool.now c.args.useful.now c.requires.pool c.requires.useful)
    c.requires.minimal c.in_ok-kept.ensures c.in_ok-first.ensures.same c.in_ok-second.ensures.same

pub count_all-requires-clause-apart : goal.count_all-requires-clause-apart
count_all-requires-clause-apart c d i =
    first_apart c.args.spent (clauses_at c.args.pool.now c.args.row.now) (clauses_at c.args.pool.now c.args.useful.now)
    c.in_ok-kept.kept.items c.in_ok-first.first.items c.in_ok-second.second.items
    (ids_ascend c.args.pool.now c.args.row.now c.requires.pool c.requires.row) (ids_ascend c.args.pool.now c.args.useful.now c.requires.pool c.requires.useful)
    c.requires.minimal c.in_ok-kept.ensures c.in_ok-first.ensures.same c.in_ok-second.ensures.same d (subst (λ z. In d z) c.in_ok-parts.ensures.first i)

pub count_all-requires-clause-minimal_first : goal.count_all-requires-clause-minimal_first
count_all-requires-clause-minimal_first c d e i j =
    first_minimal c.args.spent (clauses_at c.args.pool.now c.args.row.now) (clauses_at c.args.pool.now c.args.useful.now)
    c.in_ok-kept.kept.items c.in_ok-first.first.items c.in_ok-second.second.items
    (ids_ascend c.args.pool.now c.args.row.now c.requires.pool c.requires.row) (ids_ascend c.args.pool.now c.args.useful.now c.requires.pool c.requires.useful)
    c.requires.minimal c.in_ok-kept.ensures c.in_ok-first.ensures.same c.in_ok-second.ensures.same d e (subst (λ z. In d z) c.in_ok-parts.ensures.first i) (subst (λ z. In e z) c.in_ok-parts.ensures.first j)

pub count_all-requires-clause-minimal_second : goal.count_all-requires-clause-minimal_second
count_all-requires-clause-minimal_second c d e i j =
    second_minimal c.args.spent (clauses_at c.args.pool.now c.args.row.now) (clauses_at c.args.pool.now c.args.useful.now)
    c.in_ok-kept.kept.items c.in_ok-first.first.items c.in_ok-second.second.items
    (ids_ascend c.args.pool.now c.args.row.now c.requires.pool c.requires.row) (ids_ascend c.args.pool.now c.args.useful.now c.requires.pool c.requires.useful)
    c.requires.minimal c.in_ok-kept.ensures c.in_ok-first.ensures.same c.in_ok-second.ensures.same c.requires.minimal_useful d e (subst (λ z. In d z) c.in_ok-parts.ensures.second i) (subst (λ z. In e z) c.in_ok-parts.ensures.second j)

pub count_all-requires-clause-beside : goal.count_all-requires-clause-beside
count_all-requires-clause-beside c d e i j =
    kept_beside c.args.spent (clauses_at c.args.pool.now c.args.row.now) (clauses_at c.args.pool.now c.args.useful.now)
    c.in_ok-kept.kept.items c.in_ok-first.first.items c.in_ok-second.second.items
    (ids_ascend c.args.pool.now c.args.row.now c.requires.pool c.requires.row) (ids_ascend c.args.pool.now c.args.useful.now c.requires.pool c.requires.useful)
    c.requires.minimal c.in_ok-kept.ensures c.in_ok-first.ensures.same c.in_ok-second.ensures.same d e (subst (λ z. In d z) c.in_ok-parts.ensures.kept i) (subst (λ z. In e z) c.in_ok-parts.ensures.first j)

pub count_all-requires-clause-few : goal.count_all-requires-clause-few
count_all-requires-clause-few c =
    subst (λ n. n < 18446744073709551616)
    (row_count_is c.args.spent (clauses_at c.args.pool.now c.args.row.now) (clauses_at c.args.pool.now c.args.useful.now)
    c.in_ok-kept.kept.items c.in_ok-first.first.items c.in_ok-second.second.items
    (ids_ascend c.args.pool.now c.args.row.now c.requires.pool c.requires.row) (ids_ascend c.args.pool.now c.args.useful.now c.requires.pool c.requires.useful)
    c.requires.minimal c.in_ok-kept.ensures c.in_ok-first.ensures.same c.in_ok-second.ensures.same c.requires.in_order ∙ rw_parts c.in_ok-parts.ensures.kept c.in_ok-parts.ensures.first c.in_ok-parts.ensures.second)
    c.requires.few

pub returns : goal.returns
returns c =
    IfOk-weaker c.count_all.result
    (λ count. count ≡ own_count c.in_ok-parts.parts.kept.clauses.items c.in_ok-parts.parts.first.clauses.items c.in_ok-parts.parts.second.clauses.items
    + slices c.in_ok-parts.parts.kept.clauses.items c.in_ok-parts.parts.first.clauses.items c.in_ok-parts.parts.second.clauses.items c.in_ok-parts.parts.first.clauses.items)
    (λ count. count ≡ length (minimal_of (in_row_order (apart_from c.args.spent (clauses_at c.args.pool.now c.args.row.now)
    ++ all_unions c.args.spent (clauses_at c.args.pool.now c.args.row.now) (clauses_at c.args.pool.now c.args.useful.now)))))
    (λ count e. e ∙ sym (row_count_is c.args.spent (clauses_at c.args.pool.now c.args.row.now) (clauses_at c.args.pool.now c.args.useful.now)
    c.in_ok-kept.kept.items c.in_ok-first.first.items c.in_ok-second.second.items
    (ids_ascend c.args.pool.now c.args.row.now c.requires.pool c.requires.row) (ids_ascend c.args.pool.now c.args.useful.now c.requires.pool c.requires.useful)
    c.requires.minimal c.in_ok-kept.ensures c.in_ok-first.ensures.same c.in_ok-second.ensures.same c.requires.in_order ∙ rw_parts c.in_ok-parts.ensures.kept c.in_ok-parts.ensures.first c.in_ok-parts.ensures.second))
    c.count_all.ensures
