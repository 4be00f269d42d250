use Rattle.std.proofs.Common.{◌≡◌, ◌≤◌, ◌+◌, ◌*◌, ◌-◌, arith, ap, length, ◌∙◌}
use Rattle.clause_pool.specs.{Interned.{clauses_at}, Clauses.{apart_from}}
use Rattle.clause_flatten.specs.Holding.{clauses_with}
use Rattle.clause_flatten.proofs.Counts.{parts_count, product_small, with_few}
use Rattle.clause_families.proofs.Families.{clauses_length}
use Rattle.clause_flatten.proofs.holding.most_clauses.Goals as goal

pub overflow_sub-result : goal.overflow_sub-result
overflow_sub-result c =
    let size : length (clauses_at c.args.pool.now c.args.row.now) ≡ length c.args.row.now = clauses_length c.args.pool.now c.args.row.now in
    let few : length (clauses_with c.args.spent (clauses_at c.args.pool.now c.args.row.now)) ≤ length (clauses_at c.args.pool.now c.args.row.now) =
    with_few c.args.spent (clauses_at c.args.pool.now c.args.row.now) in
    omega (arith, c.count_holding-with.ensures)

pub overflow_mul-result : goal.overflow_mul-result
overflow_mul-result c =
    let size : length (clauses_at c.args.pool.now c.args.row.now) ≡ length c.args.row.now = clauses_length c.args.pool.now c.args.row.now in
    let few : length (clauses_with c.args.spent (clauses_at c.args.pool.now c.args.row.now)) ≤ length (clauses_at c.args.pool.now c.args.row.now) =
    with_few c.args.spent (clauses_at c.args.pool.now c.args.row.now) in
    let small : c.count_holding-with.result * length c.args.others.now ≤ 18446744065119617025 =
    product_small c.count_holding-with.result (length c.args.others.now) (omega (arith, c.count_holding-with.ensures, c.requires.few)) c.requires.few_others in
    omega arith

pub overflow_add-result : goal.overflow_add-result
overflow_add-result c =
    let size : length (clauses_at c.args.pool.now c.args.row.now) ≡ length c.args.row.now = clauses_length c.args.pool.now c.args.row.now in
    let few : length (clauses_with c.args.spent (clauses_at c.args.pool.now c.args.row.now)) ≤ length (clauses_at c.args.pool.now c.args.row.now) =
    with_few c.args.spent (clauses_at c.args.pool.now c.args.row.now) in
    let small : c.count_holding-with.result * length c.args.others.now ≤ 18446744065119617025 =
    product_small c.count_holding-with.result (length c.args.others.now) (omega (arith, c.count_holding-with.ensures, c.requires.few)) c.requires.few_others in
    omega (arith, c.requires.few)

pub returns : goal.returns
returns c =
    let size : length (clauses_at c.args.pool.now c.args.row.now) ≡ length c.args.row.now = clauses_length c.args.pool.now c.args.row.now in
    let parts : length (clauses_with c.args.spent (clauses_at c.args.pool.now c.args.row.now)) + length (apart_from c.args.spent (clauses_at c.args.pool.now c.args.row.now))
    ≡ length (clauses_at c.args.pool.now c.args.row.now) =
    parts_count c.args.spent (clauses_at c.args.pool.now c.args.row.now) in
    let without : length c.args.row.now - c.count_holding-with.result ≡ length (apart_from c.args.spent (clauses_at c.args.pool.now c.args.row.now)) =
    omega (arith, c.count_holding-with.ensures) in
    ap (λ n. n + c.count_holding-with.result * length c.args.others.now) without
    ∙ ap (λ n. length (apart_from c.args.spent (clauses_at c.args.pool.now c.args.row.now)) + n * length c.args.others.now) c.count_holding-with.ensures
