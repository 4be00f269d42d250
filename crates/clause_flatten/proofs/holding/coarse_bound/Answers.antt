use Rattle.std.proofs.Common.{◌≤◌, ◌*◌, arith, length}
use Rattle.clause_flatten.proofs.Counts.{product_small}
use Rattle.clause_flatten.proofs.holding.coarse_bound.Goals as goal

pub overflow_mul-result : goal.overflow_mul-result
overflow_mul-result c =
    let small : length c.args.row.now * length c.args.others.now ≤ 18446744065119617025 = product_small (length c.args.row.now) (length c.args.others.now) c.requires.few c.requires.few_others in
    omega arith

pub overflow_add-result : goal.overflow_add-result
overflow_add-result c =
    let small : length c.args.row.now * length c.args.others.now ≤ 18446744065119617025 = product_small (length c.args.row.now) (length c.args.others.now) c.requires.few c.requires.few_others in
    omega (arith, c.requires.few)
