use Rattle.std.proofs.Common.{◌<◌, ◌≤◌, ◌+◌, ℕ, get_or, length, arith}
use Rattle.clause_pool.specs.Within.{lead, rest_at}
use Rattle.clause_pool.proofs.Groups.{group_is, in_turn}
use Rattle.clause_pool.proofs.within.group_of.Goals as goal

pub returns : goal.returns
returns c =
    let start_before : (k : ℕ) → k < c.first_from-start.result → lead (rest_at c.args.pool.now c.args.depth (get_or c.args.group.now k 0)) ≤ c.args.number =
    λ k l. omega (arith, c.first_from-start.ensures.before k l, c.from.ensures) in
    let start_behind : (k : ℕ) → c.first_from-start.result ≤ k → k < length c.args.group.now → c.args.number < lead (rest_at c.args.pool.now c.args.depth (get_or c.args.group.now k 0)) =
    λ k l u. omega (arith, c.first_from-start.ensures.behind k l u, c.from.ensures) in
    let end_before : (k : ℕ) → k < c.first_from-end.result → lead (rest_at c.args.pool.now c.args.depth (get_or c.args.group.now k 0)) ≤ c.args.number + 1 =
    λ k l. omega (arith, c.first_from-end.ensures.before k l, c.from-2.ensures) in
    let end_behind : (k : ℕ) → c.first_from-end.result ≤ k → k < length c.args.group.now → c.args.number + 1 < lead (rest_at c.args.pool.now c.args.depth (get_or c.args.group.now k 0)) =
    λ k l u. omega (arith, c.first_from-end.ensures.behind k l u, c.from-2.ensures) in
    group_is c.args.pool.now c.args.depth c.args.group.now c.requires.order c.args.number c.first_from-start.result c.first_from-end.result start_before start_behind end_before end_behind
    (in_turn c.args.pool.now c.args.depth c.args.group.now c.requires.order c.args.number c.first_from-start.result c.first_from-end.result start_before start_behind end_before end_behind
    c.first_from-start.ensures.within)
