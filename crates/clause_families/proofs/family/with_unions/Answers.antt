-- The parts of the row as the calls lend and make them.
use Rattle.std.proofs.Common.{◌≡◌, ap, ◌∙◌, sym, subst, filter}
use Rattle.std.specs.Option.{ForSome}
use Rattle.clause_pool.specs.Interned.{clauses_at, OfPool}
use Rattle.clause_families.specs.{Branches.{TreeOf}, Families.{SameClauses, all_unions}, Inclusion.{stays}}
use Rattle.clause_families.proofs.UnionRows.{beside_in_order, kept_ascend, kept_in_order, row_is_minimal, unions_apart_from, unions_ascend}
use Rattle.clause_families.proofs.family.with_unions.Goals as goal

pub tree_of_many-requires-clause-rising : goal.tree_of_many-requires-clause-rising
tree_of_many-requires-clause-rising c =
    unions_ascend c.args.pool.now c.args.spent c.args.row.now c.args.useful.now c.requires.pool c.requires.row c.requires.useful c.as_slice.result.now
    (subst (SameClauses (all_unions c.args.spent (clauses_at c.args.pool.now c.args.row.now) (clauses_at c.args.pool.now c.args.useful.now))) (sym c.as_slice.ensures.value) c.in_ok-unions.ensures.same)

-- the clauses that stay, as they are lent
pub tree_beside-requires-clause-in_order : goal.tree_beside-requires-clause-in_order
tree_beside-requires-clause-in_order c = kept_in_order c.args.pool.now c.args.spent c.args.row.now c.args.useful.now c.requires.pool c.requires.row c.requires.useful c.requires.in_order

pub tree_beside-requires-clause-rising : goal.tree_beside-requires-clause-rising
tree_beside-requires-clause-rising c = kept_ascend c.args.pool.now c.args.spent c.args.row.now c.args.useful.now c.requires.pool c.requires.row c.requires.useful

pub ids_beside-requires-clause-tree : goal.ids_beside-requires-clause-tree
ids_beside-requires-clause-tree c =
    subst (λ z. ForSome c.in_ok-tree.tree (λ t. TreeOf t z)) (c.as_slice.ensures.value ∙ sym c.as_slice-3.ensures.value) c.in_ok-tree.ensures.tree

pub put_unions-requires-clause-tree : goal.put_unions-requires-clause-tree
put_unions-requires-clause-tree c =
    subst (λ z. ForSome c.in_ok-tree.tree (λ t. TreeOf t z)) (c.as_slice.ensures.value ∙ sym c.as_slice-4.ensures.value) c.in_ok-tree.ensures.tree

pub put_unions-requires-clause-rising : goal.put_unions-requires-clause-rising
put_unions-requires-clause-rising c =
    unions_ascend c.args.pool.now c.args.spent c.args.row.now c.args.useful.now c.requires.pool c.requires.row c.requires.useful c.as_slice-4.result.now
    (subst (SameClauses (all_unions c.args.spent (clauses_at c.args.pool.now c.args.row.now) (clauses_at c.args.pool.now c.args.useful.now))) (sym c.as_slice-4.ensures.value) c.in_ok-unions.ensures.same)

pub put_unions-requires-clause-apart : goal.put_unions-requires-clause-apart
put_unions-requires-clause-apart c =
    unions_apart_from c.args.pool.now c.args.spent c.args.row.now c.args.useful.now c.requires.pool c.requires.row c.requires.useful c.requires.own c.as_slice-4.result.now
    (subst (SameClauses (all_unions c.args.spent (clauses_at c.args.pool.now c.args.row.now) (clauses_at c.args.pool.now c.args.useful.now))) (sym c.as_slice-4.ensures.value) c.in_ok-unions.ensures.same)

pub put_unions-requires-clause-in_order : goal.put_unions-requires-clause-in_order
put_unions-requires-clause-in_order c =
    beside_in_order c.args.pool.now c.args.spent c.args.row.now c.args.useful.now c.requires.pool c.requires.row c.requires.useful c.requires.in_order
    c.as_slice-3.result.now (clauses_at c.args.pool.now c.in_ok-ids.ids.items) c.in_ok-ids.ensures.ok

pub returns-clause-ok : goal.returns-clause-ok
returns-clause-ok c =
    let same : SameClauses (all_unions c.args.spent (clauses_at c.args.pool.now c.args.row.now) (clauses_at c.args.pool.now c.args.useful.now)) c.as_slice-4.result.now =
    subst (SameClauses (all_unions c.args.spent (clauses_at c.args.pool.now c.args.row.now) (clauses_at c.args.pool.now c.args.useful.now))) (sym c.as_slice-4.ensures.value) c.in_ok-unions.ensures.same in
    let beside : clauses_at c.args.pool.now c.in_ok-ids.ids.items ≡ filter (stays c.args.spent c.as_slice-4.result.now) (clauses_at c.args.pool.now c.args.row.now) =
    c.in_ok-ids.ensures.ok ∙ ap (λ u. filter (stays c.args.spent u) (clauses_at c.args.pool.now c.args.row.now)) (c.as_slice-3.ensures.value ∙ sym c.as_slice-4.ensures.value) in
    ap (clauses_at c.put_unions.new.pool) c.shrink_to_fit.ensures.items
    ∙ row_is_minimal c.args.pool.now c.args.spent c.args.row.now c.args.useful.now c.requires.pool c.requires.row c.requires.useful c.requires.minimal
    c.as_slice-4.result.now (clauses_at c.args.pool.now c.in_ok-ids.ids.items) (clauses_at c.put_unions.new.pool c.put_unions.new.ids.items)
    same beside c.in_ok-put_unions.ensures.ok

pub returns-clause-of_pool : goal.returns-clause-of_pool
returns-clause-of_pool c = subst (OfPool c.put_unions.new.pool) (sym c.shrink_to_fit.ensures.items) c.in_ok-put_unions.ensures.of_pool
