use Rattle.std.proofs.{Common.{subst, List, ℕ}, lemmas.Result.{IfOk-weaker}}
use Rattle.clause_pool.specs.{Interned.{clauses_at}, Clauses.{apart_from}}
use Rattle.listed.specs.Lists.{In}
use Rattle.clause_families.specs.Families.{HoldsOneOf, IncludesOneOf, Useful}
use Rattle.clause_families.proofs.Families.{single_inside, useful_of_useful, useful_weaker}
use Rattle.clause_families.proofs.useful.useful_of.Goals as goal

pub useful_beside-requires : goal.useful_beside-requires
useful_beside-requires c id i = c.requires.others id (c.in_ok-fresh.ensures.part id (subst (λ z. In id z) c.as_slice-2.ensures.value i))

pub returns : goal.returns
returns c =
    let there : List (List ℕ) = apart_from c.args.spent (clauses_at c.args.pool.now c.args.row.now) in
    let numbers : List ℕ = c.as_slice.result.now in
    let fresh : List ℕ = c.in_ok-fresh.fresh.items in
    let slice : List ℕ = c.as_slice-2.result.now in
    IfOk-weaker c.useful_beside.result
    (λ useful. Useful c.args.pool.now c.args.user (HoldsOneOf numbers) slice useful.items)
    (λ useful. Useful c.args.pool.now c.args.user (IncludesOneOf there) c.args.others.now useful.items)
    (λ useful h. useful_of_useful c.args.pool.now c.args.user (IncludesOneOf there) c.args.others.now fresh slice useful.items c.as_slice-2.ensures.value c.in_ok-fresh.ensures
    (useful_weaker c.args.pool.now c.args.user (HoldsOneOf numbers) (IncludesOneOf there) slice useful.items
    (single_inside there numbers (λ n i. c.in_ok-singles.ensures n (subst (λ z. In n z) c.as_slice.ensures.value i))) h))
    c.useful_beside.ensures
