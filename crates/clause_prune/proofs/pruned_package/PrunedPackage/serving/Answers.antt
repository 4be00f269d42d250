use Rattle.std.proofs.{Common.{◌++◌, ◌∙◌, ◌||◌, ℕ, Bool, ap, eqb, filter, subst, sym}, lemmas.List.Sorted.{IsNonDecreasingBy-from_sort, list_any-IsPermutation}}
use Rattle.listed.specs.Lists.{In, has}
use Rattle.row_book.specs.Pruning.{serves}
use Rattle.row_book.proofs.Holders.{gathered}
use Rattle.clause_prune.specs.{Filing.{filed_within}, PrunedPackages.{bare_with}}
use Rattle.clause_prune.proofs.pruned_package.PrunedPackage.serving.Goals as goal

pub asked_serving-requires-clause-asked : goal.asked_serving-requires-clause-asked
asked_serving-requires-clause-asked c = λ n i. c.requires.filed.always n (subst (λ xs. In n xs) c.always.ensures i)

pub push_within-requires-clause-of_pool : goal.push_within-requires-clause-of_pool
push_within-requires-clause-of_pool c = λ place e i. (c.requires.filed.lists place e i).of_pool

pub returns : goal.returns
returns c =
    let test : ℕ → Bool = serves (bare_with c.args.self.now c.args.left.now) c.args.clause.now in
    gathered (λ n. has (c.args.clause.now ++ filter test c.args.filed.now.always) n || filed_within c.args.self.now.pool.now c.args.filed.now.lists c.args.clause.now n) c.push_within.new.found.items c.sort_unstable.new.self.items c.dedup.new.self.items
    (λ m. sym (list_any-IsPermutation (λ k. eqb m k) c.push_within.new.found.items c.sort_unstable.new.self.items c.sort_unstable.ensures.permutation))
    (IsNonDecreasingBy-from_sort (λ x. x) c.sort_unstable.new.self.items c.sort_unstable.ensures.sorted) c.dedup.ensures.filtered
    (λ m. c.in_ok-push_within.ensures m
    ∙ ap (λ xs. has xs m || filed_within c.args.self.now.pool.now c.args.filed.now.lists c.args.clause.now m) (c.in_ok-serving.ensures ∙ ap (λ xs. c.args.clause.now ++ filter test xs) c.always.ensures))
