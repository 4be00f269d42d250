use Rattle.std.proofs.Common.{◌++◌, ◌∙◌, ◌||◌, List, ℕ, filter, subst, sym}
use Rattle.clause_pool.specs.Interned.{clause_at, clauses_at}
use Rattle.listed.specs.Lists.{Ascending, has}
use Rattle.row_book.specs.{Pruning.{serves}, Uses.{IsListOf}}
use Rattle.clause_prune.specs.{Filing.{filed_within}, PrunedPackages.{bare_with}}
use Rattle.clause_prune.proofs.{Forcing.{forced_within}, Passing.{forced_is}}
use Rattle.clause_prune.proofs.pruned_package.PrunedPackage.is_forced.Goals as goal

pub has_within-requires-clause-numbers : goal.has_within-requires-clause-numbers
has_within-requires-clause-numbers c = subst Ascending (sym c.as_slice.ensures.value) c.in_ok-found.ensures.ascending

pub returns : goal.returns
returns c =
    let d : List ℕ = clause_at c.args.self.now.pool.now c.args.clause in
    let found : IsListOf (λ n. has (d ++ filter (serves (bare_with c.args.self.now c.args.left.now) d) c.args.filed.now.always) n || filed_within c.args.self.now.pool.now c.args.filed.now.lists d n) c.as_slice.result.now =
    subst (λ z. IsListOf (λ n. has (z ++ filter (serves (bare_with c.args.self.now c.args.left.now) z) c.args.filed.now.always) n || filed_within c.args.self.now.pool.now c.args.filed.now.lists z n) c.as_slice.result.now) c.slice-numbers.ensures.lent
    (subst (IsListOf (λ n. has (c.slice-numbers.result.now ++ filter (serves (bare_with c.args.self.now c.args.left.now) c.slice-numbers.result.now) c.args.filed.now.always) n || filed_within c.args.self.now.pool.now c.args.filed.now.lists c.slice-numbers.result.now n))
    (sym c.as_slice.ensures.value) c.in_ok-found.ensures) in
    c.has_within.ensures
    ∙ forced_within c.args.self.now.pool.now c.args.self.now.rows.now c.args.self.now.number c.args.left.now d c.args.filed.now c.as_slice.result.now c.requires.filed found (clauses_at c.args.self.now.pool.now c.args.left.now) c.requires.asks
    ∙ sym (forced_is c.args.self.now.pool.now c.args.self.now.rows.now c.args.self.now.number c.args.left.now d c.requires.fits.inside)
