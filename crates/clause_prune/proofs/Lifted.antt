-- Healthy sets of the pruned repository, taken back through the idle steps.
use Rattle.std.proofs.Common.{◌≡◌, ℕ, ◌<◌, Bool, true, false, ◌||◌, cond, List, [], ◌∷◌, ◌++◌, length, refl, sym, ap, subst, Option, Some, None}
use Rattle.std.specs.{List.{list_any, find}, Prelude.{is_some}}
use Rattle.row_book.specs.{Sets.{NumSet}, Repository.{Repository, Healthy, clauses_of}, Flattening.{packages}, Sound.{TidyRepository}}
use Rattle.row_book.specs.Pruning.{made_dead, is_dead, is_forced, is_idle, without_clause, prune_clause, prune_clauses, prune_package, prune_over, prune}
use Rattle.row_book.specs.Pruning.{lift_idle, IdleClause, step_by, idle_steps, lift_all}
use Rattle.listed.specs.Lists.{In, here, there}
use Rattle.listed.proofs.Lists.{find_some}
use Rattle.clause_prune.specs.Laws.{PruneLifts}
use Rattle.clause_prune.proofs.Dropping.{Step, dead_keeps_lem, forced_keeps_lem, idle_lifts_ranged, clause_step, package_step}

pub any_found : (f : ℕ → Bool) (xs : List ℕ) → list_any f xs ≡ is_some (find f xs)
any_found f [] = refl
any_found f (x ∷ xs) = pick (f x) (any_found f xs)
  where
    pick : (b : Bool) → list_any f xs ≡ is_some (find f xs) → (b || list_any f xs) ≡ is_some (cond b (Some x) (find f xs))
    pick true e = refl
    pick false e = e

pub back_append : (I : NumSet) (xs ys : List IdleClause) → lift_all I (xs ++ ys) ≡ lift_all (lift_all I ys) xs
back_append I [] ys = refl
back_append I (s ∷ xs) ys = ap (λ K. lift_idle K s.«package» s.clause s.added) (back_append I xs ys)

clause_lift : (R : Repository) (p : ℕ) (d : List ℕ) (I : NumSet) → TidyRepository R → ((n : ℕ) → In n d → n < length R.clauses) →
    Healthy (prune_clause R p d).left I → Healthy R (lift_all I (prune_clause R p d).steps)
clause_lift R p d I t range h =
    pick (is_forced R p d) refl (find (is_idle R p d) d) refl
    (subst (λ b. Healthy (cond (is_forced R p d || b) (without_clause R p d) R) I) (any_found (is_idle R p d) d) h)
  where
    pick : (b : Bool) → is_forced R p d ≡ b → (o : Option ℕ) → find (is_idle R p d) d ≡ o →
        Healthy (cond (b || is_some o) (without_clause R p d) R) I → Healthy R (lift_all I (cond b [] (step_by p d o)))
    pick true e o f g = (forced_keeps_lem R p d I t e).1 g
    pick false e None f g = g
    pick false e (Some x) f g = idle_lifts_ranged R p d x I t range (find_some (is_idle R p d) d x f).1 g

clauses_lift : (ds : List (List ℕ)) (R : Repository) (p : ℕ) (I : NumSet) → TidyRepository R → ((d : List ℕ) → In d ds → (n : ℕ) → In n d → n < length R.clauses) →
    Healthy (prune_clauses R p ds).left I → Healthy R (lift_all I (prune_clauses R p ds).steps)
clauses_lift [] R p I t range h = h
clauses_lift (d ∷ ds) R p I t range h =
    let s : Step R (prune_clause R p d).left = clause_step R p d t (range d here) in
    let rest : Healthy (prune_clause R p d).left (lift_all I (prune_clauses (prune_clause R p d).left p ds).steps) =
    clauses_lift ds (prune_clause R p d).left p I s.tidy (λ c i n j. subst (λ k. n < k) (sym s.size) (range c (there i) n j)) h in
    subst (λ K. Healthy R K) (sym (back_append I (prune_clause R p d).steps (prune_clauses (prune_clause R p d).left p ds).steps))
    (clause_lift R p d (lift_all I (prune_clauses (prune_clause R p d).left p ds).steps) t (range d here) rest)

package_lift : (R : Repository) (p : ℕ) (I : NumSet) → TidyRepository R → Healthy (prune_package R p).left I → Healthy R (lift_all I (prune_package R p).steps)
package_lift R p I t h = pick (is_dead R p) refl h
  where
    pick : (b : Bool) → is_dead R p ≡ b → Healthy (cond b (made_dead R p) (prune_clauses R p (clauses_of R p))).left I → Healthy R (lift_all I (cond b (made_dead R p) (prune_clauses R p (clauses_of R p))).steps)
    pick true e g = (dead_keeps_lem R p I e).1 g
    pick false e g = clauses_lift (clauses_of R p) R p I t (λ d i. (t.sound.clauses p d i).1) g

over_lift : (ps : List ℕ) (R : Repository) (I : NumSet) → TidyRepository R → Healthy (prune_over R ps).left I → Healthy R (lift_all I (prune_over R ps).steps)
over_lift [] R I t h = h
over_lift (p ∷ ps) R I t h =
    let s : Step R (prune_package R p).left = package_step R p t in
    subst (λ K. Healthy R K) (sym (back_append I (prune_package R p).steps (prune_over (prune_package R p).left ps).steps))
    (package_lift R p (lift_all I (prune_over (prune_package R p).left ps).steps) t
    (over_lift ps (prune_package R p).left I s.tidy h))

pub prune_lifts_lem : PruneLifts
unfolding prune idle_steps
prune_lifts_lem R I t h = over_lift (packages R) R I t h
